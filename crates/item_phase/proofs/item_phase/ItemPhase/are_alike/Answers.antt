use Rattle.std.proofs.Common.{rules, ℕ, ◌≡◌, List, true, sym, ap, ◌∙◌, inl, inr, lit<}
use Rattle.std.proofs.lemmas.Bool.{cases_Bool, not-false}
use Rattle.std.proofs.lemmas.Slice.Eq.{bytes_eq-Decides}
use Rattle.node_grid.specs.NodeSet.{has_id, minus_of}
use Rattle.node_grid.specs.ListFacts.{split_more, split_all}
use Rattle.node_grid.specs.SetFacts.{next_on, each_more}
use Rattle.omh_paths.specs.declared.wrapped.Wrapped.TheVariants.{Plain}
use Rattle.omh.specs.Omh.{settled_from}
use Rattle.heard_links.specs.Hearing.{item_of}
use Rattle.heard_links.proofs.Sets.{node_low}
use Rattle.heard_links.specs.Talks.{members_at}
use Rattle.item_phase.specs.Settled.{listener}
use Rattle.item_phase.proofs.Marking.{in_minus, taken_out}
use Rattle.item_phase.proofs.Standing.{alike_said}
use Rattle.item_phase.proofs.item_phase.ItemPhase.are_alike.Goals as goal

pub loop-c-init : goal.loop-c-init
loop-c-init g c = record {
  can = tt;
  ends = tt;
  split = sym (c.into_iter-c-iterator.ensures.into_iter_gives ∙ c.iter-c-items.ensures.members ∙ c.minus.ensures ∙ ap (λ (s : List ℕ). minus_of s c.args.self.now.seen.plain) c.members_of-members.ensures);
  same = λ k on. absurd (cc);
}

pub settled-requires : goal.settled-requires
settled-requires g c =
    let x = c.args.phase.now in
    let plain : List ℕ = c.args.self.now.seen.plain in
    let members : List ℕ = members_at x c.args.i in
    let cap = c.requires.settled.heard.set.capacity in
    let at = in_minus members plain c.in-Some.c (next_on (minus_of members plain) c.loop-c.yielded c.next.new.self c.loop-c.c-iterator c.in-Some.c c.loop-c.invariant.split c.in-Some.ensures.steps) in (
      elim cap [ inl e ↦ rw e (lit< tt) | inr e ↦ rw e (lit< tt) ],
      (elim cap [ inl e ↦ rw e (lit< tt) | inr e ↦ rw e (lit< tt) ], (c.requires.settled, (c.requires.one, at.0))),
    )

pub settled-requires-in-loop-c : goal.settled-requires-in-loop-c
settled-requires-in-loop-c g c =
    let x = c.args.phase.now in
    let plain : List ℕ = c.args.self.now.seen.plain in
    let members : List ℕ = members_at x c.args.i in
    let same : members ≡ members_at x c.args.j =
    sym c.members_of-members.ensures
    ∙ (bytes_eq-Decides c.members_of-members.result c.members_of.result).0 (not-false _ (sym c.ne.ensures ∙ c.if-ne.false))
    ∙ c.members_of.ensures
    in
    let cap = c.requires.settled.heard.set.capacity in
    let at = in_minus members plain c.in-Some.c (next_on (minus_of members plain) c.loop-c.yielded c.next.new.self c.loop-c.c-iterator c.in-Some.c c.loop-c.invariant.split c.in-Some.ensures.steps) in (
      elim cap [ inl e ↦ rw e (lit< tt) | inr e ↦ rw e (lit< tt) ],
      (elim cap [ inl e ↦ rw e (lit< tt) | inr e ↦ rw e (lit< tt) ], (c.requires.settled, (c.requires.other, ap (λ (ms : List ℕ). has_id ms c.in-Some.c) (sym same) ∙ at.0))),
    )

pub loop-c-preserved : goal.loop-c-preserved
loop-c-preserved g c =
    let x = c.args.phase.now in
    let links = c.args.self.now.links in
    let i : ℕ = c.args.i in
    let j : ℕ = c.args.j in
    let inv = c.loop-c.invariant in
    record {
      can = tt;
      ends = tt;
      split = split_more (minus_of (members_at x i) c.args.self.now.seen.plain) c.loop-c.yielded c.next.new.self c.loop-c.c-iterator c.in-Some.c inv.split c.in-Some.ensures.steps;
      same = each_more
          (λ (q : ℕ). settled_from g.V.PartialEq.eq (listener g.V.Item.form x links i) (Plain (item_of links i)) q ≡ settled_from g.V.PartialEq.eq (listener g.V.Item.form x links j) (Plain (item_of links j)) q)
          c.loop-c.yielded c.in-Some.c inv.same
          (sym c.settled.ensures ∙ c.is_same.ensures c.if-not-is_same.false ∙ c.settled-in-loop-c.ensures);
    }

pub returns-clause-alike : goal.returns-clause-alike
returns-clause-alike g c = λ _ k member.
    let x = c.args.phase.now in
    let same : members_at x c.args.i ≡ members_at x c.args.j =
    sym c.members_of-members.ensures
    ∙ (bytes_eq-Decides c.members_of-members.result c.members_of.result).0 (not-false _ (sym c.ne.ensures ∙ c.if-ne.false))
    ∙ c.members_of.ensures
    in
    let plain : List ℕ = c.args.self.now.seen.plain in
    let members : List ℕ = members_at x c.args.i in
    let all : minus_of members plain ≡ c.loop-c.yielded = split_all (minus_of members plain) c.loop-c.yielded c.loop-c.c-iterator c.loop-c.invariant.split c.in-None.ensures.steps.0 in
    elim (cases_Bool (has_id (minus_of members plain) k)) [
      | inl contested ↦ c.loop-c.invariant.same k (ap (λ (ms : List ℕ). has_id ms k) (sym all) ∙ contested)
      | inr out ↦ alike_said g.V.PartialEq.eq g.V.Item.form g.V.Item.first_slot g.V.Item.tells x c.args.self.now c.requires.settled c.args.i c.args.j k c.requires.one c.requires.other same member
          (taken_out members plain k out member)
    ]

pub returns-then-self-clause-members : goal.returns-then-self-clause-members
returns-then-self-clause-members g c = λ _. c.requires.settled.seen.same c.if-self.true c.args.i c.args.j c.requires.one c.requires.other

pub returns-then-self-clause-alike : goal.returns-then-self-clause-alike
returns-then-self-clause-alike g c = λ _ k member.
    let x = c.args.phase.now in
    let seen = c.requires.settled.seen in
    let all = c.if-self.true in
    alike_said g.V.PartialEq.eq g.V.Item.form g.V.Item.first_slot g.V.Item.tells x c.args.self.now c.requires.settled c.args.i c.args.j k c.requires.one c.requires.other
    (seen.same all c.args.i c.args.j c.requires.one c.requires.other) member (seen.plain all c.args.i k c.requires.one member)

pub returns-clause-members : goal.returns-clause-members
returns-clause-members g c = λ _.
    sym c.members_of-members.ensures
    ∙ (bytes_eq-Decides c.members_of-members.result c.members_of.result).0 (not-false _ (sym c.ne.ensures ∙ c.if-ne.false))
    ∙ c.members_of.ensures

pub members_of-members-requires : goal.members_of-members-requires
members_of-members-requires g c =
    let set = c.requires.settled.heard.set in
    (elim set.capacity [ inl e ↦ rw e (lit< tt) | inr e ↦ rw e (lit< tt) ], (lit< tt, node_low c.args.phase.now set c.args.i (set.awake c.args.i c.requires.one)))

pub members_of-requires : goal.members_of-requires
members_of-requires g c =
    let set = c.requires.settled.heard.set in
    (elim set.capacity [ inl e ↦ rw e (lit< tt) | inr e ↦ rw e (lit< tt) ], (lit< tt, node_low c.args.phase.now set c.args.j (set.awake c.args.j c.requires.other)))
