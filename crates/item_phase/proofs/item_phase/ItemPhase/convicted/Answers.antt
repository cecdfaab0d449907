use Rattle.std.proofs.Common.{ℕ, ◌≡◌, ◌<◌, ◌⊎◌, ◌++◌, ◌∷◌, Bool, true, false, List, sym, ap, ◌∙◌, inl, inr, lit<}
use Rattle.std.proofs.lemmas.Bool.{cases_Bool}
use Rattle.node_grid.specs.NodeSet.{has_id, minus_of}
use Rattle.node_grid.specs.ListFacts.{split_more, split_all}
use Rattle.node_grid.specs.SetFacts.{next_on, has_in_front}
use Rattle.protocol.specs.FurtherKinds.{convicts_member}
use Rattle.heard_links.specs.declared.phase.Phase.{Phase}
use Rattle.heard_links.specs.Talks.{IsSet, members_at}
use Rattle.heard_links.proofs.Sets.{in_use, member_low}
use Rattle.item_phase.specs.Settled.{listener}
use Rattle.item_phase.proofs.Against.{put_here, put_others, left_here, left_others}
use Rattle.item_phase.proofs.Marking.{in_minus, taken_out}
use Rattle.item_phase.proofs.Standing.{against_stranger, against_plain}
use Rattle.item_phase.proofs.item_phase.ItemPhase.convicted.Goals.{else-c-i-via-then-c-i+else-is_against, else-c-i-via-else-c-i}
use Rattle.item_phase.proofs.item_phase.ItemPhase.convicted.Goals as goal

pub loop-c-init : goal.loop-c-init
loop-c-init g c = record {
  can = tt;
  ends = tt;
  split = sym (c.into_iter-c-iterator.ensures.into_iter_gives ∙ c.iter-c-items.ensures.members ∙ c.minus.ensures ∙ ap (λ (s : List ℕ). minus_of s c.args.self.now.seen.plain) c.members_of.ensures);
  here = λ k on. absurd (cc);
  others = λ k off. ap (λ (s : List ℕ). has_id s k) c.empty-convicted.ensures;
}

pub is_against-requires : goal.is_against-requires
is_against-requires g c =
    let x = c.args.phase.now in
    let plain : List ℕ = c.args.self.now.seen.plain in
    let members : List ℕ = members_at x c.args.i in
    let set = c.requires.settled.heard.set in
    let cap = set.capacity in
    let at = in_minus members plain c.in-Some.c (next_on (minus_of members plain) c.loop-c.yielded c.next.new.self c.loop-c.c-iterator c.in-Some.c c.loop-c.invariant.split c.in-Some.ensures.steps) in (
      elim cap [ inl e ↦ rw e (lit< tt) | inr e ↦ rw e (lit< tt) ],
      (
        elim cap [ inl e ↦ rw e (lit< tt) | inr e ↦ rw e (lit< tt) ],
        (c.requires.settled, (c.requires.node, (c.requires.version, (in_use x set c.args.i c.in-Some.c at.0, c.if-c-i.true)))),
      ),
    )

-- the members that were gone through, and the next one, are below N
lows : {N : ℕ} (x : Phase N) → IsSet x → (i : ℕ) (plain ys left : List ℕ) → minus_of (members_at x i) plain ≡ ys ++ left → (k : ℕ) → has_id ys k ≡ true → k < N
lows x set i plain ys left split k on = member_low x set i k (in_minus (members_at x i) plain k (ap (λ (s : List ℕ). has_id s k) split ∙ has_in_front ys left k on)).0

next_low : {N : ℕ} (x : Phase N) → IsSet x → (i : ℕ) (plain ys rest left : List ℕ) (q : ℕ) → minus_of (members_at x i) plain ≡ ys ++ left → left ≡ q ∷ rest → q < N
next_low x set i plain ys rest left q split steps = member_low x set i q (in_minus (members_at x i) plain q (next_on (minus_of (members_at x i) plain) ys rest left q split steps)).0

pub loop-c-preserved-then-is_against : goal.loop-c-preserved-then-is_against
loop-c-preserved-then-is_against g c =
    let n = g.row.N in
    let i : ℕ = c.args.i in
    let q : ℕ = c.in-Some.c in
    let x = c.args.phase.now in
    let set = c.requires.settled.heard.set in
    let plain : List ℕ = c.args.self.now.seen.plain in
    let ys = c.loop-c.yielded in
    let old : List ℕ = c.loop-c.convicted in
    let inv = c.loop-c.invariant in
    let f : ℕ → Bool = convicts_member g.V.PartialEq.eq (listener g.V.Item.form x c.args.self.now.links i) in
    let steps = c.in-Some.ensures.steps in
    let below = lows x set i plain ys c.loop-c.c-iterator inv.split in
    record {
      can = tt;
      ends = tt;
      split = split_more (minus_of (members_at x i) plain) ys c.next.new.self c.loop-c.c-iterator q inv.split steps;
      here = put_here n i f old ys q below inv.here inv.others c.put.new.self c.put.ensures (next_low x set i plain ys c.next.new.self c.loop-c.c-iterator q inv.split steps) (sym c.is_against.ensures ∙ c.if-is_against.true);
      others = put_others n i f old ys q below inv.here inv.others c.put.new.self c.put.ensures;
    }

pub loop-c-preserved : goal.loop-c-preserved
loop-c-preserved g c =
    let n = g.row.N in
    let i : ℕ = c.args.i in
    let q : ℕ = c.in-Some.c in
    let x = c.args.phase.now in
    let plain : List ℕ = c.args.self.now.seen.plain in
    let ys = c.loop-c.yielded in
    let old : List ℕ = c.loop-c.convicted in
    let inv = c.loop-c.invariant in
    let f : ℕ → Bool = convicts_member g.V.PartialEq.eq (listener g.V.Item.form x c.args.self.now.links i) in
    let steps = c.in-Some.ensures.steps in
    let below = lows x c.requires.settled.heard.set i plain ys c.loop-c.c-iterator inv.split in
    let out : (q ≡ i) ⊎ (f q ≡ false) = elim c.else-c-i.branch [
      | else-c-i-via-then-c-i+else-is_against w ↦ inr (sym w.is_against.ensures ∙ w.if-is_against.false)
      | else-c-i-via-else-c-i w ↦ inl w.if-c-i.false
    ] in
    record {
      can = tt;
      ends = tt;
      split = split_more (minus_of (members_at x i) plain) ys c.next.new.self c.loop-c.c-iterator q inv.split steps;
      here = left_here n i f old ys q below inv.here inv.others out;
      others = left_others n i f old ys q below inv.here inv.others;
    }

pub returns : goal.returns
returns g c = λ k ne.
    let a = c.args in
    let x = a.phase.now in
    let members : List ℕ = members_at x a.i in
    let plain : List ℕ = a.self.now.seen.plain in
    let inv = c.loop-c.invariant in
    let all : minus_of members plain ≡ c.loop-c.yielded = split_all (minus_of members plain) c.loop-c.yielded c.loop-c.c-iterator inv.split c.in-None.ensures.steps.0 in
    elim (cases_Bool (has_id (minus_of members plain) k)) [
      | inl contested ↦ inv.here k (ap (λ (s : List ℕ). has_id s k) (sym all) ∙ contested) ne
      | inr out ↦
          inv.others k (ap (λ (s : List ℕ). has_id s k) (sym all) ∙ out)
          ∙ elim (cases_Bool (has_id members k)) [
            | inl member ↦ against_plain g.V.PartialEq.eq g.V.Item.form g.V.Item.first_slot g.V.Item.tells x a.self.now c.requires.settled a.i c.requires.node k member ne (taken_out members plain k out member)
            | inr off ↦ against_stranger g.V.PartialEq.eq g.V.Item.form g.V.Item.first_slot g.V.Item.tells x a.self.now c.requires.settled a.i c.requires.node k off
          ]
    ]
