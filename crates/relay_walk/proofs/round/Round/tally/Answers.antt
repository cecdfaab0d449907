use Rattle.std.proofs.Common.{lit<, inr, inl, ℕ, true, ◌≡◌, ◌∷◌, map, sym, subst, ◌∙◌, arith}
use Rattle.std.proofs.lemmas.List.{length_push}
use Rattle.node_grid.specs.CapacityLaws.{capacity-le}
use Rattle.node_grid.specs.NodeSet.{has_id}
use Rattle.node_grid.specs.ListFacts.{split_more}
use Rattle.node_grid.specs.SetFacts.{member-lt}
use Rattle.relay_terms.specs.Terms.{said, term_in}
use Rattle.relay_terms.specs.Tallies.{IsTally}
use Rattle.relay_walk.specs.Walking.{IsMoved, next_in}
use Rattle.relay_walk.proofs.Loops.{turn, split_all, map_more, moved_none, moved_more, next_same, more_at, have_last, lasts_are}
use Rattle.relay_walk.proofs.round.Round.tally.Goals as goal

pub loop-member-init : goal.loop-member-init
loop-member-init g c = record {
  can = tt;
  ends = tt;
  split = cc;
  moved = moved_none c.args.self.now;
  tally = c.of-tally.ensures.tally;
  few = omega (arith, c.of-tally.ensures.few);
}

pub next_term-term-requires : goal.next_term-term-requires
next_term-term-requires g c =
    let t = turn g.row.N c.args.others.now c.loop-member.yielded c.next.new.self c.loop-member.member-iterator c.in-Some.member c.iter-member-items.ensures.ids c.loop-member.invariant.split c.in-Some.ensures.steps in (
      elim c.requires.more.sized [ inl e ↦ rw e (lit< tt) | inr e ↦ rw e (lit< tt) ],
      more_at c.loop-member.yielded c.args.self.now c.loop-member.self c.loop-member.invariant.moved c.in-Some.member t.low c.args.others.now c.requires.more t.on t.fresh,
    )

pub add-requires : goal.add-requires
add-requires g c =
    let t = turn g.row.N c.args.others.now c.loop-member.yielded c.next.new.self c.loop-member.member-iterator c.in-Some.member c.iter-member-items.ensures.ids c.loop-member.invariant.split c.in-Some.ensures.steps in
    omega (arith, t.short, c.iter-member-items.ensures.few, c.loop-member.invariant.few, capacity-le g.row.N c.requires.more.sized)

pub loop-member-preserved : goal.loop-member-preserved
loop-member-preserved g c =
    let i = c.loop-member.invariant in
    let t = turn g.row.N c.args.others.now c.loop-member.yielded c.next.new.self c.loop-member.member-iterator c.in-Some.member c.iter-member-items.ensures.ids i.split c.in-Some.ensures.steps in
    let read = term_in g.V.Item.of_bytes in
    record {
      can = tt;
      ends = tt;
      split = split_more c.args.others.now c.loop-member.yielded c.next.new.self c.loop-member.member-iterator c.in-Some.member i.split c.in-Some.ensures.steps;
      moved = moved_more c.loop-member.yielded c.in-Some.member c.args.self.now c.loop-member.self c.next_term-term.new.self i.moved c.next_term-term.ensures.moved t.fresh;
      tally = subst (λ xs. IsTally g.V.PartialEq.eq (said c.args.own.now ∷ xs) c.add.new.self)
          (map_more (next_in read c.args.self.now) c.loop-member.yielded c.in-Some.member (said c.next_term-term.result)
          (c.next_term-term.ensures.term ∙ next_same c.loop-member.yielded c.args.self.now c.loop-member.self i.moved c.in-Some.member t.low read t.fresh))
          (c.add.ensures.tally (said c.args.own.now ∷ map (next_in read c.args.self.now) c.loop-member.yielded) i.tally);
      few = omega (arith, i.few, c.add.ensures.few, length_push c.loop-member.yielded c.in-Some.member);
    }

pub returns : goal.returns
returns g c =
    let i = c.loop-member.invariant in
    let all = split_all c.args.others.now c.loop-member.yielded c.loop-member.member-iterator i.split c.in-None.ensures.steps.0 in
    let moved = subst (λ xs. IsMoved xs c.args.self.now c.loop-member.self) all i.moved in
    let low = λ (q : ℕ) (on : has_id c.args.others.now q ≡ true). member-lt g.row.N c.args.others.now q c.iter-member-items.ensures.ids on in
    let same = lasts_are (term_in g.V.Item.of_bytes) c.args.others.now c.args.self.now c.loop-member.self moved low in
    record {
      tally = subst (λ xs. IsTally g.V.PartialEq.eq (said c.args.own.now ∷ xs) c.loop-member.tally) (sym same)
          (subst (λ xs. IsTally g.V.PartialEq.eq (said c.args.own.now ∷ map (next_in (term_in g.V.Item.of_bytes) c.args.self.now) xs) c.loop-member.tally) all i.tally);
      same = same;
      read = have_last c.args.others.now c.args.self.now c.loop-member.self c.requires.more moved;
      moved = moved;
    }
