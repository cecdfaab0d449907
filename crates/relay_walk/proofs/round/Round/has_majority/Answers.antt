use Rattle.std.proofs.Common.{lit<, inr, inl, ◌∷◌, [], map, ap, subst, ◌∙◌, arith}
use Rattle.std.proofs.lemmas.List.{length_push}
use Rattle.node_grid.specs.CapacityLaws.{capacity-le}
use Rattle.node_grid.specs.ListFacts.{split_more}
use Rattle.omh_paths.specs.Majority.{has_majority as has_most}
use Rattle.relay_terms.specs.Terms.{said, term_in}
use Rattle.relay_terms.specs.Tallies.{IsCount}
use Rattle.relay_walk.specs.Walking.{last_in}
use Rattle.relay_walk.proofs.Loops.{turn, split_all, map_more, one_last}
use Rattle.relay_walk.proofs.round.Round.has_majority.Goals as goal

pub loop-member-init : goal.loop-member-init
loop-member-init g c = record {
  can = tt;
  ends = tt;
  split = cc;
  count = c.add.ensures.count [] c.of-count.ensures.count;
  value = c.add.ensures.value ∙ c.of-count.ensures.value;
  few_votes = omega (arith, c.add.ensures.few_votes, c.of-count.ensures.few_votes);
  few_support = omega (arith, c.add.ensures.few_support, c.of-count.ensures.few_support);
}

pub last_term-term-requires : goal.last_term-term-requires
last_term-term-requires g c =
    let t = turn g.row.N c.args.others.now c.loop-member.yielded c.next.new.self c.loop-member.member-iterator c.in-Some.member c.iter-member-items.ensures.ids c.loop-member.invariant.split c.in-Some.ensures.steps in (
      elim c.requires.read.sized [ inl e ↦ rw e (lit< tt) | inr e ↦ rw e (lit< tt) ],
      one_last c.args.others.now c.args.self.now c.in-Some.member c.requires.read t.on,
    )

pub add-requires-in-loop-member-clause-few_votes : goal.add-requires-in-loop-member-clause-few_votes
add-requires-in-loop-member-clause-few_votes g c =
    let t = turn g.row.N c.args.others.now c.loop-member.yielded c.next.new.self c.loop-member.member-iterator c.in-Some.member c.iter-member-items.ensures.ids c.loop-member.invariant.split c.in-Some.ensures.steps in
    omega (arith, t.short, c.iter-member-items.ensures.few, c.loop-member.invariant.few_votes, capacity-le g.row.N c.requires.read.sized)

pub add-requires-in-loop-member-clause-few_support : goal.add-requires-in-loop-member-clause-few_support
add-requires-in-loop-member-clause-few_support g c =
    let t = turn g.row.N c.args.others.now c.loop-member.yielded c.next.new.self c.loop-member.member-iterator c.in-Some.member c.iter-member-items.ensures.ids c.loop-member.invariant.split c.in-Some.ensures.steps in
    omega (arith, t.short, c.iter-member-items.ensures.few, c.loop-member.invariant.few_support, capacity-le g.row.N c.requires.read.sized)

pub loop-member-preserved : goal.loop-member-preserved
loop-member-preserved g c =
    let i = c.loop-member.invariant in
    let read = term_in g.V.Item.of_bytes in
    record {
      can = tt;
      ends = tt;
      split = split_more c.args.others.now c.loop-member.yielded c.next.new.self c.loop-member.member-iterator c.in-Some.member i.split c.in-Some.ensures.steps;
      count = subst (λ xs. IsCount g.V.PartialEq.eq (said c.args.own.now ∷ xs) c.add-in-loop-member.new.self)
          (map_more (last_in read c.args.self.now) c.loop-member.yielded c.in-Some.member (said c.last_term-term.result) c.last_term-term.ensures)
          (c.add-in-loop-member.ensures.count (said c.args.own.now ∷ map (last_in read c.args.self.now) c.loop-member.yielded) i.count);
      value = c.add-in-loop-member.ensures.value ∙ i.value;
      few_votes = omega (arith, i.few_votes, c.add-in-loop-member.ensures.few_votes, length_push c.loop-member.yielded c.in-Some.member);
      few_support = omega (arith, i.few_support, c.add-in-loop-member.ensures.few_support, length_push c.loop-member.yielded c.in-Some.member);
    }

pub returns : goal.returns
returns g c =
    let i = c.loop-member.invariant in
    let all = split_all c.args.others.now c.loop-member.yielded c.loop-member.member-iterator i.split c.in-None.ensures.steps.0 in
    let seen = said c.args.own.now ∷ map (last_in (term_in g.V.Item.of_bytes) c.args.self.now) c.args.others.now in
    c.has_majority.ensures seen (subst (λ xs. IsCount g.V.PartialEq.eq (said c.args.own.now ∷ map (last_in (term_in g.V.Item.of_bytes) c.args.self.now) xs) c.loop-member.count) all i.count)
    ∙ ap (λ x. has_most g.V.PartialEq.eq seen (said x)) i.value
