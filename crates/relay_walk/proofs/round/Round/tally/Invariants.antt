use Rattle.std.proofs.Common.{◌≡◌, ◌≤◌, ◌+◌, ◌∷◌, ◌++◌, map, length}
use Rattle.relay_terms.specs.Terms.{said, term_in}
use Rattle.relay_terms.specs.Tallies.{IsTally}
use Rattle.relay_walk.specs.Walking.{IsMoved, next_in}
use Rattle.relay_walk.proofs.round.Round.tally.Given as goal

abbrev pub invariant-loop-member : goal.invariant-loop-member
invariant-loop-member g l = record {
  can : (goal.iterator-loop-member g).can_next l.member-iterator;
  ends : (goal.iterator-loop-member g).is_finite l.member-iterator;
  split : l.others ≡ l.yielded ++ l.member-iterator;
  moved : IsMoved l.yielded l.initial.self l.self;
  tally : IsTally g.V.PartialEq.eq (said l.own ∷ map (next_in (term_in g.V.Item.of_bytes) l.initial.self) l.yielded) l.tally;
  few : l.tally.lead ≤ length l.yielded + 1;
}
