use Rattle.std.proofs.Common.{◌≡◌, ◌≤◌, ◌+◌, ◌∷◌, ◌++◌, map, length}
use Rattle.relay_terms.specs.Terms.{said, term_in}
use Rattle.relay_terms.specs.Tallies.{IsCount}
use Rattle.relay_walk.specs.Walking.{last_in}
use Rattle.relay_walk.proofs.round.Round.has_majority.Given as goal

abbrev pub invariant-loop-member : goal.invariant-loop-member
invariant-loop-member g l = record {
  can : (goal.iterator-loop-member g).can_next l.member-iterator;
  ends : (goal.iterator-loop-member g).is_finite l.member-iterator;
  split : l.others ≡ l.yielded ++ l.member-iterator;
  count : IsCount g.V.PartialEq.eq (said l.own ∷ map (last_in (term_in g.V.Item.of_bytes) l.self) l.yielded) l.count;
  value : l.count.value ≡ l.value;
  few_votes : l.count.votes ≤ length l.yielded + 1;
  few_support : l.count.support ≤ length l.yielded + 1;
}
