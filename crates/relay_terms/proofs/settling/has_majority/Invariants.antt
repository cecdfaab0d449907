use Rattle.std.proofs.Common.{◌≡◌, ◌∷◌, ◌≤◌, ◌+◌, map, take}
use Rattle.relay_terms.specs.Terms.{said}
use Rattle.relay_terms.specs.Tallies.{IsCount}
use Rattle.relay_terms.proofs.settling.has_majority.Given as goal

abbrev pub invariant-loop-term : goal.invariant-loop-term
invariant-loop-term g l = record {
  count : IsCount g.V.PartialEq.eq (said l.own ∷ map said (take l.term-index l.terms)) l.count;
  value : l.count.value ≡ l.value;
  few_votes : l.count.votes ≤ l.term-index + 1;
  few_support : l.count.support ≤ l.term-index + 1;
}
