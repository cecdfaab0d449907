use Rattle.std.proofs.Common.{◌∷◌, ◌≤◌, ◌+◌, map, take}
use Rattle.relay_terms.specs.Terms.{said}
use Rattle.relay_terms.specs.Tallies.{IsTally}
use Rattle.relay_terms.proofs.settling.tally_of.Given as goal

abbrev pub invariant-loop-term : goal.invariant-loop-term
invariant-loop-term g l = record {
  tally : IsTally g.V.PartialEq.eq (said l.own ∷ map said (take l.term-index l.terms)) l.tally;
  few : l.tally.lead ≤ l.term-index + 1;
}
