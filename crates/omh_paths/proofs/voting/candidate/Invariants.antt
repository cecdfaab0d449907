use Rattle.std.proofs.Common.{◌≤◌, take}
use Rattle.omh_paths.proofs.Candidates.{Leads}
use Rattle.omh_paths.proofs.voting.candidate.Given as goal

abbrev pub invariant-loop-value : goal.invariant-loop-value
invariant-loop-value g l = record {
  leads : Leads g.V.PartialEq.eq (take l.value-index l.values) l.candidate l.lead;
  few : l.lead ≤ l.value-index;
}
