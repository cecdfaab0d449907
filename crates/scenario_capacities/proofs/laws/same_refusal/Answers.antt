use Rattle.std.proofs.Common.{sym}
use Rattle.scenario_capacities.proofs.Scenarios.{refusal_same}
use Rattle.scenario_capacities.proofs.laws.same_refusal.Goals as goal

pub returns : goal.returns
returns c p few = sym (refusal_same 8 8 p few)
