use Rattle.scenario_capacities.proofs.Scenarios.{scenario_longer}
use Rattle.scenario_capacities.proofs.laws.stays_accepted.Goals as goal

pub returns : goal.returns
returns c size k p room h = scenario_longer size k p h room
