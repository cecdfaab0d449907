use Rattle.scenario_capacities.proofs.Scenarios.{nodes_fit, few_nodes, system_longer, clock_wide}
use Rattle.scenario_capacities.proofs.laws.says_alike.Goals as goal

pub returns : goal.returns
returns c size k p h = record { fits = few_nodes size p (nodes_fit size p h); system = system_longer size k p h; clock = clock_wide size k p h }
