use Rattle.two_capacities.proofs.Accepted.{accepted_wide, clocks_wide}
use Rattle.two_capacities.proofs.laws.accepted_alike.Goals as goal

pub returns : goal.returns
returns c = record { system = accepted_wide; clocks = clocks_wide }
