use Rattle.drawn_scenarios.proofs.Refusals.{unrefused_law}
use Rattle.drawn_scenarios.proofs.laws.unrefused.Goals as goal

pub returns : goal.returns
returns c = unrefused_law
