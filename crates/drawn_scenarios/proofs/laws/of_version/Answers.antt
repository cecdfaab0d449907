use Rattle.drawn_scenarios.specs.Bouts.{drawn_bouts}
use Rattle.drawn_scenarios.proofs.Versions.{of_version}
use Rattle.drawn_scenarios.proofs.laws.of_version.Goals as goal

pub returns : goal.returns
returns c = λ choices seed index. of_version choices (drawn_bouts choices seed index)
