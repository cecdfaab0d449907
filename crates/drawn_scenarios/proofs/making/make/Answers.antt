use Rattle.std.proofs.Common.{ap, ◌∙◌}
use Rattle.scenario.specs.Given.{scenario_of}
use Rattle.drawn_scenarios.proofs.making.make.Goals as goal

pub returns-clause-says : goal.returns-clause-says
returns-clause-says g c = c.in-Ok-from_parts.ensures.says ∙ ap (scenario_of g.row.N) c.in-Ok.ensures.says
