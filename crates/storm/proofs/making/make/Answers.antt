use Rattle.std.proofs.Common.{refl, sym, ap, subst, ◌∙◌, inl, lit<}
use Rattle.scenario.specs.Given.{scenario_of}
use Rattle.scenario.specs.Scenario.{ScenarioView, system_of}
use Rattle.storm.specs.Laws.{Weathers}
use Rattle.storm.proofs.making.make.Goals as goal

pub returns-clause-weathered : goal.returns-clause-weathered
returns-clause-weathered c =
    subst (λ (s : ScenarioView 8). Weathers (system_of s)) (sym (c.in-Ok-from_parts.ensures.says ∙ ap (scenario_of 8) c.in-Ok.ensures)) (c.weathered.ensures c.args.seed)

pub from_parts-requires : goal.from_parts-requires
from_parts-requires c = lit< tt

pub returns-clause-says : goal.returns-clause-says
returns-clause-says c = c.in-Ok-from_parts.ensures.says ∙ ap (scenario_of 8) c.in-Ok.ensures

pub returns-in_default : goal.returns-in_default
returns-in_default c = record { says = tt; accepted = tt; weathered = tt }

pub returns-in_default-from_parts : goal.returns-in_default-from_parts
returns-in_default-from_parts c = record { says = tt; accepted = tt; weathered = tt }
