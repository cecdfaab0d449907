use Rattle.std.proofs.Common.{◌≡◌, IfOk, subst}
use Rattle.scenario.specs.Scenario.{ScenarioView}
use Rattle.storm_sum.specs.Summary.{summary_of}
use Rattle.storm_sum.specs.Laws.{storm_summary, IsStormSummary}
use Rattle.storm_sum.proofs.Claimed.{holds_of}
use Rattle.storm_sum.proofs.summary.Goals as goal

pub returns-clause-says : goal.returns-clause-says
returns-clause-says c = subst (λ (sc : ScenarioView 8). IfOk c.run.result (λ s. s ≡ summary_of c.args.seed sc)) c.in_ok-storm.ensures.says c.run.ensures

pub returns-clause-claimed : goal.returns-clause-claimed
returns-clause-claimed c =
    holds_of IsStormSummary (storm_summary c.args.seed) c.run.result
    (subst (λ (sc : ScenarioView 8). IfOk c.run.result (λ s. s ≡ summary_of c.args.seed sc)) c.in_ok-storm.ensures.says c.run.ensures) (c.claimed.ensures c.args.seed)
