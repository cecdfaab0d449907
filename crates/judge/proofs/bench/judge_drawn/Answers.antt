use Rattle.std.proofs.Common.{ap, ◌∙◌}
use Rattle.scenario.specs.Scenario.{ScenarioView}
use Rattle.input_lines.specs.Devices.{sink_seen}
use Rattle.judge.specs.Rows.{scenario_rows}
use Rattle.judge.proofs.Writing.{rows_as}
use Rattle.judge.proofs.bench.judge_drawn.Goals as goal

pub returns : goal.returns
returns g c =
    rows_as (sink_seen g.K.Sink.written g.K.Sink.faults c.args.sink.now) (sink_seen g.K.Sink.written g.K.Sink.faults c.judge_scenario.new.sink) _ _ c.judge_scenario.result
    (λ text is. is ∙ ap (λ (s : ScenarioView g.row.N). scenario_rows c.args.index s) c.in-Ok.ensures.says) c.judge_scenario.ensures
