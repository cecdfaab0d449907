use Rattle.std.proofs.Common.{List, ◌≡◌, ℕ, Result, sym, subst}
use Rattle.judge_text.specs.Rows.{judged_rows}
use Rattle.input_lines.specs.Devices.{sink_seen}
use Rattle.judge.specs.Rows.{scenario_rows}
use Rattle.judge.specs.Writing.{WritesRows}
use Rattle.judge.specs.declared.bench.RowError.{RowError}
use Rattle.judge.proofs.Writing.{written_such, judged_is}
use Rattle.judge.proofs.bench.judge_scenario.Goals as goal

pub returns : goal.returns
returns g c =
    let text : List ℕ = judged_rows c.args.number c.row-row.result c.illnesses.result.now c.skews.result.now in
    subst (λ (r : Result (Unit {0}) RowError). WritesRows (sink_seen g.K.Sink.written g.K.Sink.faults c.args.sink.now) (sink_seen g.K.Sink.written g.K.Sink.faults c.write_judged.new.sink) (λ t. t ≡ scenario_rows c.args.number c.args.scenario.now) r)
    (sym c.written.ensures)
    (written_such g.K.Sink.written g.K.Sink.faults c.args.sink.now c.write_judged.new.sink text (λ t. t ≡ scenario_rows c.args.number c.args.scenario.now) c.write_judged.result
    (judged_is c.args.number c.args.scenario.now c.row-row.result c.illnesses.result.now c.skews.result.now c.row-row.ensures c.illnesses.ensures c.skews.ensures) c.write_judged.ensures)
