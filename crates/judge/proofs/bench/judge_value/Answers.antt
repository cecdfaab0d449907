use Rattle.std.proofs.Common.{Result, sym, subst}
use Rattle.json_parts.specs.Meaning.{view}
use Rattle.scenario.specs.Verdict.{Tells}
use Rattle.scenario_reading.specs.Verdict.{value_refusal}
use Rattle.input_lines.specs.Devices.{sink_seen}
use Rattle.judge.specs.Rows.{HasRows}
use Rattle.judge.specs.Writing.{WritesRows}
use Rattle.judge.specs.declared.bench.RowError.{RowError}
use Rattle.judge.proofs.Writing.{refused_such, rows_as, accepted_rows}
use Rattle.judge.proofs.bench.judge_value.Goals as goal

pub returns-in-Ok : goal.returns-in-Ok
returns-in-Ok g c =
    rows_as (sink_seen g.K.Sink.written g.K.Sink.faults c.args.sink.now) (sink_seen g.K.Sink.written g.K.Sink.faults c.judge_scenario.new.sink) _ _ c.judge_scenario.result
    (accepted_rows c.args.number (view c.args.value.now) c.in-Ok.scenario c.in-Ok.ensures.accepted) c.judge_scenario.ensures

pub returns-in-Err-Refused : goal.returns-in-Err-Refused
returns-in-Err-Refused g c =
    subst (λ (r : Result (Unit {0}) RowError). WritesRows (sink_seen g.K.Sink.written g.K.Sink.faults c.args.sink.now) (sink_seen g.K.Sink.written g.K.Sink.faults c.write_refused.new.sink) (HasRows g.row.N c.args.number (view c.args.value.now)) r)
    (sym c.written.ensures)
    (refused_such g.K.Sink.written g.K.Sink.faults c.args.sink.now c.write_refused.new.sink g.row.N c.args.number (view c.args.value.now) c.in-Err-Refused.rule c.in-Err-Refused.place c.write_refused.result
    c.in-Err-Refused.rule-is c.in-Err-Refused.place-is (subst (Tells (value_refusal g.row.N (view c.args.value.now))) c.in-Err-Refused.field-0-is c.in-Err-Refused.ensures.refused) c.write_refused.ensures)
