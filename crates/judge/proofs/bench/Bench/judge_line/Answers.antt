use Rattle.std.proofs.Common.{List, ℕ, Result, Err, ap, refl, sym, subst}
use Rattle.json_parts.specs.Meaning.{view}
use Rattle.judge_text.specs.Rows.{unread_row}
use Rattle.input_lines.specs.Devices.{sink_seen}
use Rattle.judge.specs.Rows.{IsRowsOf}
use Rattle.judge.specs.Rows.IsRowsOf.{Unread}
use Rattle.judge.specs.Writing.{WritesRows}
use Rattle.judge.specs.declared.bench.RowError.{RowError}
use Rattle.judge.proofs.Writing.{written_such, rows_as, line_rows}
use Rattle.judge.proofs.bench.Bench.judge_line.Goals as goal

pub returns-in-Ok : goal.returns-in-Ok
returns-in-Ok g c =
    rows_as (sink_seen g.K.Sink.written g.K.Sink.faults c.args.sink.now) (sink_seen g.K.Sink.written g.K.Sink.faults c.judge_json.new.sink) _ _ c.judge_json.result
    (line_rows c.args.number c.args.line.now (view c.in-Ok.value) c.in-Ok.ensures.value) c.judge_json.ensures

pub returns-in-Err-Unreadable : goal.returns-in-Err-Unreadable
returns-in-Err-Unreadable g c =
    let text : List ℕ = unread_row c.args.number in
    subst (λ (r : Result (Unit {0}) RowError). WritesRows (sink_seen g.K.Sink.written g.K.Sink.faults c.args.sink.now) (sink_seen g.K.Sink.written g.K.Sink.faults c.write_unread.new.sink) (IsRowsOf c.args.number c.args.line.now) r)
    (sym c.written.ensures)
    (written_such g.K.Sink.written g.K.Sink.faults c.args.sink.now c.write_unread.new.sink text (IsRowsOf c.args.number c.args.line.now) c.write_unread.result
    (Unread (c.in-Err-Unreadable.ensures.unreadable (ap Err c.in-Err-Unreadable.field-0-is)) refl) c.write_unread.ensures)
