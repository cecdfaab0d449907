use Rattle.std.proofs.Common.{ap, sym, subst}
use Rattle.input_lines.specs.Reading.{LinesView}
use Rattle.input_lines.specs.Devices.{sink_seen}
use Rattle.judge.specs.Session.{Concludes}
use Rattle.program_words.specs.declared.status.Status.{Status}
use Rattle.judge.proofs.Taking.{concluded, concluded_so}
use Rattle.judge.proofs.lines.Session.finish.Goals as goal

pub returns-in-Ok : goal.returns-in-Ok
returns-in-Ok g c =
    let rows = c.in-Ok.ensures.rows in
    let line = ap (λ (l : LinesView). l.line) c.take_rest.ensures.taken in
    (rows.0, concluded c.args.self.now.number c.args.self.now.lines.rest c.take_rest.new.self.line rows.0 line (c.take_rest.ensures.any.0 c.if-not-take_rest.false) c.requires.short rows.1, rows.2)

pub returns-in-Err : goal.returns-in-Err
returns-in-Err g c =
    let line = ap (λ (l : LinesView). l.line) c.take_rest.ensures.taken in
    subst (λ (s : Status). Concludes c.args.self.now.number c.args.self.now.lines.rest (sink_seen g.K.Sink.written g.K.Sink.faults c.args.sink.now) (sink_seen g.K.Sink.written g.K.Sink.faults c.judge_taken.new.sink) s) (sym c.end_of.ensures)
    (concluded_so c.in-Err.error c.args.self.now.number c.args.self.now.lines.rest c.take_rest.new.self.line (sink_seen g.K.Sink.written g.K.Sink.faults c.args.sink.now) (sink_seen g.K.Sink.written g.K.Sink.faults c.judge_taken.new.sink)
    line (c.take_rest.ensures.any.0 c.if-not-take_rest.false) c.requires.short c.in-Err.ensures.rows)
