use Rattle.std.proofs.Common.{sym, ap, subst}
use Rattle.input_lines.specs.Reading.{LinesView}
use Rattle.input_lines.specs.Devices.{sink_seen, source_seen, devices_seen}
use Rattle.judge.specs.Options.{StopsAtOptions}
use Rattle.program_words.specs.declared.status.Status.{Status}
use Rattle.judge.proofs.FirstLine.{IsFirst, is_first, no_first, tells}
use Rattle.judge.proofs.options.read_options.Goals as goal

pub returns-in-Ok-read_line : goal.returns-in-Ok-read_line
returns-in-Ok-read_line g c =
    let a = source_seen g.S.Source.left g.S.Source.given g.S.Source.faults c.args.source.now in
    let b = source_seen g.S.Source.left g.S.Source.given g.S.Source.faults c.read_line.new.source in
    let nothing = ap (λ (l : LinesView). l.rest) c.in-Ok.ensures in
    let limited = ap (λ (l : LinesView). l.limit) c.in-Ok.ensures in
    let first = is_first c.in-Ok.lines c.read_line.new.self a b nothing limited c.in-Ok-read_line.field-0 c.in-Ok-read_line.ensures in
    tells a b c.line.result.now (sink_seen g.K.Sink.written g.K.Sink.faults c.args.sink.now) (sink_seen g.K.Sink.written g.K.Sink.faults c.options_of.new.sink) c.options_of.result
    (subst (IsFirst a b) (sym c.line.ensures) first) c.options_of.ensures

pub returns : goal.returns
returns g c =
    let a = source_seen g.S.Source.left g.S.Source.given g.S.Source.faults c.args.source.now in
    let b = source_seen g.S.Source.left g.S.Source.given g.S.Source.faults c.read_line.new.source in
    let nothing = ap (λ (l : LinesView). l.rest) c.in-Ok.ensures in
    let limited = ap (λ (l : LinesView). l.limit) c.in-Ok.ensures in
    subst (λ (s : Status). StopsAtOptions s (devices_seen g.S.Source.left g.S.Source.given g.S.Source.faults g.K.Sink.written g.K.Sink.faults c.args.source.now c.args.sink.now)
    (devices_seen g.S.Source.left g.S.Source.given g.S.Source.faults g.K.Sink.written g.K.Sink.faults c.read_line.new.source c.args.sink.now)) (sym c.status_of.ensures)
    (no_first c.in-Ok.lines c.read_line.new.self a b nothing limited (sink_seen g.K.Sink.written g.K.Sink.faults c.args.sink.now) c.in-Err.error c.in-Err.ensures)
