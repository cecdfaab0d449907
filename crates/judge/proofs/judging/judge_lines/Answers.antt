use Rattle.std.proofs.Common.{ap, subst}
use Rattle.input_lines.specs.Reading.{LinesView}
use Rattle.input_lines.specs.Devices.{sink_seen, source_seen}
use Rattle.judge.specs.Session.{Stand, Runs}
use Rattle.judge.proofs.Answering.{header_whole, header_front, lines_without_header, lines_done, first_from}
use Rattle.judge.proofs.judging.judge_lines.Goals as goal

pub returns-in-Ok-write_header : goal.returns-in-Ok-write_header
returns-in-Ok-write_header g c =
    let a = source_seen g.S.Source.left g.S.Source.given g.S.Source.faults c.args.source.now in
    let b = source_seen g.S.Source.left g.S.Source.given g.S.Source.faults c.run.new.source in
    let old = sink_seen g.K.Sink.written g.K.Sink.faults c.args.sink.now in
    let mid = sink_seen g.K.Sink.written g.K.Sink.faults c.write_header.new.sink in
    let new = sink_seen g.K.Sink.written g.K.Sink.faults c.run.new.sink in
    lines_done c.run.result a b old mid new (header_whole old mid (c.in-Ok-write_header.ensures.whole, c.in-Ok-write_header.ensures.faultless))
    (subst (λ (s : Stand). Runs s a b mid new c.run.result) (first_from c.new.result c.in-Ok.bench c.in-Ok-open.lines c.new.ensures (ap (λ (l : LinesView). l.rest) c.in-Ok-open.ensures)) c.run.ensures)

pub returns-in-Err : goal.returns-in-Err
returns-in-Err g c =
    let old = sink_seen g.K.Sink.written g.K.Sink.faults c.args.sink.now in
    let new = sink_seen g.K.Sink.written g.K.Sink.faults c.write_header.new.sink in
    lines_without_header (source_seen g.S.Source.left g.S.Source.given g.S.Source.faults c.args.source.now) old new (header_front old new (c.in-Err.ensures.prefix, c.in-Err.ensures.failed))
