use Rattle.input_lines.specs.Devices.{source_seen, sink_seen}
use Rattle.controller.specs.Words.{texts}
use Rattle.controller.proofs.Explaining.{explained}
use Rattle.controller.proofs.Answering.{answered, unanswered}
use Rattle.controller.proofs.control.control.Goals as goal

pub returns-in-Ok : goal.returns-in-Ok
returns-in-Ok g c =
    let read = c.in-Ok.ensures in
    let calls = c.in-Some.ensures.found in
    explained (texts c.args.words.now) (record { source = source_seen g.S.Source.left g.S.Source.given g.S.Source.faults c.args.source.now; sink = sink_seen g.K.Sink.written g.K.Sink.faults c.args.sink.now })
    (record { source = source_seen g.S.Source.left g.S.Source.given g.S.Source.faults c.answer.new.source; sink = sink_seen g.K.Sink.written g.K.Sink.faults c.answer.new.sink }) c.answer.result c.in-Some.id calls
    (answered (texts c.args.words.now) c.in-Some.id calls c.in-Ok.first (source_seen g.S.Source.left g.S.Source.given g.S.Source.faults c.args.source.now)
    (source_seen g.S.Source.left g.S.Source.given g.S.Source.faults c.read_first.new.source) (source_seen g.S.Source.left g.S.Source.given g.S.Source.faults c.answer.new.source)
    (sink_seen g.K.Sink.written g.K.Sink.faults c.args.sink.now) (sink_seen g.K.Sink.written g.K.Sink.faults c.answer.new.sink) read.0 read.1 read.2 c.answer.result c.answer.ensures)

pub returns-in-Err : goal.returns-in-Err
returns-in-Err g c =
    let calls = c.in-Some.ensures.found in
    explained (texts c.args.words.now) (record { source = source_seen g.S.Source.left g.S.Source.given g.S.Source.faults c.args.source.now; sink = sink_seen g.K.Sink.written g.K.Sink.faults c.args.sink.now })
    (record { source = source_seen g.S.Source.left g.S.Source.given g.S.Source.faults c.read_first.new.source; sink = sink_seen g.K.Sink.written g.K.Sink.faults c.args.sink.now }) c.in-Err.status c.in-Some.id calls
    (unanswered (texts c.args.words.now) c.in-Some.id calls (source_seen g.S.Source.left g.S.Source.given g.S.Source.faults c.args.source.now)
    (source_seen g.S.Source.left g.S.Source.given g.S.Source.faults c.read_first.new.source) (sink_seen g.K.Sink.written g.K.Sink.faults c.args.sink.now) c.in-Err.status c.in-Err.ensures)
