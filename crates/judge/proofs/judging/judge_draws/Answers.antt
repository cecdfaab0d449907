use Rattle.input_lines.specs.Devices.{sink_seen, source_seen}
use Rattle.judge.specs.declared.words.Command.TheVariants.{Draw}
use Rattle.judge.proofs.Answering.{no_memory_behind, draws_behind, header_failed_behind}
use Rattle.judge.proofs.judging.judge_draws.Goals as goal

pub returns-in_default : goal.returns-in_default
returns-in_default g c =
    no_memory_behind (source_seen g.S.Source.left g.S.Source.given g.S.Source.faults c.args.source.now) (source_seen g.S.Source.left g.S.Source.given g.S.Source.faults c.read_options.new.source)
    (sink_seen g.K.Sink.written g.K.Sink.faults c.args.sink.now) (sink_seen g.K.Sink.written g.K.Sink.faults c.read_options.new.sink) c.in-Ok.options (Draw c.args.draws) c.in-Ok.ensures

pub returns-in-Ok-write_header : goal.returns-in-Ok-write_header
returns-in-Ok-write_header g c =
    draws_behind (source_seen g.S.Source.left g.S.Source.given g.S.Source.faults c.args.source.now) (source_seen g.S.Source.left g.S.Source.given g.S.Source.faults c.read_options.new.source)
    (sink_seen g.K.Sink.written g.K.Sink.faults c.args.sink.now) (sink_seen g.K.Sink.written g.K.Sink.faults c.read_options.new.sink) c.in-Ok.options c.args.draws c.draw_rows.result
    (sink_seen g.K.Sink.written g.K.Sink.faults c.write_header.new.sink) (sink_seen g.K.Sink.written g.K.Sink.faults c.draw_rows.new.sink) c.in-Ok.ensures
    (c.in-Ok-write_header.ensures.whole, c.in-Ok-write_header.ensures.faultless) c.draw_rows.ensures

pub returns : goal.returns
returns g c =
    header_failed_behind (source_seen g.S.Source.left g.S.Source.given g.S.Source.faults c.args.source.now) (source_seen g.S.Source.left g.S.Source.given g.S.Source.faults c.read_options.new.source)
    (sink_seen g.K.Sink.written g.K.Sink.faults c.args.sink.now) (sink_seen g.K.Sink.written g.K.Sink.faults c.read_options.new.sink) c.in-Ok.options c.args.draws
    (sink_seen g.K.Sink.written g.K.Sink.faults c.write_header.new.sink) c.in-Ok.ensures (c.in-Err-write_header.ensures.prefix, c.in-Err-write_header.ensures.failed)
