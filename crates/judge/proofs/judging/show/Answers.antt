use Rattle.input_lines.specs.Devices.{sink_seen, source_seen}
use Rattle.judge.specs.declared.words.Command.TheVariants.{Show}
use Rattle.judge.proofs.Answering.{no_memory_behind}
use Rattle.judge.proofs.judging.show.Goals as goal

pub returns-in_default : goal.returns-in_default
returns-in_default g c =
    no_memory_behind (source_seen g.S.Source.left g.S.Source.given g.S.Source.faults c.args.source.now) (source_seen g.S.Source.left g.S.Source.given g.S.Source.faults c.read_options.new.source)
    (sink_seen g.K.Sink.written g.K.Sink.faults c.args.sink.now) (sink_seen g.K.Sink.written g.K.Sink.faults c.read_options.new.sink) c.in-Ok.options (Show c.args.draw) c.in-Ok.ensures
