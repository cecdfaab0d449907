use Rattle.std.proofs.Common.{arith}
use Rattle.input_lines.specs.Devices.{sink_seen}
use Rattle.judge.proofs.Writing.{rows_as, drawn_few, drawn_many}
use Rattle.judge.proofs.bench.Bench.judge_drawn.Goals as goal

pub returns-then-drawing-le-FEW : goal.returns-then-drawing-le-FEW
returns-then-drawing-le-FEW g c =
    rows_as (sink_seen g.K.Sink.written g.K.Sink.faults c.args.sink.now) (sink_seen g.K.Sink.written g.K.Sink.faults c.judge_drawn.new.sink) _ _ c.judge_drawn.result
    (drawn_few c.args.drawing.options.now.choices c.args.drawing.seed c.args.index c.if-drawing-le-FEW.true) c.judge_drawn.ensures

pub returns : goal.returns
returns g c =
    rows_as (sink_seen g.K.Sink.written g.K.Sink.faults c.args.sink.now) (sink_seen g.K.Sink.written g.K.Sink.faults c.judge_drawn-2.new.sink) _ _ c.judge_drawn-2.result
    (drawn_many c.args.drawing.options.now.choices c.args.drawing.seed c.args.index (omega (arith, c.if-drawing-le-FEW.false))) c.judge_drawn-2.ensures
