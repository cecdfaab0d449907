use Rattle.std.proofs.Common.{◌+◌, arith, sym, subst}
use Rattle.input_lines.specs.Devices.{sink_seen, wrote_nothing}
use Rattle.judge.specs.Options.{DrawsRows}
use Rattle.program_words.specs.declared.status.Status.{Status}
use Rattle.judge.proofs.Drawing.{drew_one, stopped_drawing, drew_all}
use Rattle.judge.proofs.judging.draw_rows.Goals as goal

pub draws-init : goal.draws-init
draws-init g c = record { drawn = 0; place = omega (arith, c.from-first.ensures); wrote = wrote_nothing (sink_seen g.K.Sink.written g.K.Sink.faults c.args.sink.now) }

pub returns-in-Err : goal.returns-in-Err
returns-in-Err g c =
    let i = c.draws.invariant in
    subst (λ (s : Status). DrawsRows c.args.options.now.choices c.args.draws (sink_seen g.K.Sink.written g.K.Sink.faults c.args.sink.now) (sink_seen g.K.Sink.written g.K.Sink.faults c.judge_drawn.new.sink) s) (sym c.end_of.ensures)
    (stopped_drawing c.in-Err.error c.args.options.now.choices c.args.draws i.drawn c.draws.index (sink_seen g.K.Sink.written g.K.Sink.faults c.args.sink.now) (sink_seen g.K.Sink.written g.K.Sink.faults c.draws.sink)
    (sink_seen g.K.Sink.written g.K.Sink.faults c.judge_drawn.new.sink) i.place (omega (arith, i.place, c.draws-test.true, c.from-first.ensures)) i.wrote c.in-Err.ensures)

pub draws-preserved : goal.draws-preserved
draws-preserved g c =
    let i = c.draws.invariant in
    record {
      drawn = i.drawn + 1;
      place = omega (arith, i.place);
      wrote = drew_one c.args.options.now.choices c.args.draws i.drawn c.draws.index (sink_seen g.K.Sink.written g.K.Sink.faults c.args.sink.now) (sink_seen g.K.Sink.written g.K.Sink.faults c.draws.sink)
          (sink_seen g.K.Sink.written g.K.Sink.faults c.judge_drawn.new.sink) i.place i.wrote c.in_default.ensures;
    }

pub returns : goal.returns
returns g c =
    let i = c.draws.invariant in
    drew_all c.args.options.now.choices c.args.draws i.drawn (sink_seen g.K.Sink.written g.K.Sink.faults c.args.sink.now) (sink_seen g.K.Sink.written g.K.Sink.faults c.draws.sink)
    (omega (arith, i.place, c.draws-test.false, c.draws.auto.index-end, c.from-first.ensures)) i.wrote
