use Rattle.std.proofs.lemmas.List.{take_all}
use Rattle.run_print.proofs.Joining.{then, nothing}
use Rattle.judge_text.proofs.Growing.{skews_next}
use Rattle.judge_text.proofs.rows.skews.Goals as goal

pub loop-period-init : goal.loop-period-init
loop-period-init g c = nothing g.K.Sink.written g.K.Sink.faults c.args.printer.now c.args.sink.now

pub loop-period-preserved : goal.loop-period-preserved
loop-period-preserved g c = rw (skews_next c.args.line c.args.all.now c.loop-period.period 0 c.loop-period-test.true) (then c.loop-period.invariant c.skew.ensures)

pub returns : goal.returns
returns g c = rw (take_all c.loop-period.period c.args.all.now c.loop-period-test.false) at c.loop-period.invariant
