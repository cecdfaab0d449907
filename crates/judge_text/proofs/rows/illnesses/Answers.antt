use Rattle.std.proofs.lemmas.List.{take_all}
use Rattle.run_print.proofs.Joining.{nothing}
use Rattle.judge_text.specs.Rows.{ill_row}
use Rattle.judge_text.proofs.Growing.{further}
use Rattle.judge_text.proofs.rows.illnesses.Goals as goal

pub loop-illness-init : goal.loop-illness-init
loop-illness-init g c = nothing g.K.Sink.written g.K.Sink.faults c.args.printer.now c.args.sink.now

pub loop-illness-preserved : goal.loop-illness-preserved
loop-illness-preserved g c = further (ill_row c.args.line) c.args.all.now c.loop-illness.illness-index _ c.loop-illness-test.true c.loop-illness.invariant c.ill.ensures

pub returns : goal.returns
returns g c = rw (take_all c.loop-illness.illness-index c.args.all.now c.loop-illness-test.false) at c.loop-illness.invariant
