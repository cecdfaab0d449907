use Rattle.std.proofs.Common.{sym}
use Rattle.run_print.proofs.Joining.{then_both}
use Rattle.run_print.proofs.printer.Printer.sums.Goals as goal

pub returns : goal.returns
returns g c =
    rw (sym c.sum.view_is)
    (then_both _ _ (then_both _ _ (then_both _ _ (then_both _ _ (then_both _ _ (then_both _ _ c.labelled.ensures c.labelled-2.ensures) c.labelled-3.ensures) c.labelled-4.ensures)
    c.labelled-5.ensures) c.labelled-6.ensures) c.labelled-7.ensures)

pub labelled-requires : goal.labelled-requires
labelled-requires g c = assumption

pub labelled-requires-2 : goal.labelled-requires-2
labelled-requires-2 g c = assumption

pub labelled-requires-3 : goal.labelled-requires-3
labelled-requires-3 g c = assumption

pub labelled-requires-4 : goal.labelled-requires-4
labelled-requires-4 g c = assumption

pub labelled-requires-5 : goal.labelled-requires-5
labelled-requires-5 g c = assumption

pub labelled-requires-6 : goal.labelled-requires-6
labelled-requires-6 g c = assumption

pub labelled-requires-7 : goal.labelled-requires-7
labelled-requires-7 g c = assumption
