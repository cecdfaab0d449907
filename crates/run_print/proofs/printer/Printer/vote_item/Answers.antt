use Rattle.run_print.proofs.Joining.{then_inside}
use Rattle.run_print.proofs.printer.Printer.vote_item.Goals as goal

pub returns : goal.returns
returns g c = then_inside _ _ _ c.item_front.ensures (rw c.vote_of.ensures at c.vote.ensures)
