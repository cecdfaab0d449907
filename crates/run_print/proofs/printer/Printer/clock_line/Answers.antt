use Rattle.std.proofs.Common.{sym}
use Rattle.run_print.proofs.Joining.{then}
use Rattle.run_print.proofs.printer.Printer.clock_line.Goals as goal

pub returns : goal.returns
returns g c = rw (sym c.first.ensures, sym c.first-offsets.ensures) (then (then (then (then c.text.ensures c.spread.ensures) c.text-2.ensures) c.signed_numbers.ensures) c.byte.ensures)
