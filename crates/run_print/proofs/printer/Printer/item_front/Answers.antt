use Rattle.std.proofs.Common.{ℕ, List, ◌++◌, sym, subst}
use Rattle.std.specs.Prelude.{codes, decimal}
use Rattle.run_print.specs.Printing.{Prints}
use Rattle.run_print.proofs.Joining.{then, later, first}
use Rattle.run_print.proofs.printer.Printer.item_front.Goals as goal

pub returns-then-k-gt0 : goal.returns-then-k-gt0
returns-then-k-gt0 g c =
    subst (λ (xs : List ℕ). Prints g.K.Sink.written g.K.Sink.faults c.args.self.now c.args.sink.now c.next_front.new.self c.next_front.new.sink (xs ++ (decimal c.args.n ++ codes "=")))
    (sym (later (codes " ") c.args.k c.if-k-gt0.true)) c.next_front.ensures

pub returns-else-k-gt0 : goal.returns-else-k-gt0
returns-else-k-gt0 g c =
    subst (λ (xs : List ℕ). Prints g.K.Sink.written g.K.Sink.faults c.args.self.now c.args.sink.now c.byte.new.self c.byte.new.sink (xs ++ (decimal c.args.n ++ codes "=")))
    (sym (first (codes " ") c.args.k c.if-k-gt0.false)) (then c.number.ensures c.byte.ensures)
