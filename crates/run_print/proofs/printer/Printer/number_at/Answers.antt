use Rattle.std.proofs.Common.{ℕ, List, ◌∷◌, [], ◌++◌, sym, subst}
use Rattle.std.specs.Prelude.{decimal}
use Rattle.run_print.specs.Printing.{Prints}
use Rattle.run_print.proofs.Joining.{later, first}
use Rattle.run_print.proofs.printer.Printer.number_at.Goals as goal

pub returns-then-k-gt0 : goal.returns-then-k-gt0
returns-then-k-gt0 g c =
    subst (λ (xs : List ℕ). Prints g.K.Sink.written g.K.Sink.faults c.args.self.now c.args.sink.now c.number_behind.new.self c.number_behind.new.sink (xs ++ decimal c.args.n))
    (sym (later (c.args.separator ∷ []) c.args.k c.if-k-gt0.true)) c.number_behind.ensures

pub returns-else-k-gt0 : goal.returns-else-k-gt0
returns-else-k-gt0 g c =
    subst (λ (xs : List ℕ). Prints g.K.Sink.written g.K.Sink.faults c.args.self.now c.args.sink.now c.number.new.self c.number.new.sink (xs ++ decimal c.args.n))
    (sym (first (c.args.separator ∷ []) c.args.k c.if-k-gt0.false)) c.number.ensures
