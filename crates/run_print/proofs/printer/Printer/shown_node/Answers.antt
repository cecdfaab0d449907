use Rattle.std.proofs.Common.{List, ℕ, ◌++◌, arith, lit<, subst, sym}
use Rattle.std.specs.Prelude.{codes, decimal}
use Rattle.shown_period.specs.WholeLaws.{shown_at}
use Rattle.run_print.specs.Printing.{Prints}
use Rattle.run_print.proofs.Joining.{then}
use Rattle.run_print.proofs.printer.Printer.shown_node.Goals as goal

pub returns : goal.returns
returns g c =
    let front = subst (λ (letter : List ℕ). Prints g.K.Sink.written g.K.Sink.faults c.args.self.now c.args.sink.now c.front.new.self c.front.new.sink
    (codes "node " ++ decimal c.args.i ++ codes " " ++ letter ++ codes " ")) (sym c.letter_at.ensures) c.front.ensures in
    rw (shown_at c.args.example.now.shown.now c.args.i c.requires.node) (then front c.beliefs_like.ensures)

pub beliefs_like-requires : goal.beliefs_like-requires
beliefs_like-requires g c =
    (assumption, (lit< tt, (omega (arith, c.requires.node, c.requires.printable.nodes), c.requires.printable)))
