use Rattle.std.proofs.Common.{lit<, List, ℕ, subst, ◌∙◌}
use Rattle.run_print.specs.Printing.{Prints}
use Rattle.run_print.proofs.printer.Printer.settled_so.Goals as goal

pub as_slice-requires : goal.as_slice-requires
as_slice-requires g c = lit< tt

pub settled-requires : goal.settled-requires
settled-requires g c = (assumption, assumption)

pub settles-requires : goal.settles-requires
settles-requires g c = (lit< tt, assumption)

pub text-requires : goal.text-requires
text-requires g c = assumption

pub returns-else-settles : goal.returns-else-settles
returns-else-settles g c = c.settled.ensures

pub returns-then-settles : goal.returns-then-settles
returns-then-settles g c =
    subst (λ (xs : List ℕ). Prints g.K.Sink.written g.K.Sink.faults c.args.self.now c.args.sink.now c.text.new.self c.text.new.sink xs) (c.as_slice.ensures ∙ c.settles.ensures c.if-settles.true) c.text.ensures
