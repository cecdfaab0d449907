use Rattle.std.proofs.Common.{List, ℕ, subst, ◌∙◌, inl, inr, lit<}
use Rattle.run_print.specs.Printing.{Prints}
use Rattle.run_print.proofs.printer.Printer.beliefs_like.Goals as goal

pub returns-then-is_like : goal.returns-then-is_like
returns-then-is_like g c =
    subst (λ (xs : List ℕ). Prints g.K.Sink.written g.K.Sink.faults c.args.self.now c.args.sink.now c.text.new.self c.text.new.sink xs) (c.as_slice.ensures ∙ c.is_like.ensures c.if-is_like.true) c.text.ensures

pub returns-else-is_like : goal.returns-else-is_like
returns-else-is_like g c = c.beliefs_at.ensures

pub is_like-requires : goal.is_like-requires
is_like-requires g c = (lit< tt, c.requires.node)

pub beliefs_at-requires : goal.beliefs_at-requires
beliefs_at-requires g c = (assumption, (elim g.bound-2.eight_or_sixteen [ inl e ↦ rw e (lit< tt) | inr e ↦ rw e (lit< tt) ], (c.requires.printable, c.requires.node)))
