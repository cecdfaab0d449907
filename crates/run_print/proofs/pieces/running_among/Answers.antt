use Rattle.std.proofs.Common.{sym, arith, inl, inr}
use Rattle.std.proofs.lemmas.Bool.{cases_lt}
use Rattle.list_scheduler.specs.CopyLaws.{works_first, works_none}
use Rattle.run_print.proofs.pieces.running_among.Goals as goal

pub returns-in-Running : goal.returns-in-Running
returns-in-Running g c = sym (works_first c.args.copies.now c.args.node c.loop-t.t c.in-Running.periods (omega (arith, c.loop-t-test.true, c.requires.tasks)) c.loop-t.invariant (sym c.in-Running.ensures.copy))

pub returns : goal.returns
returns g c = sym (works_none c.args.copies.now c.args.node (λ u h. elim (cases_lt u c.args.tasks) [
  | inl low ↦ c.loop-t.invariant u (omega (arith, low, c.loop-t-test.false))
  | inr high ↦ c.requires.idle u c.args.node high
]))
