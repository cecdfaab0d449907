use Rattle.std.proofs.Common.{sym, arith}
use Rattle.list_scheduler.specs.CopyLaws.{works_first, works_none}
use Rattle.list_scheduler.proofs.copies.Copies.running.Goals as goal

pub returns-in-Running : goal.returns-in-Running
returns-in-Running g c = sym (works_first c.args.self.now c.args.node c.loop-t.t c.in-Running.periods (omega arith) c.loop-t.invariant (sym c.in-Running.ensures.copy))

pub returns : goal.returns
returns g c = sym (works_none c.args.self.now c.args.node (λ u h. c.loop-t.invariant u (omega arith)))
