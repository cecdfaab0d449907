use Rattle.std.proofs.Common.{sym, arith, ◌∙◌, lit<}
use Rattle.run_print.proofs.Digits.{some_set, no_set}
use Rattle.run_print.proofs.printer.Printer.set.Goals as goal

pub returns-then-count-eq0 : goal.returns-then-count-eq0
returns-then-count-eq0 g c = rw (no_set c.args.set.now (sym c.if-count-eq0.true ∙ c.len-count.ensures.count)) c.byte.ensures

pub returns-else-eq : goal.returns-else-eq
returns-else-eq g c = rw (some_set c.args.set.now c.len-count.result c.len-count.ensures.count (omega (arith, c.if-count-eq0.false))) c.members.ensures

pub members-requires : goal.members-requires
members-requires g c = (assumption, lit< tt)
