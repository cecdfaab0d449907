use Rattle.std.proofs.Common.{◌≡◌}
use Rattle.list_scheduler.specs.Copies.{table}
use Rattle.list_scheduler.proofs.Leaving.{left_up_to}
use Rattle.list_scheduler.proofs.copies.Copies.leave.Given as goal

abbrev pub invariant-loop-t : goal.invariant-loop-t
invariant-loop-t g l = l.self ≡ table g.row.N (left_up_to l.t l.node l.fn.self)
