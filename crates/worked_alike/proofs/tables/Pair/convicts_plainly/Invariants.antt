use Rattle.std.proofs.Common.{◌≤◌}
use Rattle.worked_alike.proofs.tables.Pair.convicts_plainly.Given as goal

abbrev pub invariant-loop-place : goal.invariant-loop-place
invariant-loop-place l = l.count ≤ 15
