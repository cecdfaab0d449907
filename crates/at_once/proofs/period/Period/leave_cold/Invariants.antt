use Rattle.std.proofs.Common.{◌≡◌, length}
use Rattle.at_once.specs.Course.{AreLeft}
use Rattle.at_once.proofs.period.Period.leave_cold.Given as goal

abbrev pub invariant-loop-i : goal.invariant-loop-i
invariant-loop-i g l = record {
  left : AreLeft l.i l.fn.made l.made;
  groups : length l.made.group ≡ g.row.N;
  rows : length l.made.found ≡ g.row.N;
}
