use Rattle.std.proofs.Common.{◌≡◌, ◌≤◌, ◌*◌}
use Rattle.settled_paths.specs.Levels.{level_at}
use Rattle.settled_paths.proofs.exchange.level_at.Given as goal

abbrev pub invariant-loop-fewer : goal.invariant-loop-fewer
invariant-loop-fewer l = record {
  begins : l.begins ≡ level_at l.others l.fewer;
  small : l.begins ≤ 65536 * l.fewer;
}
