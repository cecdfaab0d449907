use Rattle.std.proofs.Common.{◌≡◌, ◌≤◌, ◌*◌}
use Rattle.relay_table.specs.Free.{free_begins}
use Rattle.relay_table.proofs.free.free_begins.Given as goal

abbrev pub invariant-loop-shorter : goal.invariant-loop-shorter
invariant-loop-shorter l = record {
  so_far : l.begins ≡ free_begins l.members l.shorter;
  small : l.begins ≤ 65536 * l.shorter;
}
