use Rattle.std.proofs.Common.{◌≡◌, length}
use Rattle.relay_table.specs.Free.{AreFree}
use Rattle.relay_table.proofs.free.lay_free.Given as goal

abbrev pub invariant-loop-len : goal.invariant-loop-len
invariant-loop-len g l = record {
  free : AreFree l.members l.len l.sets;
  long : length l.sets ≡ length l.fn.sets;
}
