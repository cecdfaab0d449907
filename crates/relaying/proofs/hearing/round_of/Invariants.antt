use Rattle.std.proofs.Common.{◌≡◌}
use Rattle.relaying.specs.Told.{ArePut}
use Rattle.relaying.proofs.hearing.round_of.Given as goal

abbrev pub invariant-loop-node : goal.invariant-loop-node
invariant-loop-node g l = record {
  put : ArePut l.watch l.others l.node l.frames;
  width : l.frames.width ≡ l.width;
  size : l.frames.size ≡ l.size;
}
