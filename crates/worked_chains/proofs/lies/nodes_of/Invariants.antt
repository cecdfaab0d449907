use Rattle.std.proofs.Common.{◌≡◌, take, length}
use Rattle.worked_chains.proofs.lies.nodes_of.Given as goal

abbrev pub invariant-loop-k : goal.invariant-loop-k
invariant-loop-k l = record {
  long : length l.nodes ≡ 4;
  copied : take l.k l.nodes ≡ take l.k l.path;
}
