use Rattle.std.proofs.Common.{◌≡◌, ◌++◌, ◌<◌, None, slice_index_or}
use Rattle.std.specs.Prelude.{All, is_some}
use Rattle.live_node.proofs.Told.{read_among}
use Rattle.live_node.proofs.correcting.good_told.Given as goal

abbrev pub invariant-loop-node : goal.invariant-loop-node
invariant-loop-node g l = record {
  can : (goal.iterator-loop-node g).can_next l.node-iterator;
  ends : (goal.iterator-loop-node g).is_finite l.node-iterator;
  split : l.sync ≡ l.yielded ++ l.node-iterator;
  low : All (λ k. k < g.row.N) l.node-iterator;
  good : l.good ≡ read_among g.row.N l.yielded (λ k. is_some (slice_index_or l.ahead k None));
}
