use Rattle.std.proofs.Common.{◌≡◌, ℕ, ◌<◌, length, get_or, bit_xor}
use Rattle.node_grid.proofs.planes.sum_bits.Given as goal

abbrev pub invariant-loop-node : goal.invariant-loop-node
invariant-loop-node g l = record {
  wide : length l.sums ≡ g.row.N;
  done : (j : ℕ) → j < l.node → get_or l.sums j 0 ≡ bit_xor (get_or l.one j 0) (get_or l.other j 0);
}
