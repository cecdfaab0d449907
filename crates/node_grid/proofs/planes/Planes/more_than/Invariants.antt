use Rattle.std.proofs.Common.{◌≡◌, ℕ, ◌<◌, length, get_or}
use Rattle.node_grid.specs.Planes.{more_mask}
use Rattle.node_grid.proofs.planes.Planes.more_than.Given as goal

abbrev pub invariant-loop-node : goal.invariant-loop-node
invariant-loop-node g l = record {
  wide : length l.row-inside.masks ≡ g.row.N;
  above : (j : ℕ) → j < l.node → get_or l.row-inside.masks j 0 ≡ more_mask l.self j (get_or l.limits j 0);
}
