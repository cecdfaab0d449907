use Rattle.std.proofs.Common.{◌≡◌, ℕ, ◌^◌, ◌==◌, ◌<◌, nat_lt, take, ◌%◌}
use Rattle.std.specs.Int.{bit_at}
use Rattle.node_grid.specs.Planes.{count_at}
use Rattle.node_grid.proofs.planes.above.Given as goal

abbrev pub invariant-loop-place : goal.invariant-loop-place
invariant-loop-place g l = (k : ℕ) → k < 16 → (bit_at l.above k == 1) ≡ nat_lt (l.limit % 2 ^ l.place) (count_at (take l.place l.planes) l.node k)
