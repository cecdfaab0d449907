use Rattle.std.proofs.Common.{◌≡◌, ℕ, ◌+◌, ◌*◌, ◌^◌, ◌≤◌, length, take, get_or, []}
use Rattle.std.specs.Int.{bit_at}
use Rattle.node_grid.specs.Planes.{count_at, EachCount}
use Rattle.node_grid.proofs.planes.Planes.add.Given as goal

abbrev pub invariant-loop-plane : goal.invariant-loop-plane
invariant-loop-plane g l = record {
  low : EachCount g.row.N (λ j k. count_at (take l.plane l.self-inside.planes) j k + 2 ^ l.plane * bit_at (get_or l.carry j 0) k ≡ count_at (take l.plane l.initial.self-inside.planes) j k + bit_at (get_or l.initial.carry j 0) k);
  wide : length l.self-inside.planes ≡ 5;
  high : (x : ℕ) → l.plane ≤ x → get_or l.self-inside.planes x [] ≡ get_or l.initial.self-inside.planes x [];
}
