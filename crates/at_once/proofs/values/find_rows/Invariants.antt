use Rattle.std.proofs.Common.{◌≡◌, ◌<◌, ℕ, [], length, replicate, get_or, if◌then◌else◌}
use Rattle.node_grid.specs.NodeSet.{has_id}
use Rattle.at_once.specs.Kept.{notes_at}
use Rattle.at_once.proofs.values.find_rows.Given as goal

abbrev pub invariant-loop-i : goal.invariant-loop-i
invariant-loop-i g l = record {
  wide : length l.found ≡ g.row.N;
  so_far : (j : ℕ) → j < l.i → get_or l.found j [] ≡ (if has_id l.full j then (notes_at l.notes j).row else replicate g.row.N 0);
}
