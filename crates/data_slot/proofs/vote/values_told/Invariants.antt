use Rattle.std.proofs.Common.{◌≡◌, ◌<◌, ℕ, None, get_or, length}
use Rattle.data_slot.specs.Told.{value_told}
use Rattle.data_slot.proofs.vote.values_told.Given as goal

abbrev pub invariant-loop-q : goal.invariant-loop-q
invariant-loop-q g l = record {
  wide : length l.values ≡ g.row.N;
  so_far : (k : ℕ) → k < l.q → get_or l.values k None ≡ value_told l.told k l.c;
}
