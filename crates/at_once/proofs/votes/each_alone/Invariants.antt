use Rattle.std.proofs.Common.{◌≡◌, ◌<◌, ℕ, length, get_or}
use Rattle.at_once.proofs.votes.each_alone.Given as goal

abbrev pub invariant-loop-i : goal.invariant-loop-i
invariant-loop-i g l = record {
  wide : length l.alone ≡ g.row.N;
  so_far : (j : ℕ) → j < l.i → get_or l.alone j 0 ≡ j;
}
