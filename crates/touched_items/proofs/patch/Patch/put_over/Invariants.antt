use Rattle.std.proofs.Common.{◌≡◌, ℕ, ◌+◌, ◌≤◌, ◌⊎◌, get_or}
use Rattle.touched_items.proofs.Patches.{written}
use Rattle.touched_items.proofs.patch.Patch.put_over.Given as goal

abbrev pub invariant-loop-place : goal.invariant-loop-place
invariant-loop-place l = record {
  low : (l.place ≤ l.end) ⊎ (l.place ≡ l.start);
  written : (k : ℕ) → get_or l.part k 0 ≡ written l.at l.self.bytes.now l.place (get_or l.initial.part k 0) (l.from + k);
}
