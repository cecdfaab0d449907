use Rattle.std.proofs.Common.{ℕ, List, ◌≡◌, ◌≤◌, ◌<◌, length}
use Rattle.std.specs.Prelude.{None}
use Rattle.counted_relays.proofs.untouched.is_untouched.Given as goal

abbrev pub invariant-loop-before : goal.invariant-loop-before
invariant-loop-before g l = (j : ℕ) (path : List ℕ) → 0 < length path → length path ≤ l.before → g.T.Touched.says l.touched j path ≡ None
