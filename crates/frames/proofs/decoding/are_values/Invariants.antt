use Rattle.std.proofs.Common.{◌≡◌, ℕ, ◌<◌, true}
use Rattle.frames.specs.Checks.{is_value}
use Rattle.frames.specs.Reading.{piece}
use Rattle.frames.proofs.decoding.are_values.Given as goal

abbrev pub invariant-loop-k : goal.invariant-loop-k
invariant-loop-k l = (j : ℕ) → j < l.k → is_value (piece 8 l.body j) ≡ true
