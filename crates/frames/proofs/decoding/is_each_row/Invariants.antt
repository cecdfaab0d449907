use Rattle.std.proofs.Common.{◌≡◌, ℕ, ◌<◌, true}
use Rattle.frames.specs.Checks.{is_row_entry}
use Rattle.frames.specs.Reading.{piece}
use Rattle.frames.proofs.decoding.is_each_row.Given as goal

abbrev pub invariant-loop-k : goal.invariant-loop-k
invariant-loop-k l = (j : ℕ) → j < l.k → is_row_entry l.version l.round (piece l.width l.body j) ≡ true
