use Rattle.std.proofs.Common.{◌≡◌, ℕ, ◌<◌, true}
use Rattle.frames.specs.Checks.{is_claim_entry}
use Rattle.frames.specs.Reading.{piece}
use Rattle.frames.proofs.decoding.are_claims.Given as goal

abbrev pub invariant-loop-k : goal.invariant-loop-k
invariant-loop-k l = (j : ℕ) → j < l.k → is_claim_entry l.tasks l.round (piece 2 l.body j) ≡ true
