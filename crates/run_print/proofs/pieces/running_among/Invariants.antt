use Rattle.std.proofs.Common.{◌≡◌, ℕ, ◌<◌, None}
use Rattle.list_scheduler.specs.Copies.{copy_at, running}
use Rattle.run_print.proofs.pieces.running_among.Given as goal

abbrev pub invariant-loop-t : goal.invariant-loop-t
invariant-loop-t g l = (u : ℕ) → u < l.t → running (copy_at l.copies u l.node) ≡ None
