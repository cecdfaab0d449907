use Rattle.std.proofs.Common.{◌≡◌, ℕ, ◌<◌, None}
use Rattle.list_scheduler.specs.Copies.{copy_at, running}
use Rattle.grouped_nodes.proofs.claim.running_in.Given as goal

abbrev pub invariant-loop-task : goal.invariant-loop-task
invariant-loop-task g l = (u : ℕ) → u < l.task → running (copy_at l.copies u l.node) ≡ None
