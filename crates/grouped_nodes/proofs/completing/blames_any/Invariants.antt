use Rattle.std.proofs.Common.{ℕ, ◌≡◌, ◌<◌}
use Rattle.std.specs.Prelude.{slice_index_or}
use Rattle.list_scheduler.specs.Schedule.{no_verdict}
use Rattle.grouped_nodes.proofs.completing.blames_any.Given as goal

abbrev pub invariant-loop-node : goal.invariant-loop-node
invariant-loop-node g l = (j : ℕ) → j < l.node → slice_index_or l.judged j no_verdict ≡ no_verdict
