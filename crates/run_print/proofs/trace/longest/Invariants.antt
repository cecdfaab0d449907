use Rattle.std.proofs.Common.{ℕ, ◌≤◌, ◌<◌, length}
use Rattle.cluster_periods.specs.Record.{frame_at}
use Rattle.run_print.proofs.trace.longest.Given as goal

abbrev pub invariant-loop-from : goal.invariant-loop-from
invariant-loop-from g l = record {
  each : (from : ℕ) → from < l.from → length (frame_at l.shown l.traced.slot from) ≤ l.most;
  short : l.most ≤ 90104;
}
