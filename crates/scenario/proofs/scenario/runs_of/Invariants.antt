use Rattle.std.proofs.Common.{◌≡◌, ℕ, ◌-◌, ◌<◌, ◌++◌, [], map, length, replicate}
use Rattle.std.specs.Prelude.{slice_index_or}
use Rattle.scenario.specs.Given.{time_of}
use Rattle.scenario.specs.Seen.{task_view}
use Rattle.scenario.proofs.scenario.runs_of.Given as goal

abbrev pub invariant-loop-node : goal.invariant-loop-node
invariant-loop-node g l = record {
  long : length l.runs ≡ g.row.N;
  each : (i : ℕ) → i < l.node → slice_index_or l.runs i [] ≡ map (λ t. time_of t.nodes t.run i) (map task_view l.tasks) ++ replicate (32 - length l.tasks) 0;
}
