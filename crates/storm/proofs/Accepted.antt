-- The system that the parts of a storm give, and that it is accepted.
use Rattle.std.proofs.Common.{◌≡◌, ℕ, zero, suc, ◌<◌, true, false, List, [], map, length, None, refl, ap, ap₂, subst, ◌∙◌, inl, arith}
use Rattle.task_graph.specs.Graph.{TaskView, IsOut, IsTasks}
use Rattle.task_graph.specs.Reach.{is_cyclic}
use Rattle.task_graph.specs.GraphLaws.{is_cyclic-finds, cyclic_within}
use Rattle.fault_classes.specs.Plan.{Plan, plan_of}
use Rattle.fault_classes.specs.Rules.{refusal_of}
use Rattle.protocol.specs.Run.{System}
use Rattle.protocol.specs.Accepted.{IsAccepted}
use Rattle.scenario.specs.Given.{task_of, config_of, plan_in, times_of, rows_of, scenario_of}
use Rattle.scenario.specs.Scenario.{ScenarioView, IsScenario, system_of}
use Rattle.scenario.proofs.Accepted.{accepted}
use Rattle.storm.specs.Storm.{Block, restarts_of}
use Rattle.storm.specs.Parts.{storm_tasks, storm_channels, parts_of}
use Rattle.storm.proofs.Off.{plan_by}
use Rattle.storm.proofs.Shape.{AreBlocks}
use Rattle.storm.proofs.Planned.{not_refused}
use Rattle.storm.proofs.Refusals.{restarts_back, lines_are, not_early, no_clock}

-- ---- the tasks

abbrev tasks : List TaskView
tasks = map (task_of 8) storm_tasks

in_range : (t : ℕ) → IsOut 8 tasks t → ⊥
in_range zero h = let e : true ≡ false = h.1 in cc
in_range (suc zero) h = let e : true ≡ false = h.1 in cc
in_range (suc (suc zero)) h = let e : true ≡ false = h.1 in cc
in_range (suc (suc (suc zero))) h = let e : true ≡ false = h.1 in cc
in_range (suc (suc (suc (suc zero)))) h = let e : true ≡ false = h.1 in cc
in_range (suc (suc (suc (suc (suc zero))))) h = let e : true ≡ false = h.1 in cc
in_range (suc (suc (suc (suc (suc (suc t)))))) h = absurd (let l = h.0 in omega arith)

acyclic : (t : ℕ) → is_cyclic tasks t ≡ true → t < 6 → ⊥
acyclic zero h l = let e : false ≡ true = h in cc
acyclic (suc zero) h l = let e : false ≡ true = h in cc
acyclic (suc (suc zero)) h l = let e : false ≡ true = h in cc
acyclic (suc (suc (suc zero))) h l = let e : false ≡ true = h in cc
acyclic (suc (suc (suc (suc zero)))) h l = let e : false ≡ true = h in cc
acyclic (suc (suc (suc (suc (suc zero))))) h l = let e : false ≡ true = h in cc
acyclic (suc (suc (suc (suc (suc (suc t)))))) h l = absurd (omega arith)

tasks_are : IsTasks 8 tasks
tasks_are = record { in_range = in_range; acyclic = λ t h. acyclic t (is_cyclic-finds tasks t h) (cyclic_within tasks t h) }

-- ---- the plan, and the system

abbrev pub scenario_with : Plan → ScenarioView 8
scenario_with plan = record {
  config = config_of 8 (parts_of []);
  plan = plan;
  periods = 1024;
  order = 0;
  times = map (times_of 8) storm_tasks;
  readings = map rows_of storm_channels;
  clock = None;
}

-- the system of a storm of these blocks
abbrev pub system_by : List Block → System
system_by bs = system_of (scenario_with (plan_by bs))

plan_is : (bs : List Block) → length bs ≡ 64 → AreBlocks 0 bs → plan_in (parts_of bs) ≡ plan_by bs
plan_is bs long are = ap₂ (plan_of 8 2 1024) (lines_are bs long are) (restarts_back (restarts_of bs))

pub given_is : (bs : List Block) → length bs ≡ 64 → AreBlocks 0 bs → system_of (scenario_of 8 (parts_of bs)) ≡ system_by bs
given_is bs long are = ap (λ (plan : Plan). system_of (scenario_with plan)) (plan_is bs long are)

scenario_is : (bs : List Block) → length bs ≡ 64 → AreBlocks 0 bs → IsScenario (scenario_of 8 (parts_of bs))
scenario_is bs long are = accepted 8 (parts_of bs) (inl refl) (not_early bs) tasks_are (ap refusal_of (plan_is bs long are) ∙ not_refused bs (omega arith) are) (no_clock bs)

pub accepted_by : (bs : List Block) → length bs ≡ 64 → AreBlocks 0 bs → IsAccepted (system_by bs)
accepted_by bs long are = subst IsAccepted (given_is bs long are) (scenario_is bs long are).system
