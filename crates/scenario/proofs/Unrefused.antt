-- Parts that no rule refuses say a scenario.
use Rattle.std.proofs.Common.{◌≡◌, ◌≤◌, ℕ, arith, inl, inr, map, None}
use Rattle.std.specs.Option.{option_or}
use Rattle.node_grid.specs.Capacity.{IsCapacity}
use Rattle.node_grid.specs.TruthFacts.{first_none, second_none}
use Rattle.scenario.specs.Facts.{no_place}
use Rattle.scenario.specs.Parts.{ScenarioParts}
use Rattle.scenario.specs.Numbers.{natural}
use Rattle.scenario.specs.Given.{task_of, scenario_of}
use Rattle.scenario.specs.Rules.{first_bad, is_acyclic, early_refusal, cycles_refusal, plan_refusal, clock_refusal, refusal}
use Rattle.scenario.specs.Scenario.{IsScenario}
use Rattle.scenario.proofs.Early.{early, ranges}
use Rattle.scenario.proofs.Tasks.{tasks_are}
use Rattle.scenario.proofs.Plans.{plan_unrefused}
use Rattle.scenario.proofs.Accepted.{accepted}

pub unrefused_is : (capacity : ℕ) (p : ScenarioParts) → IsCapacity capacity → refusal capacity p ≡ None → IsScenario (scenario_of capacity p)
unrefused_is capacity p room h =
    let late = option_or (plan_refusal p) (clock_refusal p) in
    let none : early_refusal capacity p ≡ None = first_none (early_refusal capacity p) (option_or (cycles_refusal p) late) h in
    let after_early = second_none (early_refusal capacity p) (option_or (cycles_refusal p) late) h in
    let after_cycles = second_none (cycles_refusal p) late after_early in
    let f = early capacity p none in
    let r = ranges capacity p f in
    let few : natural p.nodes ≤ 16 = elim room [ inl is ↦ omega (arith, r.few_nodes) | inr is ↦ omega (arith, r.few_nodes) ] in
    let acyclic = no_place 9 (first_bad (is_acyclic (map (task_of (natural p.nodes)) p.tasks)) 0 p.tasks) (first_none (cycles_refusal p) late after_early) in
    accepted capacity p room none (tasks_are (natural p.nodes) p.tasks f.tasks acyclic)
    (plan_unrefused (natural p.nodes) (natural p.m) (natural p.periods) p.faults p.restarts r.some_nodes few r.some_periods r.few_periods (first_none (plan_refusal p) (clock_refusal p) after_cycles))
    (second_none (plan_refusal p) (clock_refusal p) after_cycles)
