-- The head of a period's record: before the period, and when the period has begun.
use Rattle.std.specs.Prelude.{◌≡◌, ◌<◌, ℕ, suc, List, [], length, map, Option, None, Some, option_map}
use Rattle.node_grid.specs.NodeSet.{ids_below}
use Rattle.agreed_state.specs.declared.config.Config.{Config}
use Rattle.agreed_state.specs.Agreed.{AgreedView}
use Rattle.protocol.specs.Cluster.{begins}
use Rattle.protocol.specs.Run.{run, classes, members_in}
use Rattle.protocol.specs.Safe.{reference, members_at}
use Rattle.scenario.specs.Scenario.{ScenarioView, system_of}
use Rattle.cluster_periods.specs.Record.{ClockShown, budget_in, within_in, claimed_before, class_shown}
use Rattle.cluster_record.specs.Shown.{clock_shown}
use Rattle.cluster_record.specs.Clocking.{offsets_kept, offsets_before}
use Rattle.shared_states.specs.Sharing.{state_at}
use Rattle.shown_period.specs.declared.head.Head.{Head}

-- the members with which the reference node begins a period, by the states of all nodes then
abbrev pub members_shown : List (Option AgreedView) → Option ℕ → List ℕ
members_shown states None = []
members_shown states (Some r) = members_in (state_at states r)

abbrev pub clock_of_head : {N : ℕ} → Head N → Option ClockShown
clock_of_head h = option_map clock_shown h.clock

-- a head of the records of this configuration
pub record HasShape {N : ℕ} (config : Config N) (h : Head N) : Type 0 where
  pub nodes : h.nodes ≡ config.nodes
  pub m : h.m ≡ config.m
  pub retire : h.retire ≡ config.policy.retire
  pub tasks : h.tasks ≡ length config.graph.tasks

-- of the period before p
pub record IsBefore {N : ℕ} (sc : ScenarioView N) (p : ℕ) (h : Head N) : Type 0 where
  pub shape : HasShape sc.config h
  pub claimed : h.claim ≡ claimed_before (system_of sc) p
  pub clocks : offsets_kept (clock_of_head h) ≡ offsets_before sc p

-- of period p, with the clocks of the period before it
pub record IsBegun {N : ℕ} (sc : ScenarioView N) (p : ℕ) (h : Head N) : Type 0 where
  pub shape : HasShape sc.config h
  pub period : h.period ≡ p
  pub in_run : p < sc.periods
  pub reference : h.reference ≡ reference (run (system_of sc)) (classes (system_of sc)) p
  pub members : h.members ≡ members_at (run (system_of sc)) (classes (system_of sc)) p
  pub budget : h.budget ≡ budget_in (system_of sc) p
  pub within : h.within ≡ within_in (system_of sc) p
  pub claimed : h.claim ≡ claimed_before (system_of sc) (suc p)
  pub classes_shown : h.classes ≡ map (class_shown (system_of sc) p) (ids_below N)
  pub clocks : offsets_kept (clock_of_head h) ≡ offsets_before sc p

-- the states with which the nodes in use begin period p
abbrev pub AreBegun : {N : ℕ} → ScenarioView N → ℕ → List (Option AgreedView) → Type 0
AreBegun sc p states = (i : ℕ) → i < sc.config.nodes → state_at states i ≡ (begins (run (system_of sc)) i p).state
