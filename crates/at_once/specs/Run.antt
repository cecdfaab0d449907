-- What a run is seen as, and what it keeps.
use Rattle.std.specs.Prelude.{◌≡◌, ◌≤◌, ℕ, suc}
use Rattle.settled_paths.specs.Rooms.{Room}
use Rattle.scenario.specs.Scenario.{ScenarioView, system_of, IsScenario}
use Rattle.shared_states.specs.Sharing.{AreAgreed}
use Rattle.cluster_periods.specs.Record.{period_record, without_frames}
use Rattle.shown_period.specs.declared.shown.Shown.{Shown}
use Rattle.shown_period.specs.Outcomes.{HasBeliefs}
use Rattle.shown_period.specs.Heads.{HasShape, IsBefore}
use Rattle.shown_period.specs.Whole.{record_of}
use Rattle.at_once.specs.declared.keeping.Keeping.{Keeping}
use Rattle.at_once.specs.Kept.{AreKept}

-- a run: its scenario, and how many periods were run
pub record RunView (N : ℕ) : Type 0 where
  pub scenario : ScenarioView N
  pub run : ℕ

-- what a period of the run is shown as
abbrev pub ShowsPeriod : {N : ℕ} → ScenarioView N → ℕ → Shown N → Type 0
ShowsPeriod sc p shown = record_of shown ≡ without_frames (period_record (system_of sc) sc.clock p)

-- what is shown is of nodes of the scenario, which is an accepted one, with a place for what each believes
pub record FitsScenario {N : ℕ} (sc : ScenarioView N) (s : Shown N) : Type 0 where
  pub scenario : IsScenario sc
  pub shape : HasShape sc.config s.head
  pub beliefs : HasBeliefs s.made
  pub agreed : AreAgreed sc.config s.made.states

-- the nodes keep what the run of the scenario leaves after p periods, and the last of these is shown
pub record IsRun {N : ℕ} (sc : ScenarioView N) (p : ℕ) (k : Keeping N) (claims rows : Room) (shown : Shown N) : Type 0 where
  pub scenario : IsScenario sc
  pub in_run : p ≤ sc.periods
  pub kept : AreKept sc p shown.made.states k
  pub beliefs : HasBeliefs shown.made
  pub before : IsBefore sc p shown.head
  pub claims_room : claims ≡ record { nodes = sc.config.nodes; rounds = sc.config.m }
  pub rows_room : rows ≡ record { nodes = sc.config.nodes; rounds = sc.config.m }
  pub last : (q : ℕ) → p ≡ suc q → ShowsPeriod sc q shown
