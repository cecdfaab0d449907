-- A live node that is told what a run gives it: what it answers is what the record of the run's period shows of the node.
use Rattle.std.specs.Prelude.{◌≡◌, ◌≢◌, ◌<◌, ℕ, suc, ◌+◌, ℤ, true, List, [], ◌++◌, Option, None, Some, slice_get}
use Rattle.std.specs.List.{flat_map}
use Rattle.node_grid.specs.NodeSet.{ids_below, has_id}
use Rattle.slot_plan.specs.Slots.{slot_count}
use Rattle.error_detect.specs.Multiset.{Arriving, from_sender}
use Rattle.fault_classes.specs.Plan.{restarts_at}
use Rattle.clock_skew.specs.Clock.{ClockView}
use Rattle.clock_skew.specs.Reading.{reading_at}
use Rattle.agreed_state.specs.declared.config.Inputs.{Inputs}
use Rattle.protocol.specs.Cluster.{kept, begins, view}
use Rattle.protocol.specs.Clocks.{correction_at, offsets}
use Rattle.protocol.specs.Configured.{setting_of}
use Rattle.protocol.specs.Run.{System, run, deliveries}
use Rattle.protocol.specs.View.{opened}
use Rattle.node_steps.specs.Outcome.{Outcome}
use Rattle.scenario.specs.Scenario.{ScenarioView, system_of, IsScenario}
use Rattle.cluster_periods.specs.Record.{PeriodView, ClockShown, frame_at, period_record}
use Rattle.run_text.specs.PeriodText.{alone_text}
use Rattle.live_node.specs.Live.{LiveView}
use Rattle.live_node.specs.Live.Step.{Goes}
use Rattle.live_node.specs.Text.{say_text, correct_text}
use Rattle.live_law.specs.Events.{PeriodEvents, events_of, all_steps, restarts_in, arrivals_in, last_told, ahead_of}
use Rattle.live_law.specs.Living.{Rest, Rests, IsAllowed, number_told, inputs_told}

-- ---- what the record of a period shows of node i, as its controller writes it

-- the frames of the first so many slots
abbrev pub sent_text : PeriodView → ℕ → ℕ → List ℕ
sent_text t i slots = flat_map (λ s. say_text s (frame_at t s i)) (ids_below slots)

-- the lines that are printed of the node, with no class
abbrev pub recorded_alone : PeriodView → ℕ → Option Outcome → List ℕ
recorded_alone t i None = []
recorded_alone t i (Some o) = alone_text t.period i t.nodes t.retire o

-- with clocks, by how much it corrects its own
abbrev pub corrected_text : ℤ → Option ClockShown → List ℕ
corrected_text by None = []
corrected_text by (Some c) = correct_text by

-- all of it, where it corrects its clock by so much
abbrev pub record_text : PeriodView → ℕ → ℤ → List ℕ
record_text t i by = sent_text t i (slot_count t.m) ++ (recorded_alone t i (slice_get t.records i) ++ corrected_text by t.clock)

-- ---- what is told

-- the system of a scenario, but that each node is given this in each period, in place of its readings
abbrev pub system_given : {N : ℕ} → ScenarioView N → (ℕ → ℕ → Inputs) → System
system_given sc inputs = record (system_of sc) { inputs = inputs }

-- in each slot of period p node i is delivered what the run delivers to it, the frames of different nodes in any order
pub record IsDelivered (sys : System) (i p : ℕ) (ds : ℕ → List Arriving) : Type 0 where
  pub each : (t j : ℕ) → t < slot_count sys.setting.config.m → j < sys.setting.config.nodes → j ≢ i
      → from_sender j (ds t) ≡ deliveries sys p t j i

module _ {N : ℕ} (sc : ScenarioView N) (inputs : ℕ → ℕ → Inputs) where
  -- the period of the run
  abbrev pub run_record : ℕ → PeriodView
  run_record p = period_record (system_given sc inputs) sc.clock p

  -- a node that rests so begins period p of the run as node i: with its number, a restart where the run has one, and what the run gives it
  pub record BeginsAsRun (i p : ℕ) (r : Rest) (q : PeriodEvents) : Type 0 where
    pub number : number_told sc i r q ≡ p
    pub restarts : restarts_in q.before ≡ restarts_at sc.plan i p
    pub inputs_are : inputs_told sc i p q.before ≡ inputs i p

  -- of the clock of each node whose frame in the sync slot was good it's told last how far the run's clock is ahead
  pub record ToldClocks (i p : ℕ) (q : PeriodEvents) : Type 0 where
    pub each : (c : ClockView) → sc.clock ≡ Some c → (j : ℕ) → has_id (view (run (system_given sc inputs)) i p).sync j ≡ true
        → last_told (ahead_of j) (flat_map q.slots (ids_below (slot_count sc.config.m)))
        ≡ Some (reading_at c (offsets (run (system_given sc inputs)) c p) p i j)

  -- so much is by how much the run corrects the clock of node i after period p, where there are clocks
  abbrev pub CorrectsAsRun : ℕ → ℕ → ℤ → Type 0
  CorrectsAsRun i p by = (c : ClockView) → sc.clock ≡ Some c → by ≡ correction_at (run (system_given sc inputs)) c (offsets (run (system_given sc inputs)) c p) p i

  -- it takes the events, answers with what the run's record shows of node i, and keeps what node i keeps; where it is told the run's
  -- clocks, it corrects its own as the run does
  pub record AnswersAsRun (i p : ℕ) (r : Rest) (v : LiveView N) (q : PeriodEvents) : Type 0 where
    pub to : LiveView N
    pub by : ℤ
    pub takes : all_steps v (events_of sc.config.m q) ≡ Goes to (record_text (run_record p) i by)
    pub corrects : ToldClocks i p q → CorrectsAsRun i p by
    pub rests : Rests sc i (record { kept = kept (run (system_given sc inputs)) i (suc p); next = p + 1; run = r.run + 1 }) to

-- Law: where a live node goes into a period with what the run says, and is told what the run gives it, what it answers is the run's
abbrev pub LiveRunLaw : Type 0
LiveRunLaw =
    (N : ℕ) (sc : ScenarioView N) (inputs : ℕ → ℕ → Inputs) (i p : ℕ) (r : Rest) (v : LiveView N) (q : PeriodEvents)
    → IsScenario sc → i < sc.config.nodes → Rests sc i r v → IsAllowed sc i (slot_count sc.config.m) r q → BeginsAsRun sc inputs i p r q
    → opened (setting_of sc.config) (restarts_at sc.plan i p) r.kept ≡ begins (run (system_given sc inputs)) i p
    → IsDelivered (system_given sc inputs) i p (λ t. arrivals_in (q.slots t)) → AnswersAsRun sc inputs i p r v q
