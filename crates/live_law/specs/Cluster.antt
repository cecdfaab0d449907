-- Live controllers of all nodes of a cluster, each told what the others say, over a faulty network.
use Rattle.std.specs.Prelude.{◌≡◌, ◌≢◌, ◌<◌, ◌≤◌, ◌⊎◌, ℕ, zero, suc, ◌+◌, ◌^◌, ℤ, true, List, []}
use Rattle.error_detect.specs.Multiset.{from_sender}
use Rattle.fault_classes.specs.Line.{effect_at}
use Rattle.fault_classes.specs.Plan.{restarts_at}
use Rattle.fault_link.specs.Arrival.{delivered_of}
use Rattle.slot_plan.specs.Slots.{slot_count}
use Rattle.agreed_state.specs.declared.config.Inputs.{Inputs}
use Rattle.agreed_state.specs.Config.{IsInputs}
use Rattle.protocol.specs.Accepted.{IsAccepted, IsClose}
use Rattle.protocol.specs.Cluster.{kept}
use Rattle.protocol.specs.Configured.{setting_of}
use Rattle.protocol.specs.Run.{run, classes}
use Rattle.protocol.specs.Safe.{Safe}
use Rattle.node_steps.specs.Steps.{frame_of}
use Rattle.scenario.specs.Scenario.{ScenarioView, IsScenario, inputs_of}
use Rattle.cluster_periods.specs.Laws.{IsClaimed, Promises}
use Rattle.live_node.specs.Live.{LiveView, IsNewLive, Step}
use Rattle.live_node.specs.Live.Step.{Goes, Refuses}
use Rattle.live_law.specs.Run.{system_given, run_record, sent_text, record_text, BeginsAsRun, ToldClocks, CorrectsAsRun}
use Rattle.live_law.specs.Events.{PeriodEvents, part_of, events_of, all_steps, arrivals_in}
use Rattle.live_law.specs.Living.{rest_of, Rests, IsAllowed}

-- a live node behind a step, which is the one before where the step is refused
abbrev pub reached : {N : ℕ} → LiveView N → Step N → LiveView N
reached v (Goes w text) = w
reached v (Refuses rule) = v

-- a live node after the events of a period, and what it says in a slot of it
abbrev pub after_events : {N : ℕ} → ℕ → LiveView N → PeriodEvents → LiveView N
after_events m v q = reached v (all_steps v (events_of m q))

abbrev pub said_live : {N : ℕ} → LiveView N → PeriodEvents → ℕ → List ℕ
said_live v q t = frame_of (reached v (all_steps v (part_of q t))).node

-- of each node's controller: how it stands before each period, what it is told of the period, and how many slots of the period it runs:
-- none where it is down, not all where it is killed
pub record LiveControllers (N : ℕ) : Type 0 where
  pub live : ℕ → ℕ → LiveView N  -- node, period
  pub told : ℕ → ℕ → PeriodEvents  -- node, period
  pub ran : ℕ → ℕ → ℕ  -- node, period

module _ {N : ℕ} (sc : ScenarioView N) (inputs : ℕ → ℕ → Inputs) (c : LiveControllers N) where
  -- a controller begins its first period as a new one, and a later one as it came out of the whole of the period before
  abbrev pub Continues : ℕ → ℕ → Type 0
  Continues i zero = IsNewLive sc i (c.live i 0)
  Continues i (suc p) =
      (c.ran i p ≡ slot_count sc.config.m) × (c.live i (suc p) ≡ after_events sc.config.m (c.live i p) (c.told i p))

  -- or it is any that rests, a new one too, and the plan says that the node restarts
  pub record BeginsAnew (i p : ℕ) : Type 0 where
    pub restarts : restarts_at sc.plan i p ≡ true
    pub rests : Rests sc i (rest_of (c.live i p)) (c.live i p)

  -- a controller that runs slots of a period: how it came to it, and that it is told what may be told, the number and the restart of
  -- the run, and what it is given
  pub record TakesPart (i p : ℕ) : Type 0 where
    pub comes : Continues i p ⊎ BeginsAnew i p
    pub may : IsAllowed sc i (c.ran i p) (rest_of (c.live i p)) (c.told i p)
    pub as_run : BeginsAsRun sc inputs i p (rest_of (c.live i p)) (c.told i p)

  -- what the controller of node i is delivered of node j's frame in a slot: what the plan makes of what that node's controller says
  -- there; and nothing where that one doesn't run, of which the plan tells by a line that loses the frame, whatever it is
  pub record Carries (i j p t : ℕ) : Type 0 where
    pub spoken : t < c.ran j p
        → from_sender j (arrivals_in ((c.told i p).slots t)) ≡ delivered_of (effect_at sc.plan.lines p t j i) (said_live (c.live j p) (c.told j p) t)
    pub silent : c.ran j p ≤ t
        → (from_sender j (arrivals_in ((c.told i p).slots t)) ≡ []) × ((frame : List ℕ) → delivered_of (effect_at sc.plan.lines p t j i) frame ≡ [])

  -- controllers that are linked by a network in which befalls the frames what the plan says
  pub record AreLinked : Type 0 where
    pub runs : (i p : ℕ) → i < sc.config.nodes → 0 < c.ran i p → TakesPart i p
    pub hear : (i j p t : ℕ) → i < sc.config.nodes → j < sc.config.nodes → j ≢ i → t < slot_count sc.config.m → t < c.ran i p
        → Carries i j p t

  -- what a controller answers in so many slots and in a whole period is what the record of the run's period shows of its node; where it
  -- is told the run's clocks, it corrects its own as the run does
  pub record AnswersSlots (i p slots : ℕ) : Type 0 where
    pub to : LiveView N
    pub takes : all_steps (c.live i p) (part_of (c.told i p) slots) ≡ Goes to (sent_text (run_record sc inputs p) i (suc slots))

  pub record AnswersPeriod (i p : ℕ) : Type 0 where
    pub to : LiveView N
    pub by : ℤ
    pub takes : all_steps (c.live i p) (events_of sc.config.m (c.told i p)) ≡ Goes to (record_text (run_record sc inputs p) i by)
    pub corrects : ToldClocks sc inputs i p (c.told i p) → CorrectsAsRun sc inputs i p by
    pub rests : Rests sc i (record { kept = kept (run (system_given sc inputs)) i (suc p); next = p + 1; run = (c.live i p).run + 1 }) to

  pub record IsLiveRun (i p : ℕ) : Type 0 where
    pub slots : (t : ℕ) → t < slot_count sc.config.m → t < c.ran i p → AnswersSlots i p t
    pub whole : c.ran i p ≡ slot_count sc.config.m → AnswersPeriod i p

-- Law: linked live controllers are the run of the plan, in each period in which they run, for however many periods
abbrev pub LiveClusterLaw : Type 0
LiveClusterLaw =
    (N : ℕ) (sc : ScenarioView N) (inputs : ℕ → ℕ → Inputs) (c : LiveControllers N) → IsScenario sc → AreLinked sc inputs c
    → (i p : ℕ) → i < sc.config.nodes → 0 < c.ran i p → IsLiveRun sc inputs c i p

-- what the controllers of a scenario's nodes answer in a period is the run's, and all holds that is promised of the period
pub record IsPromised {N : ℕ} (sc : ScenarioView N) (c : LiveControllers N) (p : ℕ) : Type 0 where
  pub answers : (i : ℕ) → i < sc.config.nodes → 0 < c.ran i p → IsLiveRun sc (inputs_of sc) c i p
  pub promises : Promises sc p

-- Law: what linked live controllers answer in a period that the run claims is the run's, and all holds that is promised of the period
abbrev pub LivePromiseLaw : Type 0
LivePromiseLaw =
    (N : ℕ) (sc : ScenarioView N) (c : LiveControllers N) (p : ℕ)
    → IsScenario sc → AreLinked sc (inputs_of sc) c → IsClaimed sc p → IsPromised sc c p

-- nodes that are given what the rules of a scenario allow: run times and readings in range, and readings of one sensor in one period
-- within its delta of each other
pub record AreGiven {N : ℕ} (sc : ScenarioView N) (inputs : ℕ → ℕ → Inputs) : Type 0 where
  pub each : (i p : ℕ) → i < sc.config.nodes → IsInputs sc.config.graph i (inputs i p)
  pub close : IsClose (setting_of sc.config) inputs

-- what controllers answer that are given this is the run's, whose period is safe. All laws of accepted systems speak of the run
pub record IsSafeGiven {N : ℕ} (sc : ScenarioView N) (inputs : ℕ → ℕ → Inputs) (c : LiveControllers N) (p : ℕ) : Type 0 where
  pub answers : (i : ℕ) → i < sc.config.nodes → 0 < c.ran i p → IsLiveRun sc inputs c i p
  pub accepted : IsAccepted (system_given sc inputs)
  pub safe : Safe (run (system_given sc inputs)) (classes (system_given sc inputs)) p

-- Law: where linked live controllers are told readings that are in range and near each other, each period that the run with these
-- readings claims is safe
abbrev pub LiveGivenLaw : Type 0
LiveGivenLaw =
    (N : ℕ) (sc : ScenarioView N) (inputs : ℕ → ℕ → Inputs) (c : LiveControllers N) (p : ℕ)
    → IsScenario sc → AreGiven sc inputs → AreLinked sc inputs c → (run_record sc inputs p).claim ≡ true → IsSafeGiven sc inputs c p

-- controllers that begin as these new ones, are linked, run each period that has a number, and are told the run's clocks
pub record RunAsPlanned {N : ℕ} (sc : ScenarioView N) (first : ℕ → LiveView N) : Type 0 where
  pub controllers : LiveControllers N
  pub begin : (i : ℕ) → controllers.live i 0 ≡ first i
  pub linked : AreLinked sc (inputs_of sc) controllers
  pub whole : (i p : ℕ) → p < 2 ^ 32 → controllers.ran i p ≡ slot_count sc.config.m
  pub clocks : (i p : ℕ) → i < sc.config.nodes → p < 2 ^ 32 → ToldClocks sc (inputs_of sc) i p (controllers.told i p)

-- Law: there are such controllers for each scenario. So each of its runs is one of live controllers
abbrev pub LivePlanLaw : Type 0
LivePlanLaw =
    (N : ℕ) (sc : ScenarioView N) (first : ℕ → LiveView N)
    → IsScenario sc → ((i : ℕ) → i < sc.config.nodes → IsNewLive sc i (first i)) → RunAsPlanned sc first
