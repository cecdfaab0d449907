-- All nodes of a scenario: how they stand between periods, and what a period makes of them.
use Rattle.std.specs.Prelude.{◌≡◌, ◌<◌, ◌≤◌, ◌+◌, ℕ, suc, false, All, List, map, if◌then◌else◌}
use Rattle.node_grid.specs.NodeSet.{ids_below}
use Rattle.slot_plan.specs.Slots.{slot_count}
use Rattle.frames.specs.Bound.{IsGreatest}
use Rattle.fault_classes.specs.Plan.{Plan, restarts_at}
use Rattle.agreed_state.specs.Body.{state_len}
use Rattle.protocol.specs.Steps.{after_steps}
use Rattle.protocol.specs.Cluster.{kept, view}
use Rattle.protocol.specs.Run.{System, sent, run}
use Rattle.node_steps.specs.Parts.{NodeView}
use Rattle.node_steps.specs.Steps.{begun, restarted, frame_of}
use Rattle.node_steps.specs.Stages.{outcome_of}
use Rattle.node_steps.specs.Sending.{fixed, fixed_of}
use Rattle.scenario.specs.Scenario.{ScenarioView, inputs_of, system_of, IsScenario}
use Rattle.cluster_periods.specs.Slots.{slot_all, IsReady}

-- a node restarts where the plan says so, and begins the period
abbrev pub begun_by : {N : ℕ} → ScenarioView N → ℕ → NodeView N → NodeView N
begun_by sc p v = begun (if restarts_at sc.plan v.phase.me p then restarted v else v) p (inputs_of sc v.phase.me p)

abbrev pub begun_all : {N : ℕ} → ScenarioView N → ℕ → List (NodeView N) → List (NodeView N)
begun_all sc p vs = map (begun_by sc p) vs

-- a node between periods
pub record IsResting {N : ℕ} (plan : Plan) (v : NodeView N) : Type 0 where
  pub shut : v.phase.is_open ≡ false
  pub me : v.phase.me < plan.nodes

-- so many slots, from slot s on
unfoldable pub slots_from : {N : ℕ} → Plan → ℕ → ℕ → ℕ → ℕ → ℕ → List (NodeView N) → List (NodeView N)
slots_from plan order nodes p s t vs = after_steps (λ r. slot_all plan order nodes p (s + r)) t vs

-- node i after period q of the run
pub record IsAfter {N : ℕ} (sc : ScenarioView N) (i q : ℕ) (v : NodeView N) : Type 0 where
  pub period : v.phase.period ≡ q
  pub outcome : v.outcome ≡ outcome_of (view (run (system_of sc)) i q)

-- node i before period p of the run, with room for frames of so many bytes
pub record IsBefore {N : ℕ} (sc : ScenarioView N) (room i p : ℕ) (v : NodeView N) : Type 0 where
  pub same : fixed v ≡ fixed_of sc.config room i
  pub keeps : v.kept ≡ kept (run (system_of sc)) i p
  pub shut : v.phase.is_open ≡ false
  pub last : (q : ℕ) → p ≡ suc q → IsAfter sc i q v

-- all nodes before period p of the run
pub record AreBefore {N : ℕ} (sc : ScenarioView N) (room p : ℕ) (vs : List (NodeView N)) : Type 0 where
  pub node : ℕ → NodeView N
  pub are : vs ≡ map node (ids_below sc.config.nodes)
  pub each : (i : ℕ) → i < sc.config.nodes → IsBefore sc room i p (node i)

-- so many slots of period p of the run, from slot s on to its end, with these nodes
pub record GoesOver {N : ℕ} (sc : ScenarioView N) (room p s slots : ℕ) (vs : List (NodeView N)) : Type 0 where
  pub ready : (t : ℕ) → t < slots → All (IsReady sc.plan) (slots_from sc.plan sc.order sc.config.nodes p s t vs)
  pub roomy : (t : ℕ) → t < slots → All (λ (v : NodeView N). v.arrived.frame_max ≤ room) (slots_from sc.plan sc.order sc.config.nodes p s t vs)
  pub frames : (t : ℕ) → t < slots → map frame_of (slots_from sc.plan sc.order sc.config.nodes p s t vs) ≡ map (sent (system_of sc) p (s + t)) (ids_below sc.config.nodes)
  pub after : AreBefore sc room (suc p) (slots_from sc.plan sc.order sc.config.nodes p s slots vs)
  pub outcomes : map (λ (v : NodeView N). v.outcome) (slots_from sc.plan sc.order sc.config.nodes p s slots vs) ≡ map (λ i. outcome_of (view (run (system_of sc)) i p)) (ids_below sc.config.nodes)

-- period p of the run, from these nodes on
abbrev pub IsPeriod : {N : ℕ} → ScenarioView N → ℕ → ℕ → List (NodeView N) → Type 0
IsPeriod sc room p vs = GoesOver sc room p 0 (slot_count sc.config.m) (begun_all sc p vs)

-- the frames of a period of a run, by slot and sender
abbrev pub sent_in : System → ℕ → List (List (List ℕ))
sent_in sys p = map (λ t. map (sent sys p t) (ids_below sys.setting.config.nodes)) (ids_below (slot_count sys.setting.config.m))

-- Law: each period of the nodes is that of the run
abbrev pub PeriodsLaw : Type 0
PeriodsLaw =
    (N : ℕ) (sc : ScenarioView N) (room p : ℕ) (vs : List (NodeView N))
    → IsScenario sc → IsGreatest sc.config.nodes sc.config.m (state_len sc.config) 8 room → AreBefore sc room p vs → IsPeriod sc room p vs

-- all nodes before period p of the run, with room for the frames of the configuration
pub record AreNodes {N : ℕ} (sc : ScenarioView N) (p : ℕ) (vs : List (NodeView N)) : Type 0 where
  pub room : ℕ
  pub greatest : IsGreatest sc.config.nodes sc.config.m (state_len sc.config) 8 room
  pub before : AreBefore sc room p vs
