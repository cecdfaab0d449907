-- A period over the list of all nodes.
use Rattle.std.proofs.Common.{ℕ, ◌≡◌, ◌<◌, ◌≤◌, ◌+◌, List, map, length, sym, ap, subst, ◌∙◌, arith, false, if◌then◌else◌}
use Rattle.std.specs.Prelude.{All}
use Rattle.std.proofs.lemmas.List.FromFn.{length-map-range_with_len}
use Rattle.node_grid.specs.NodeSet.{ids_below}
use Rattle.slot_plan.specs.Slots.{slot_count}
use Rattle.node_grid.specs.ListFacts.{map_map}
use Rattle.frames.specs.Bound.{IsGreatest}
use Rattle.error_detect.specs.Multiset.{Arriving}
use Rattle.fault_classes.specs.Plan.{restarts_at}
use Rattle.agreed_state.specs.Body.{state_len}
use Rattle.protocol.specs.Cluster.{begins}
use Rattle.protocol.specs.Run.{System, sent, run}
use Rattle.safety.specs.Talk.{DeliveryLaw, SayingLaw}
use Rattle.node_steps.specs.Parts.{NodeView}
use Rattle.node_steps.specs.Steps.{begun, restarted}
use Rattle.node_steps.specs.Period.{slot_run, slots_run}
use Rattle.node_steps.specs.Sending.{Fixed, GoesThrough, PeriodLaw}
use Rattle.node_steps.specs.FixedLaws.{slots_period}
use Rattle.scenario.specs.Scenario.{ScenarioView, inputs_of, system_of, IsScenario}
use Rattle.cluster_periods.specs.Slots.{arrivals}
use Rattle.cluster_periods.specs.Periods.{begun_by, begun_all, IsResting, IsBefore, AreBefore, IsPeriod, PeriodsLaw}
use Rattle.cluster_periods.proofs.AllSlots.{map_ids, all_ids, EachGoes, goes_over}
use Rattle.cluster_periods.proofs.Nodes.{ds, woken_is, frames_there, through_there}

module _ {N : ℕ} (sc : ScenarioView N) (is : IsScenario sc) (room : ℕ) (greatest : IsGreatest sc.config.nodes sc.config.m (state_len sc.config) 8 room) (delivery : DeliveryLaw) (saying : SayingLaw) (p : ℕ) where
  abbrev sys : System
  sys = system_of sc

  within : sc.order ≤ sc.config.nodes
  within = omega (arith, is.order)

  -- what is delivered to node i
  abbrev served : ℕ → ℕ → List Arriving
  served i = ds sc is.system.capacity is.system.config room within greatest delivery p i

  module _ (law : PeriodLaw) (node : ℕ → NodeView N) (before : (i : ℕ) → i < sc.config.nodes → IsBefore sc room i p (node i)) where
    abbrev start : ℕ → NodeView N
    start i = begun (if restarts_at sc.plan i p then restarted (node i) else node i) p (inputs_of sc i p)

    abbrev y : ℕ → ℕ → NodeView N
    y t i = slots_run (served i) t (start i)

    goes : (i : ℕ) → i < sc.config.nodes
        → GoesThrough sc.config i p (inputs_of sc i p) (begins (run sys) i p) ((run sys).received i p) (served i) (if restarts_at sc.plan i p then restarted (node i) else node i)
    goes i l = through_there sc is.system.capacity is.system.config room within greatest delivery law p node before i l

    begun_there : begun_all sc p (map node (ids_below sc.config.nodes)) ≡ map start (ids_below sc.config.nodes)
    begun_there =
        map_map node (begun_by sc p) (ids_below sc.config.nodes)
        ∙ map_ids (λ i. begun_by sc p (node i)) start sc.config.nodes 0 (λ i l.
        ap (λ (q : ℕ). begun (if restarts_at sc.plan q p then restarted (node i) else node i) p (inputs_of sc q p)) (ap (λ (f : Fixed N). f.me) (before i (omega arith)).same))

    each_goes : EachGoes sc room p 0 (slot_count sc.config.m) y
    each_goes = record {
      next = λ t i l. ap (λ (r : ℕ). slot_run (y t i) (arrivals sc.plan sc.order sc.config.nodes p r (sent sys p r) i)) (let e : t ≡ 0 + t = omega arith in e);
      frames = λ t i low l. frames_there sc is.system.capacity is.system.config room within greatest delivery law p node before saying t i low l ∙ ap (λ (r : ℕ). sent sys p r i) (let e : t ≡ 0 + t = omega arith in e);
      opens = λ t i low l. (goes i l).opens t low;
      stays = λ t i l. (goes i l).stays t ∙ (woken_is sc is.system.capacity is.system.config room within greatest delivery law i p (node i) (before i l)).0;
      period = λ t i l. slots_period (served i) t (start i);
      over = λ i l. (goes i l).over;
    }

    pub period_is : IsPeriod sc room p (map node (ids_below sc.config.nodes))
    period_is = goes_over sc room p 0 (slot_count sc.config.m) y within is.system.plan_nodes each_goes (begun_all sc p (map node (ids_below sc.config.nodes))) begun_there

pub periods_law : PeriodLaw → DeliveryLaw → SayingLaw → PeriodsLaw
periods_law law delivery saying N sc room p vs is greatest before =
    subst (IsPeriod sc room p) (sym before.are) (period_is sc is room greatest delivery saying p law before.node before.each)

-- ---- all nodes before a period

pub many_nodes : {N : ℕ} (sc : ScenarioView N) (room p : ℕ) (vs : List (NodeView N)) → AreBefore sc room p vs → length vs ≡ sc.config.nodes
many_nodes {N} sc room p vs h = ap length h.are ∙ length-map-range_with_len h.node 0 sc.config.nodes

pub all_resting : {N : ℕ} (sc : ScenarioView N) → IsScenario sc → (p room : ℕ) (vs : List (NodeView N)) → AreBefore sc room p vs → All (IsResting sc.plan) vs
all_resting {N} sc is p room vs h =
    subst (All (IsResting sc.plan)) (sym h.are)
    (all_ids (IsResting sc.plan) h.node sc.config.nodes 0 (λ i l. record {
      shut = (h.each i (omega arith)).shut;
      me = let e : (h.node i).phase.me ≡ i = ap (λ (f : Fixed N). f.me) (h.each i (omega arith)).same in omega (arith, e, is.system.plan_nodes, l);
    }))

pub all_shut : {N : ℕ} (sc : ScenarioView N) (room p : ℕ) (vs : List (NodeView N)) → AreBefore sc room p vs → All (λ (v : NodeView N). v.phase.is_open ≡ false) vs
all_shut {N} sc room p vs h =
    subst (All (λ (v : NodeView N). v.phase.is_open ≡ false)) (sym h.are) (all_ids (λ (v : NodeView N). v.phase.is_open ≡ false) h.node sc.config.nodes 0 (λ i l. (h.each i (omega arith)).shut))
