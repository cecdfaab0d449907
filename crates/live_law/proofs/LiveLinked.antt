-- Linked live controllers are linked nodes, and so the run.
use Rattle.std.proofs.Common.{ℕ, zero, suc, ◌≡◌, ◌<◌, ◌+◌, ◌*◌, ◌⊎◌, Bool, sym, ap, ap₂, subst, ◌∙◌, inl, inr, arith}
use Rattle.slot_plan.specs.Slots.{slot_count}
use Rattle.fault_classes.specs.Line.{effect_at}
use Rattle.fault_classes.specs.Plan.{restarts_at}
use Rattle.fault_link.specs.Arrival.{delivered_of}
use Rattle.agreed_state.specs.declared.config.Config.{Config}
use Rattle.agreed_state.specs.declared.config.Inputs.{Inputs}
use Rattle.protocol.specs.Cluster.{begins}
use Rattle.protocol.specs.Configured.{setting_of}
use Rattle.protocol.specs.Run.{System, run}
use Rattle.protocol.specs.View.{Kept, first_kept, opened}
use Rattle.safety.specs.Talk.{DeliveryLaw, SayingLaw}
use Rattle.node_steps.specs.Steps.{frame_of}
use Rattle.node_steps.specs.Sending.{PeriodLaw}
use Rattle.scenario.specs.Scenario.{ScenarioView, IsScenario}
use Rattle.cluster_periods.specs.Record.{frame_at}
use Rattle.live_node.specs.Live.{LiveView, Step}
use Rattle.live_node.specs.Live.Step.{Goes}
use Rattle.live_node.specs.Text.{say_text}
use Rattle.live_law.specs.Periods.{Next, after_next, frame_next}
use Rattle.live_law.specs.Run.{system_given, run_record, AnswersAsRun}
use Rattle.live_law.proofs.Controllers.{Controllers, IsOfRun, said, AreLinked as AreLinkedNodes, Hears as NodesHear}
use Rattle.live_law.proofs.Controllers as nodes
use Rattle.live_law.specs.Events.{arrivals_in, restarts_in}
use Rattle.live_law.specs.Living.{Rest, rest_of, Rests, IsAllowed, SaysSlots, next_told, inputs_told, frame_told, after_period}
use Rattle.live_law.specs.Cluster.{LiveControllers, AreLinked, TakesPart, AnswersSlots, IsLiveRun, LiveClusterLaw, reached, after_events, said_live}
use Rattle.live_law.proofs.Lives.{goes_next, between_restarted}
use Rattle.live_law.proofs.Linked.{link_law}
use Rattle.live_law.proofs.OfRun.{next_of}
use Rattle.live_law.proofs.LiveLife.{Takes, takes_period, say_law, new_law}
use Rattle.live_law.proofs.LiveAsRun.{live_run_law, flat_below, frame_shown}

-- a live node that rests so rests as it says of itself
pub rests_itself : {N : ℕ} (sc : ScenarioView N) (i : ℕ) (r : Rest) (v : LiveView N) → Rests sc i r v → Rests sc i (rest_of v) v
rests_itself {N} sc i r v at =
    subst (λ (y : Rest). Rests sc i y v) (ap₂ (λ (k : Kept) (n : ℕ). record { kept = k; next = n; run = r.run }) (sym at.between.keeps) (sym at.next) ∙ ap (λ (n : ℕ). record { kept = v.node.kept; next = v.next; run = n }) (sym at.run)) at

module _ {N : ℕ} (sc : ScenarioView N) (inputs : ℕ → ℕ → Inputs) (c : LiveControllers N) (is : IsScenario sc) (law : PeriodLaw) (delivery : DeliveryLaw) (saying : SayingLaw) (linked : AreLinked sc inputs c) where
  abbrev config : Config N
  config = sc.config

  abbrev sys : System
  sys = system_given sc inputs

  abbrev r : ℕ → ℕ → Rest
  r i p = rest_of (c.live i p)

  -- the nodes of the controllers
  abbrev cs : Controllers N
  cs = record {
    node = λ i p. (c.live i p).node;
    ran = c.ran;
    inputs = inputs;
    delivered = λ i p t. arrivals_in ((c.told i p).slots t);
  }

  abbrev next : ℕ → ℕ → Next
  next i p = next_of sys i p (cs.delivered i p)

  -- what a controller is told of a period is what its node is
  next_is : (i p : ℕ) → TakesPart sc inputs c i p → next_told sc i (r i p) (c.told i p) ≡ next i p
  next_is i p h =
      ap (λ (n : ℕ). record { period = n; restarts = restarts_in (c.told i p).before; inputs = inputs_told sc i n (c.told i p).before; slots = cs.delivered i p }) h.as_run.number
      ∙ ap₂ (λ (b : Bool) (g : Inputs). record { period = p; restarts = b; inputs = g; slots = cs.delivered i p }) h.as_run.restarts h.as_run.inputs_are

  -- ---- how controllers rest

  rests : (p i : ℕ) → i < config.nodes → 0 < c.ran i p → Rests sc i (r i p) (c.live i p)
  rests zero i low some = elim (linked.runs i 0 low some).comes [
    | inl new ↦ rests_itself sc i (record { kept = first_kept (setting_of config); next = 0; run = 0 }) (c.live i 0) (new_law N sc i (c.live i 0) is new)
    | inr anew ↦ anew.rests
  ]
  rests (suc p) i low some = elim (linked.runs i (suc p) low some).comes [
    | inl on ↦
        let up : 0 < c.ran i p = let w = on.0 in omega arith in
        let t : Takes sc i (r i p) (c.live i p) (c.told i p) = takes_period law sc i (r i p) (c.live i p) (c.told i p) is (rests p i low up) (subst (λ (n : ℕ). IsAllowed sc i n (r i p) (c.told i p)) on.0 (linked.runs i p low up).may) in
        rests_itself sc i (after_period sc i (r i p) (c.told i p)) (c.live i (suc p))
        (subst (λ (w : LiveView N). Rests sc i (after_period sc i (r i p) (c.told i p)) w) (sym (on.1 ∙ ap (reached (c.live i p)) t.takes)) t.rests)
    | inr anew ↦ anew.rests
  ]

  -- ---- what they say

  module _ (i p : ℕ) (low : i < config.nodes) (some : 0 < c.ran i p) where
    abbrev runs : TakesPart sc inputs c i p
    runs = linked.runs i p low some

    abbrev at : Rests sc i (r i p) (c.live i p)
    at = rests p i low some

    speaks : (t : ℕ) → t < slot_count config.m → t < c.ran i p → SaysSlots sc i (r i p) (c.live i p) (c.told i p) t
    speaks t slot up = say_law law N sc i (r i p) (c.live i p) (c.told i p) t is at (record { before = runs.may.before; number = runs.may.number; within = λ s l. runs.may.within s (omega arith) }) slot

    -- what it says is what its node says
    said_is : (t : ℕ) → t < 2 * config.m + 4 → frame_told sc i (r i p) (c.told i p) t ≡ said sc cs i p t
    said_is t slot =
        ap (λ (n : Next). frame_next config i (r i p).kept n t) (next_is i p runs)
        ∙ sym ((goes_next law config i is.system.capacity is.system.config (r i p).kept (c.live i p).node (next i p) at.between).frames t slot)

    live_says : (t : ℕ) → t < 2 * config.m + 4 → t < c.ran i p → said_live (c.live i p) (c.told i p) t ≡ said sc cs i p t
    live_says t slot up = let s = speaks t slot up in ap (λ (y : Step N). frame_of (reached (c.live i p) y).node) s.takes ∙ s.frame ∙ said_is t slot

    -- its node after a whole period
    all_may : c.ran i p ≡ slot_count config.m → IsAllowed sc i (slot_count config.m) (r i p) (c.told i p)
    all_may all = subst (λ (n : ℕ). IsAllowed sc i n (r i p) (c.told i p)) all runs.may

    node_after : c.ran i p ≡ slot_count config.m → (after_events config.m (c.live i p) (c.told i p)).node ≡ after_next config i (c.live i p).node (next i p)
    node_after all =
        let t : Takes sc i (r i p) (c.live i p) (c.told i p) = takes_period law sc i (r i p) (c.live i p) (c.told i p) is at (all_may all) in
        ap (λ (y : Step N). (reached (c.live i p) y).node) t.takes ∙ t.node ∙ ap (after_next config i (c.live i p).node) (next_is i p runs)

  -- ---- the nodes are linked

  are_linked : AreLinkedNodes sc cs
  are_linked = record {
    begin = λ i p low some. begin i p low some;
    hear = λ i j p t li lj ne slot low. record {
      spoken = λ up. (linked.hear i j p t li lj ne slot low).spoken up ∙ ap (delivered_of (effect_at sc.plan.lines p t j i)) (live_says j p lj (omega arith) t slot up);
      silent = λ down. (linked.hear i j p t li lj ne slot low).silent down;
    };
  } where
    begin : (i p : ℕ) → i < config.nodes → 0 < c.ran i p → nodes.Continues sc cs i p ⊎ nodes.BeginsAnew sc cs i p
    begin i zero low some = elim (linked.runs i 0 low some).comes [
      | inl new ↦ inl (new_law N sc i (c.live i 0) is new).between
      | inr anew ↦ inr (record { restarts = anew.restarts; keeps = (r i 0).kept; between = anew.rests.between })
    ]
    begin i (suc p) low some = elim (linked.runs i (suc p) low some).comes [
      | inl on ↦ inl (on.0, ap (λ (w : LiveView N). w.node) on.1 ∙ node_after i p low (let w = on.0 in omega arith) on.0)
      | inr anew ↦ inr (record { restarts = anew.restarts; keeps = (r i (suc p)).kept; between = anew.rests.between })
    ]

  -- ---- so they are the run

  module _ (i p : ℕ) (low : i < config.nodes) (some : 0 < c.ran i p) where
    of_run : IsOfRun sc cs i p
    of_run = link_law law delivery saying N sc cs is.system.capacity is.system.config are_linked i p low some

    answers_slots : (t : ℕ) → t < slot_count config.m → t < c.ran i p → AnswersSlots sc inputs c i p t
    answers_slots t slot up =
        let s = speaks i p low some t slot up in
        record {
          to = s.to;
          takes = s.takes ∙ ap (Goes s.to) (flat_below (λ t. say_text t (frame_told sc i (r i p) (c.told i p) t)) (λ t. say_text t (frame_at (run_record sc inputs p) t i)) 0 (suc t)
              (λ n l. ap (say_text n) (said_is i p low some n (omega arith) ∙ of_run.frames n (omega arith) (omega arith) ∙ sym (frame_shown sc inputs i p n low (omega arith)))));
        }

    goes_in : opened (setting_of config) (restarts_at sc.plan i p) (r i p).kept ≡ begins (run sys) i p
    goes_in = sym (between_restarted config i (restarts_at sc.plan i p) (r i p).kept (c.live i p).node (at i p low some).between).keeps ∙ of_run.goes_in

    pub is_live_run : IsLiveRun sc inputs c i p
    is_live_run = record {
      slots = λ t slot up. answers_slots t slot up;
      whole = λ all.
          let h = runs i p low some in
          let a : AnswersAsRun sc inputs i p (r i p) (c.live i p) (c.told i p) =
          live_run_law law delivery saying N sc inputs i p (r i p) (c.live i p) (c.told i p) is low (at i p low some) (all_may i p low some all) h.as_run goes_in (of_run.delivered all) in
          record { to = a.to; by = a.by; takes = a.takes; corrects = a.corrects; rests = a.rests };
    }

pub live_cluster_law : PeriodLaw → DeliveryLaw → SayingLaw → LiveClusterLaw
live_cluster_law law delivery saying N sc inputs c is linked i p low some = is_live_run sc inputs c is law delivery saying linked i p low some
