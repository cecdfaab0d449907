-- Slots of all nodes, from what each of them does in them by itself.
use Rattle.std.proofs.Common.{ℕ, zero, suc, ◌≡◌, ◌<◌, ◌≤◌, ◌+◌, List, [], ◌∷◌, map, get_or, refl, sym, ap, ap₂, subst, ◌∙◌, arith, true}
use Rattle.std.specs.Prelude.{All}
use Rattle.std.specs.List.{range_with_len}
use Rattle.std.proofs.lemmas.List.FromFn.{get_or-map-range_with_len}
use Rattle.std.proofs.lemmas.List.Elements.{All-nil, All-cons}
use Rattle.node_grid.specs.NodeSet.{ids_below}
use Rattle.node_grid.specs.ListFacts.{map_map}
use Rattle.protocol.specs.Cluster.{view}
use Rattle.protocol.specs.Run.{System, sent, run}
use Rattle.node_steps.specs.Parts.{NodeView}
use Rattle.node_steps.specs.Steps.{frame_of, after_slot}
use Rattle.node_steps.specs.Stages.{outcome_of}
use Rattle.node_steps.specs.Period.{slot_run, IsOver}
use Rattle.node_steps.specs.Sending.{Fixed, fixed, fixed_of}
use Rattle.scenario.specs.Scenario.{ScenarioView, system_of}
use Rattle.cluster_periods.specs.Slots.{handed_all, slot_all, arrivals, IsReady, frame_by}
use Rattle.cluster_periods.specs.Periods.{slots_from, IsAfter, GoesOver}
use Rattle.cluster_periods.proofs.Arriving.{arrivals_alike}
use Rattle.protocol.specs.Cluster.{kept}

pub map_ids : {X : Type 0} (f g : ℕ → X) (n a : ℕ) → ((i : ℕ) → i < a + n → f i ≡ g i) → map f (range_with_len a n) ≡ map g (range_with_len a n)
map_ids f g zero a h = refl
map_ids f g (suc n) a h = ap₂ ◌∷◌ (h a (omega arith)) (map_ids f g n (a + 1) (λ i l. h i (omega arith)))

pub all_ids : {X : Type 0} (P : X → Type 0) (f : ℕ → X) (n a : ℕ) → ((i : ℕ) → i < a + n → P (f i)) → All P (map f (range_with_len a n))
all_ids P f zero a h = All-nil P
all_ids P f (suc n) a h = All-cons P (f a) (map f (range_with_len (a + 1) n)) (h a (omega arith)) (all_ids P f n (a + 1) (λ i l. h i (omega arith)))

-- node i after t of the slots: y t i
module _ {N : ℕ} (sc : ScenarioView N) (room p s slots : ℕ) (y : ℕ → ℕ → NodeView N) where
  abbrev sys : System
  sys = system_of sc

  -- what each node does by itself
  pub record EachGoes : Type 0 where
    pub next : (t i : ℕ) → i < sc.config.nodes → y (suc t) i ≡ slot_run (y t i) (arrivals sc.plan sc.order sc.config.nodes p (s + t) (sent sys p (s + t)) i)
    pub frames : (t i : ℕ) → t < slots → i < sc.config.nodes → frame_of (y t i) ≡ sent sys p (s + t) i
    pub opens : (t i : ℕ) → t < slots → i < sc.config.nodes → (y t i).phase.is_open ≡ true
    pub stays : (t i : ℕ) → i < sc.config.nodes → fixed (y t i) ≡ fixed_of sc.config room i
    pub period : (t i : ℕ) → i < sc.config.nodes → (y t i).phase.period ≡ p
    pub over : (i : ℕ) → i < sc.config.nodes → IsOver (y slots i) (view (run sys) i p)

  module _ (within : sc.order ≤ sc.config.nodes) (same : sc.plan.nodes ≡ sc.config.nodes) (each : EachGoes) (vs : List (NodeView N)) (first : vs ≡ map (y 0) (ids_below sc.config.nodes)) where
    me_there : (t i : ℕ) → i < sc.config.nodes → (y t i).phase.me ≡ i
    me_there t i l = ap (λ (f : Fixed N). f.me) (each.stays t i l)

    one_slot : (t : ℕ) → t < slots → slot_all sc.plan sc.order sc.config.nodes p (s + t) (map (y t) (ids_below sc.config.nodes)) ≡ map (y (suc t)) (ids_below sc.config.nodes)
    one_slot t low =
        let frames : List (List ℕ) = map frame_of (map (y t) (ids_below sc.config.nodes)) in
        map_map (y t) (λ v. after_slot (handed_all sc.plan sc.order sc.config.nodes p (s + t) frames v)) (ids_below sc.config.nodes)
        ∙ map_ids (λ i. after_slot (handed_all sc.plan sc.order sc.config.nodes p (s + t) frames (y t i))) (y (suc t)) sc.config.nodes 0 (λ i l.
        ap (slot_run (y t i))
        (ap (arrivals sc.plan sc.order sc.config.nodes p (s + t) (frame_by frames)) (me_there t i (omega arith))
        ∙ arrivals_alike sc.plan sc.order sc.config.nodes p (s + t) (frame_by frames) (sent sys p (s + t)) i within (λ j lj.
        ap (λ (fs : List (List ℕ)). get_or fs j []) (map_map (y t) frame_of (ids_below sc.config.nodes))
        ∙ get_or-map-range_with_len (λ k. frame_of (y t k)) 0 sc.config.nodes j j [] lj (omega arith) ∙ each.frames t j low lj))
        ∙ sym (each.next t i (omega arith)))

    all_slots : (t : ℕ) → t ≤ slots → slots_from sc.plan sc.order sc.config.nodes p s t vs ≡ map (y t) (ids_below sc.config.nodes)
    unfolding slots_from
    all_slots zero low = first
    all_slots (suc t) low = ap (slot_all sc.plan sc.order sc.config.nodes p (s + t)) (all_slots t (omega arith)) ∙ one_slot t (omega arith)

    kept_there : (i : ℕ) → i < sc.config.nodes → (y slots i).kept ≡ kept (run sys) i (suc p)
    unfolding kept
    kept_there i l = (each.over i l).kept

    after_there : (i : ℕ) → i < sc.config.nodes → (q : ℕ) → suc p ≡ suc q → IsAfter sc i q (y slots i)
    after_there i l q e =
        let here : p ≡ q = omega (arith, e) in
        subst (λ (r : ℕ). IsAfter sc i r (y slots i)) here (record { period = each.period slots i l; outcome = (each.over i l).outcome })

    pub goes_over : GoesOver sc room p s slots vs
    goes_over = record {
      ready = λ t low. subst (All (IsReady sc.plan)) (sym (all_slots t (omega arith))) (all_ids (IsReady sc.plan) (y t) sc.config.nodes 0 (λ i l. record {
        is_open = each.opens t i low (omega arith);
        nodes = ap (λ (f : Fixed N). f.config.nodes) (each.stays t i (omega arith)) ∙ sym same;
        me = let e : (y t i).phase.me ≡ i = me_there t i (omega arith) in omega (arith, e, same, l);
      }));
      roomy = λ t low. subst (All (λ (v : NodeView N). v.arrived.frame_max ≤ room)) (sym (all_slots t (omega arith)))
          (all_ids (λ (v : NodeView N). v.arrived.frame_max ≤ room) (y t) sc.config.nodes 0 (λ i l. let e : (y t i).arrived.frame_max ≡ room = ap (λ (f : Fixed N). f.room) (each.stays t i (omega arith)) in omega (arith, e)));
      frames = λ t low. ap (map frame_of) (all_slots t (omega arith)) ∙ map_map (y t) frame_of (ids_below sc.config.nodes)
          ∙ map_ids (λ i. frame_of (y t i)) (sent sys p (s + t)) sc.config.nodes 0 (λ i l. each.frames t i low (omega arith));
      after = record {
        node = y slots;
        are = all_slots slots (omega arith);
        each = λ i l. record { same = each.stays slots i l; keeps = kept_there i l; shut = (each.over i l).shut; last = after_there i l };
      };
      outcomes = ap (map (λ (v : NodeView N). v.outcome)) (all_slots slots (omega arith)) ∙ map_map (y slots) (λ (v : NodeView N). v.outcome) (ids_below sc.config.nodes)
          ∙ map_ids (λ i. (y slots i).outcome) (λ i. outcome_of (view (run sys) i p)) sc.config.nodes 0 (λ i l. (each.over i (omega arith)).outcome);
    }
