-- Frames that are taken one after another.
use Rattle.std.proofs.Common.{ℕ, suc, ◌≡◌, ◌<◌, ◌≤◌, ◌+◌, List, [], ◌++◌, take, map, length, get_or, set, sym, ap, subst, ◌∙◌, inl, inr, arith, Vec, Global, vec_capacity}
use Rattle.std.specs.Vec.{with_items}
use Rattle.std.specs.Prelude.{All}
use Rattle.std.proofs.lemmas.List.{get_or-map, get_or-set_same, get_or-set_other, length-map, same_lists, get_or_default, map-set, drop_all, take_all, append-nil}
use Rattle.std.proofs.lemmas.Bool.{cases_eq}
use Rattle.std.proofs.lemmas.List.Edits.{fill_by_more}
use Rattle.std.proofs.lemmas.List.Elements.{All-get_or}
use Rattle.node_grid.specs.ListFacts.{map_map}
use Rattle.node_steps.specs.Outcome.{Outcome}
use Rattle.node_steps.specs.Parts.{NodeView}
use Rattle.node_steps.specs.Steps.{frame_of}
use Rattle.node_grid.specs.NodeSet.{ids_below}
use Rattle.protocol.specs.Cluster.{view}
use Rattle.protocol.specs.Run.{run}
use Rattle.node_steps.specs.Stages.{outcome_of}
use Rattle.scenario.specs.Scenario.{ScenarioView, system_of}
use Rattle.cluster_record.specs.Buffers.{IsBuffer, IsSlot}
use Rattle.cluster_periods.specs.Periods.{AreNodes}
use Rattle.cluster_periods.proofs.AllSlots.{map_ids}
use Rattle.cluster_periods.proofs.Listed.{many_nodes}

abbrev pub bytes_of : Vec ℕ Global → List ℕ
bytes_of f = f.items

pub at_node : {N : ℕ} (nodes : List (NodeView N)) (i : ℕ) (v : NodeView N) (bytes : List ℕ) → i < length nodes → v ≡ get_or nodes i v → bytes ≡ frame_of v → bytes ≡ get_or (map frame_of nodes) i []
at_node {N} nodes i v bytes low is same = same ∙ ap (λ (w : NodeView N). frame_of w) is ∙ sym (get_or-map (λ (w : NodeView N). frame_of w) nodes i v [] low)

pub fits : {N : ℕ} (nodes : List (NodeView N)) (i room : ℕ) (v : NodeView N) (n : ℕ) → i < length nodes → v ≡ get_or nodes i v → n ≤ v.arrived.frame_max → All (λ (w : NodeView N). w.arrived.frame_max ≤ room) nodes → n ≤ room
fits {N} nodes i room v n low is within short =
    let a : (get_or nodes i v).arrived.frame_max ≤ room = All-get_or (λ (w : NodeView N). w.arrived.frame_max ≤ room) nodes i v low short in
    let b : v.arrived.frame_max ≡ (get_or nodes i v).arrived.frame_max = ap (λ (w : NodeView N). w.arrived.frame_max) is in
    omega (arith, a, b, within)

pub more_taken : (frames : List (Vec ℕ Global)) (i : ℕ) (f : Vec ℕ Global) (target : List (List ℕ)) → i < length frames → f.items ≡ get_or target i []
    → ((k : ℕ) → k < i → get_or (map bytes_of frames) k [] ≡ get_or target k []) → (k : ℕ) → k < i + 1 → get_or (map bytes_of (set frames i f)) k [] ≡ get_or target k []
more_taken frames i f target low is so_far k l =
    ap (λ (xs : List (List ℕ)). get_or xs k []) (map-set bytes_of frames i f ∙ ap (set (map bytes_of frames) i) is)
    ∙ fill_by_more (λ (n : ℕ). get_or target n []) (map bytes_of frames) i [] (let e : length (map bytes_of frames) ≡ length frames = length-map frames bytes_of in omega arith) so_far k l

pub all_taken : (xs ys : List (List ℕ)) (n : ℕ) → length xs ≡ length ys → length xs ≤ n → ((k : ℕ) → k < n → get_or xs k [] ≡ get_or ys k []) → xs ≡ ys
all_taken xs ys n e past h = same_lists xs ys e (λ k d l. get_or_default xs k d [] l ∙ h k (omega arith) ∙ get_or_default ys k [] d (omega arith))

-- a buffer that was filled anew
pub buffer_refilled : (room : ℕ) (old new : Vec ℕ Global) (bytes : List ℕ) → IsBuffer room old → vec_capacity old ≤ vec_capacity new → new.items ≡ bytes → length bytes ≤ room → IsBuffer room new
buffer_refilled room old new bytes h grows is short = record { roomy = omega (arith, h.roomy, grows); short = subst (λ (b : List ℕ). length b ≤ room) (sym is) short }

-- ---- the frames of a slot

abbrev pub Slot : Type 0
Slot = Vec (Vec ℕ Global) Global

-- a vector whose elements were all written as a slice
pub refilled : {X : Type 0} (v : Vec X Global) (ws : List X) → length ws ≡ length v.items → (with_items v ws).items ≡ ws
refilled {X} v ws e =
    let o = v.ok.0 in
    ap (λ (r : List X). take v.len (ws ++ r)) (drop_all (length ws) v.items (omega arith)) ∙ take_all v.len (ws ++ []) (let l : length (ws ++ []) ≡ length ws = ap length (append-nil ws) in omega arith) ∙ append-nil ws

-- the buffers of a slot, filled anew
pub slot_refilled : (room nodes : ℕ) (old : Slot) (ws : List (Vec ℕ Global)) → length ws ≡ length old.items → IsSlot room nodes old → All (IsBuffer room) ws → IsSlot room nodes (with_items old ws)
slot_refilled room nodes old ws e h all =
    let is : (with_items old ws).items ≡ ws = refilled old ws e in
    record { each = ap length is ∙ e ∙ h.each; buffers = subst (All (IsBuffer room)) (sym is) all }

-- ---- what nodes recorded

abbrev pub outcomes : {N : ℕ} → List (NodeView N) → List Outcome
outcomes {N} vs = map (λ (v : NodeView N). v.outcome) vs

pub more_records : {N : ℕ} (nodes : List (NodeView N)) (records : List Outcome) (i : ℕ) (v : NodeView N) (o : Outcome) → i < length records → i < length nodes → v ≡ get_or nodes i v → o ≡ v.outcome
    → ((k : ℕ) (d : Outcome) → k < i → get_or records k d ≡ get_or (outcomes nodes) k d) → (k : ℕ) (d : Outcome) → k < i + 1 → get_or (set records i o) k d ≡ get_or (outcomes nodes) k d
more_records {N} nodes records i v o low there is same so_far k d l = elim (cases_eq k i) [
  | inl here ↦
      let at : get_or (outcomes nodes) i d ≡ (get_or nodes i v).outcome = get_or-map (λ (w : NodeView N). w.outcome) nodes i v d there in
      ap (λ (n : ℕ). get_or (set records i o) n d) here ∙ get_or-set_same records i o d low ∙ same ∙ ap (λ (w : NodeView N). w.outcome) is ∙ sym at ∙ ap (λ (n : ℕ). get_or (outcomes nodes) n d) (sym here)
  | inr other ↦ get_or-set_other records i k o d other ∙ so_far k d (omega arith)
]

pub all_records : {N : ℕ} (nodes : List (NodeView N)) (records : List Outcome) (n : ℕ) → length records ≡ length nodes → length nodes ≤ n → ((k : ℕ) (d : Outcome) → k < n → get_or records k d ≡ get_or (outcomes nodes) k d) → records ≡ outcomes nodes
all_records {N} nodes records n e past h =
    let l : length (outcomes nodes) ≡ length nodes = length-map nodes (λ (v : NodeView N). v.outcome) in
    same_lists records (outcomes nodes) (omega (arith, e, l)) (λ k d low. h k d (omega (arith, low, e)))

-- the records of all nodes after period p of the run
pub records_are : {N : ℕ} (sc : ScenarioView N) (p : ℕ) (vs : List (NodeView N)) (v : Vec Outcome Global) (ws : List Outcome) → AreNodes sc (p + 1) vs → ws ≡ outcomes vs → length v.items ≡ sc.config.nodes
    → (with_items v ws).items ≡ map (λ i. outcome_of (view (run (system_of sc)) i p)) (ids_below sc.config.nodes)
records_are {N} sc p vs v ws h e many =
    let next : p + 1 ≡ suc p = omega arith in
    refilled v ws (ap length e ∙ length-map vs (λ (x : NodeView N). x.outcome) ∙ many_nodes sc h.room (p + 1) vs h.before ∙ sym many) ∙ e
    ∙ ap outcomes h.before.are ∙ map_map h.before.node (λ (x : NodeView N). x.outcome) (ids_below sc.config.nodes)
    ∙ map_ids (λ i. (h.before.node i).outcome) (λ i. outcome_of (view (run (system_of sc)) i p)) sc.config.nodes 0 (λ i l. ((h.before.each i (omega arith)).last p next).outcome)
