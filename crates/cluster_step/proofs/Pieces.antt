-- The frames of a slot at one node, one after another: those that no line touches as they were sent, and what a line makes of the others.
use Rattle.std.proofs.Common.{ℕ, zero, suc, ◌≡◌, ◌≢◌, ◌≤◌, ◌+◌, ◌-◌, ◌==◌, List, [], ◌∷◌, ◌++◌, map, Option, None, refl, sym, ap, ap₂, subst, ◌∙◌, arith, append_assoc, eq-eqb, ne_eqb}
use Rattle.std.proofs.lemmas.Bool.{cond-true, cond-false}
use Rattle.std.proofs.lemmas.List.{append-nil}
use Rattle.std.proofs.lemmas.List.Concat.{flat_map-append}
use Rattle.std.specs.List.{range_with_len, flat_map}
use Rattle.slot_plan.specs.Ticks.{on_time}
use Rattle.error_detect.specs.Watching.{Watch, delivered}
use Rattle.error_detect.specs.Multiset.{Arriving, all_delivered}
use Rattle.fault_classes.specs.Change.{Change}
use Rattle.fault_classes.specs.Line.{effect_at}
use Rattle.fault_classes.specs.Plan.{Plan}
use Rattle.fault_link.specs.Arrival.{delivered_of}
use Rattle.node_steps.specs.Parts.{NodeView}
use Rattle.node_steps.specs.Steps.{given_frame}
use Rattle.cluster_periods.specs.Slots.{arriving, frame_by, handed, from_node, handed_from, by_senders, handed_all, IsReady}

all_then : (w : Watch) (xs ys : List Arriving) → all_delivered (all_delivered w xs) ys ≡ all_delivered w (xs ++ ys)
all_then w [] ys = refl
all_then w (x ∷ xs) ys = all_then (delivered w x.from x.tick x.bytes) xs ys

flat_pieces : {X : Type 0} (f : ℕ → List X) (n a k : ℕ) → flat_map f (range_with_len a (n + k)) ≡ flat_map f (range_with_len a n) ++ flat_map f (range_with_len (a + n) k)
flat_pieces f zero a k = ap₂ (λ (b n : ℕ). flat_map f (range_with_len b n)) (let e : a ≡ a + 0 = omega arith in e) (let e : 0 + k ≡ k = omega arith in e)
flat_pieces {X} f (suc n) a k =
    ap (λ (c : ℕ). flat_map f (range_with_len a c)) (let e : suc n + k ≡ suc (n + k) = omega arith in e)
    ∙ ap (λ (ys : List X). f a ++ ys) (flat_pieces f n (a + 1) k) ∙ sym (append_assoc (f a) (flat_map f (range_with_len (a + 1) n)) (flat_map f (range_with_len (a + 1 + n) k)))
    ∙ ap (λ (b : ℕ). f a ++ flat_map f (range_with_len (a + 1) n) ++ flat_map f (range_with_len b k)) (let e : a + 1 + n ≡ a + suc n = omega arith in e)

module _ (plan : Plan) (p t : ℕ) {N : ℕ} where
  -- a frame that no line touches arrives as it was sent
  pub whole_handed : (v : NodeView N) (j : ℕ) (bytes : List ℕ) → j ≢ v.phase.me → effect_at plan.lines p t j v.phase.me ≡ None → given_frame v j on_time bytes ≡ handed_from plan p t bytes j v
  whole_handed v j bytes ne none =
      ap (handed v) (sym (cond-false (j == v.phase.me) [] (map (arriving j) (delivered_of (effect_at plan.lines p t j v.phase.me) bytes)) (ne_eqb j v.phase.me ne)
      ∙ ap (λ (o : Option Change). map (arriving j) (delivered_of o bytes)) none))

  -- and a node's own doesn't arrive
  pub own_handed : (v : NodeView N) (j : ℕ) (bytes : List ℕ) → j ≡ v.phase.me → v ≡ handed_from plan p t bytes j v
  own_handed v j bytes e = ap (handed v) (sym (cond-true (j == v.phase.me) [] (map (arriving j) (delivered_of (effect_at plan.lines p t j v.phase.me) bytes)) (eq-eqb j v.phase.me e)))

module _ (plan : Plan) (p t : ℕ) (frame : ℕ → List ℕ) where
  abbrev F : ℕ → ℕ → List Arriving
  F me = from_node plan p t frame me

  module _ {N : ℕ} where
    -- one piece behind another
    pieces : (v : NodeView N) (a b c : ℕ) → a ≤ b → b ≤ c → by_senders plan p t frame b (c - b) (by_senders plan p t frame a (b - a) v) ≡ by_senders plan p t frame a (c - a) v
    pieces v a b c low high =
        ap (λ (w : Watch). record v { arrived = w }) (all_then v.arrived (flat_map (F v.phase.me) (range_with_len a (b - a))) (flat_map (F v.phase.me) (range_with_len b (c - b))))
        ∙ ap (λ (k : ℕ). handed v (flat_map (F v.phase.me) (range_with_len a (b - a)) ++ flat_map (F v.phase.me) (range_with_len k (c - b)))) (let e : b ≡ a + (b - a) = omega (arith, low) in e)
        ∙ ap (handed v) (sym (flat_pieces (F v.phase.me) (b - a) a (c - b)))
        ∙ ap (λ (n : ℕ). by_senders plan p t frame a n v) (let e : b - a + (c - b) ≡ c - a = omega (arith, low, high) in e)

    -- no frame yet
    pub none_taken_yet : (v : NodeView N) (a n : ℕ) → n ≡ 0 → v ≡ by_senders plan p t frame a n v
    none_taken_yet v a n e = ap (λ (k : ℕ). by_senders plan p t frame a k v) (sym e)

    -- one frame more
    pub one_behind : (v w u : NodeView N) (a b : ℕ) (bytes : List ℕ) → a ≤ b → frame b ≡ bytes → w ≡ by_senders plan p t frame a (b - a) v → u ≡ handed_from plan p t bytes b w → u ≡ by_senders plan p t frame a (b + 1 - a) v
    one_behind v w u a b bytes low is so_far now =
        now ∙ ap (handed_from plan p t bytes b) so_far
        ∙ ap (handed (by_senders plan p t frame a (b - a) v)) (ap (λ (x : List ℕ). from_node plan p t (λ k. x) v.phase.me b) (sym is) ∙ sym (append-nil (F v.phase.me b)))
        ∙ ap (λ (n : ℕ). by_senders plan p t frame b n (by_senders plan p t frame a (b - a) v)) (let e : 1 ≡ b + 1 - b = omega arith in e)
        ∙ pieces v a b (b + 1) low (omega arith)

-- a node stays ready
pub ready_still : {N : ℕ} (plan : Plan) (v w : NodeView N) (x : Watch) → w ≡ record v { arrived = x } → IsReady plan v → IsReady plan w
ready_still {N} plan v w x e ready = subst (IsReady plan) (sym e) (record { is_open = ready.is_open; nodes = ready.nodes; me = ready.me })

-- those from `order` on and then those before it
pub all_here : {N : ℕ} (plan : Plan) (order nodes p t : ℕ) (frames : List (List ℕ)) (v w u : NodeView N) → w ≡ by_senders plan p t (frame_by frames) order (nodes - order) v → u ≡ by_senders plan p t (frame_by frames) 0 order w
    → u ≡ handed_all plan order nodes p t frames v
all_here {N} plan order nodes p t frames v w u first then =
    then ∙ ap (by_senders plan p t (frame_by frames) 0 order) first
    ∙ ap (λ (x : Watch). record v { arrived = x }) (all_then v.arrived (flat_map (from_node plan p t (frame_by frames) v.phase.me) (range_with_len order (nodes - order))) (flat_map (from_node plan p t (frame_by frames) v.phase.me) (range_with_len 0 order)))
    ∙ ap (handed v) (sym (flat_map-append (from_node plan p t (frame_by frames) v.phase.me) (range_with_len order (nodes - order)) (range_with_len 0 order)))
