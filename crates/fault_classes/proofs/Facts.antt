-- The laws of classes.
use Rattle.std.proofs.Common.{◌≡◌, ◌≢◌, ℕ, suc, ◌<◌, Bool, true, false, not, ◌&&◌, ◌||◌, refl, ap, ◌∙◌, inl, inr, arith, eqb-true, ltb-true}
use Rattle.std.specs.Prelude.{◌==◌, nat_lt}
use Rattle.std.specs.List.{list_all}
use Rattle.std.proofs.lemmas.Bool.{cases_Bool, or_cases, not-true, both_ways}
use Rattle.node_grid.specs.declared.class.Class.{Class}
use Rattle.node_grid.specs.declared.class.Class.TheVariants.{N, J, B, S, A}
use Rattle.node_grid.specs.Class.{is_nonfaulty, is_sound}
use Rattle.node_grid.specs.Count.{count}
use Rattle.node_grid.specs.NodeSet.{ids_below}
use Rattle.node_grid.specs.SetFacts.{count_ids}
use Rattle.fault_classes.specs.Change.{is_untouched, is_manifest, same_effect}
use Rattle.fault_classes.specs.ChangeLaws.{untouched_is, same_effect_is}
use Rattle.fault_classes.specs.Line.{effect_at}
use Rattle.slot_plan.specs.Slots.{slot_count}
use Rattle.fault_classes.specs.Plan.{Plan, nodes_of, restarts_at, each_in_slot, each_frame, is_clean, is_symmetric_at, steady, recovers_in, sound_before, class_of}
use Rattle.fault_classes.specs.ClassLaws.{nonfaulty_is, sound_is, steady_if, joins_if, benign_if, symmetric_if, four_parts}
use Rattle.fault_classes.specs.Laws.{CleanLaw, BenignLaw, SymmetricLaw, RecoveryLaw, SoundnessLaw, is_stray}
use Rattle.node_grid.specs.NodeSetLaws.{not_all_ids}

-- what passes for all numbers passes for each
each_id : (f : ℕ → Bool) (n k : ℕ) → k < n → list_all f (ids_below n) ≡ true → f k ≡ true
each_id f n k h all = elim (cases_Bool (f k)) [
  | inl e ↦ e
  | inr e ↦ absurd (both_ways (list_all f (ids_below n)) (not_all_ids f n k h e) all)
]

other : (i j : ℕ) (b : Bool) → i ≢ j → (i == j || b) ≡ true → b ≡ true
other i j b ne h = elim (or_cases (i == j) b h) [
  | inl e ↦ absurd (ne (eqb-true i j e))
  | inr e ↦ e
]

pub frame_at : (plan : Plan) (is : _) (p s j i : ℕ) → each_frame plan is p j ≡ true → s < slot_count plan.rounds → i < plan.nodes → i ≢ j → is (effect_at plan.lines p s j i) ≡ true
frame_at plan is p s j i h hs hi ne =
    other i j _ ne (each_id (λ k. k == j || is (effect_at plan.lines p s j k)) plan.nodes i hi (each_id (each_in_slot plan is p j) (slot_count plan.rounds) s hs h))

clean_if : (plan : Plan) (p j : ℕ) → is_sound (class_of plan p j) ≡ true → is_clean plan p j ≡ true
clean_if plan p j h = go (class_of plan p j) refl h
  where
    go : (c : Class) → class_of plan p j ≡ c → is_sound c ≡ true → is_clean plan p j ≡ true
    go N e h = (four_parts _ _ _ _ (steady_if plan p j e).1).third
    go J e h = (four_parts _ _ _ _ (joins_if plan p j e).1).third
    go B e h = cc
    go S e h = cc
    go A e h = cc

pub clean_law : CleanLaw
clean_law plan p s j i h hs hi ne = untouched_is _ (frame_at plan is_untouched p s j i (clean_if plan p j h) hs hi ne)

pub benign_law : BenignLaw
benign_law plan p s j i h hs hi ne = frame_at plan is_manifest p s j i (benign_if plan p j h).1 hs hi ne

pub symmetric_law : SymmetricLaw
symmetric_law plan p s j i h c hs hi hh ni nh =
    let e = effect_at plan.lines p s j in
    let at = each_id (is_symmetric_at plan p j) (slot_count plan.rounds) s hs (symmetric_if plan p j c).1 in
    let row = each_id (λ a. list_all (λ b. a == j || (b == j || same_effect (e a) (e b))) (nodes_of plan)) plan.nodes i hi at in
    let pair = each_id (λ b. i == j || (b == j || same_effect (e i) (e b))) plan.nodes h hh row in
    same_effect_is (e i) (e h) (other h j _ nh (other i j _ ni pair))

pub recovery_law : RecoveryLaw
recovery_law plan p i h =
    let good : ℕ → Bool = steady plan p (sound_before plan p) in
    let by : (ℕ → Bool) → ℕ → Bool = λ n j. not (j == i) && (not (n j) && not (is_manifest (effect_at plan.lines p 0 j i))) in
    let less : count (by good) (nodes_of plan) < count good (nodes_of plan) = ltb-true _ _ (four_parts (nat_lt i plan.nodes) (restarts_at plan i p) (is_clean plan p i) (recovers_in plan p good i) (joins_if plan p i h).1).fourth in
    let a : count (is_stray plan p i) (nodes_of plan) ≡ count (by good) (nodes_of plan) =
    count_ids (is_stray plan p i) (by good) plan.nodes (λ k low. ap (λ b. not (k == i) && (not b && not (is_manifest (effect_at plan.lines p 0 k i)))) (nonfaulty_is plan p k low))
    in
    let b : count (λ j. is_nonfaulty (class_of plan p j)) (nodes_of plan) ≡ count good (nodes_of plan) = count_ids _ good plan.nodes (λ k low. nonfaulty_is plan p k low) in
    omega (arith, less, a, b)

was_sound : (plan : Plan) (p j : ℕ) → class_of plan (suc p) j ≡ N → is_sound (class_of plan p j) ≡ true
was_sound plan p j h =
    let s = steady_if plan (suc p) j h in
    sound_is plan p j s.0 ∙ (four_parts (nat_lt j plan.nodes) (not (restarts_at plan j (suc p))) (is_clean plan (suc p) j) (sound_before plan (suc p) j) s.1).fourth

stays : (plan : Plan) (p j : ℕ) → class_of plan p j ≡ N → restarts_at plan j p ≡ false
stays plan p j h = not-true (restarts_at plan j p) (four_parts (nat_lt j plan.nodes) (not (restarts_at plan j p)) (is_clean plan p j) (sound_before plan p j) (steady_if plan p j h).1).second

restarts : (plan : Plan) (p j : ℕ) → class_of plan p j ≡ J → restarts_at plan j p ≡ true
restarts plan p j h = (four_parts (nat_lt j plan.nodes) (restarts_at plan j p) (is_clean plan p j) (recovers_in plan p (steady plan p (sound_before plan p)) j) (joins_if plan p j h).1).second

pub soundness_law : SoundnessLaw
soundness_law = (stays, was_sound, restarts)
