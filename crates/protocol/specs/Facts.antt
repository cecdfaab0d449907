-- Facts that several crates cite.
use Rattle.std.proofs.Common.{Bool, List, None, Option, Some, [], ap, ap₂, arith, eq-eqb, eqb-true, false, get_or, inl, inr, length, map, ne_eqb, pos, refl, suc, sym, true, zero, ℕ, ℤ, ◌&&◌, ◌+◌, ◌<◌, ◌==◌, ◌||◌, ◌∙◌, ◌∷◌, ◌≡◌, ◌≢◌}
use Rattle.std.proofs.lemmas.Bool.{and_parts, cases_Bool, cases_eq, cond-false, cond-true}
use Rattle.std.proofs.lemmas.List.Folds.{list_any_at}
use Rattle.std.specs.Prelude.{slice_index_or}
use Rattle.node_grid.specs.Count.{Distinct}
use Rattle.node_grid.specs.Kinds.{equivocate}
use Rattle.node_grid.specs.NodeSet.{has_id}
use Rattle.node_grid.specs.NodeSetLaws.{passes_where}
use Rattle.mme_vote.specs.declared.channel.Channel.{Channel}
use Rattle.mme_vote.specs.declared.channel.Channel.TheVariants.{Copy, Sensor, State}
use Rattle.omh_paths.specs.Paths.{place_in, same_nodes}
use Rattle.omh_paths.specs.declared.wrapped.Wrapped.{Wrapped}
use Rattle.omh_paths.specs.declared.wrapped.Wrapped.TheVariants.{Fault}
use Rattle.list_scheduler.specs.Copies.{copy_at, is_passed}
use Rattle.list_scheduler.specs.Schedule.{copies_completed}
use Rattle.agreed_state.specs.Agreed.{AgreedView}
use Rattle.agreed_state.specs.declared.config.Inputs.{Inputs}
use Rattle.protocol.specs.Arrival.{Arrival, is_bad, is_good}
use Rattle.protocol.specs.Arrival.Arrival.{Bad, Good}
use Rattle.protocol.specs.Heard.{entry, looked_up, with_entries}
use Rattle.protocol.specs.View.{Kept, Received, Setting, cold_view, goes_with, is_further, joined, value_of, view_from, voters}

-- as a further kind it is noted so
pub further_is : (x : Bool) (b : ℕ) → ((b == equivocate && x) && is_further b) ≡ (x && b == equivocate)
further_is x b = elim (cases_eq b equivocate) [
  | inl e ↦ ap₂ (λ (s t : Bool). (s && x) && t) (eq-eqb b equivocate e) (ap is_further e) ∙ here x ∙ ap (λ (s : Bool). x && s) (sym (eq-eqb b equivocate e))
  | inr ne ↦ ap (λ (s : Bool). (s && x) && is_further b) (ne_eqb b equivocate ne) ∙ away x ∙ ap (λ (s : Bool). x && s) (sym (ne_eqb b equivocate ne))
]
  where
    here : (x : Bool) → ((true && x) && true) ≡ (x && true)
    here true = refl
    here false = refl

    away : (x : Bool) → false ≡ (x && false)
    away true = refl
    away false = refl

pub goes_none : (s : Setting) (i p : ℕ) (g : Inputs) (k : Kept) (x : Received) (o : Option AgreedView) → goes_with s i x o ≡ None → view_from s i p g k x o ≡ cold_view s i x
goes_none s i p g k x (Some b) e = cc
goes_none s i p g k x None e = ap (joined s i p g k x) e

pub good_entries : {V : Type 0} (paths : List (List ℕ)) (a : Arrival (List (Wrapped V))) → is_good (with_entries paths a) ≡ is_good a
good_entries paths (Bad k) = refl
good_entries paths (Good xs) = refl

pub looked_up_place : {V : Type 0} (ps : List (List ℕ)) (xs : List (Wrapped V)) (p : List ℕ) → place_in ps p < length ps → looked_up ps xs p ≡ slice_index_or xs (place_in ps p) (Fault 0)
looked_up_place [] xs p h = absurd (omega arith)
looked_up_place {V} (q ∷ qs) [] p h = sym (past (place_in (q ∷ qs) p)) where
  past : (k : ℕ) → slice_index_or {A = Wrapped V} [] k (Fault 0) ≡ Fault 0
  past zero = refl
  past (suc k) = refl
looked_up_place (q ∷ qs) (x ∷ xs) p h = elim (cases_Bool (same_nodes q p)) [
  | inl y ↦ cond-true (same_nodes q p) x (looked_up qs xs p) y ∙ ap (λ k. slice_index_or (x ∷ xs) k (Fault 0)) (sym (cond-true (same_nodes q p) 0 (1 + place_in qs p) y))
  | inr n ↦
      let k : place_in (q ∷ qs) p ≡ suc (place_in qs p) = omega (arith, cond-false (same_nodes q p) 0 (1 + place_in qs p) n) in
      cond-false (same_nodes q p) x (looked_up qs xs p) n ∙ looked_up_place qs xs p (omega arith) ∙ ap (λ j. slice_index_or (x ∷ xs) j (Fault 0)) (sym k)
]

pub no_entry : {V : Type 0} (f : Arrival (List ℕ → Wrapped V)) (path : List ℕ) → is_good f ≡ false → entry f path ≡ Fault 0
no_entry (Bad k) path h = refl
no_entry (Good f) path h = cc

pub none_bad : {C : Type 0} (a : Arrival C) (k : ℕ) → is_good a ≡ true → is_bad a k ≡ false
none_bad (Bad x) k h = absurd cc
none_bad (Good c) k h = refl

-- value k of a frame is that of due channel k
pub value_of_at : (due : List ℕ) (xs : List ℤ) (k d : ℕ) → Distinct due → k < length due → slice_index_or xs k (pos 0) ≡ value_of due xs (get_or due k d)
value_of_at [] xs k d u h = absurd (omega arith)
value_of_at (e ∷ due) [] k d u h = past k where
  past : (k : ℕ) → slice_index_or {A = ℤ} [] k (pos 0) ≡ pos 0
  past zero = refl
  past (suc k) = refl
value_of_at (e ∷ due) (x ∷ xs) zero d u h = sym (cond-true (e == e) x (value_of due xs e) (eq-eqb e e refl))
value_of_at (e ∷ due) (x ∷ xs) (suc k) d u h =
    let low : k < length due = omega arith in
    let c : ℕ = get_or due k d in
    let other : e ≢ c = λ s. absurd (let on : has_id due e ≡ true = list_any_at (λ y. y == e) due k d low (eq-eqb c e (sym s)) in let off : has_id due e ≡ false = u.0 in cc) in
    value_of_at due xs k d u.1 low ∙ sym (cond-false (e == c) x (value_of due xs c) (ne_eqb e c other))

-- the value of a due channel among those that were sent
pub value_there : (own : ℕ → ℤ) (ds : List ℕ) (c : ℕ) → has_id ds c ≡ true → value_of ds (map own ds) c ≡ own c
value_there own [] c h = cc
value_there own (d ∷ ds) c h = elim (cases_Bool (d == c)) [
  | inl e ↦ cond-true (d == c) _ _ e ∙ ap own (eqb-true d c e)
  | inr e ↦ cond-false (d == c) _ _ e ∙ value_there own ds c (ap (λ b. b || has_id ds c) (sym e) ∙ h)
]

-- who votes on a channel is a member
pub voter_member : (s : Setting) (a : AgreedView) (done : List (Wrapped ℕ)) (x : Channel s.capacity) (q : ℕ) → has_id (voters s a done x) q ≡ true → has_id a.standing.members q ≡ true
voter_member s a done (State delta start step) q on = on
voter_member s a done (Sensor delta task) q on = on
voter_member s a done (Copy delta t lies) q on =
    let after = copies_completed s.capacity s.config.graph a.standing.members a.copies done in
    (and_parts _ _ (passes_where (λ r. has_id a.standing.members r && is_passed (copy_at after t r)) s.capacity q on)).0
