-- What a node believes depends on the frames of other nodes alone, and notes add up.
use Rattle.std.proofs.Common.{ℕ, zero, suc, ◌≡◌, ◌≢◌, ◌<◌, ◌≤◌, ◌+◌, ◌==◌, ◌||◌, ◌&&◌, Bool, true, false, not, if◌then◌else◌, List, ◌∷◌, map, refl, sym, ap, ap₂, subst, ◌∙◌, inl, inr, arith, eq-eqb, ne_eqb, Option, None, ℤ}
use Rattle.std.specs.Prelude.{nat_lt}
use Rattle.std.specs.List.{range_with_len}
use Rattle.std.specs.Int.{bit_at}
use Rattle.std.proofs.lemmas.Bool.{cases_Bool, cases_eq, cond-true, cond-false, and_parts, not-true, eqb-false}
use Rattle.std.proofs.lemmas.Bool.Decides.{nat_tests}
use Rattle.std.proofs.lemmas.List.FromFn.{get_or-map-range_with_len}
use Rattle.node_grid.specs.NodeSet.{has_id, ids_below, ids_where, mask_of, IsIdSet}
use Rattle.node_grid.specs.NodeSetLaws.{filter_range}
use Rattle.node_grid.specs.NumberFacts.{lt_from, kinds-few}
use Rattle.node_grid.specs.SetFacts.{filter_map_members, member-lt}
use Rattle.error_reports.specs.Charge.{accuses}
use Rattle.node_grid.specs.MaskLaws.{mask-has}
use Rattle.agreed_state.specs.Agreed.{AgreedView}
use Rattle.agreed_state.specs.Adoption.{adopted}
use Rattle.mme_vote.specs.Vote.{vote_of}
use Rattle.protocol.specs.Arrival.{Arrival, is_good}
use Rattle.node_grid.specs.Version.{kind_count}
use Rattle.omh_paths.specs.declared.wrapped.Wrapped.{Wrapped}
use Rattle.protocol.specs.View.{Setting, Received, content, adopted_by, value_from, value_in, vote_on, votes_on, row_by, channel_room, channel, voters, lies_tolerated, synced_by}
use Rattle.protocol.specs.Facts.{voter_member}
use Rattle.noting.specs.Findings.{good_in}

pub map_below : {X : Type 0} (f g : ℕ → X) (a n : ℕ) → ((c : ℕ) → c < a + n → f c ≡ g c) → map f (range_with_len a n) ≡ map g (range_with_len a n)
map_below f g a zero h = refl
map_below f g a (suc n) h = ap₂ ◌∷◌ (h a (omega arith)) (map_below f g (a + 1) n (λ c l. h c (omega arith)))

-- what holds of other nodes
pub record Others (nodes i : ℕ) (P : ℕ → Type 0) : Type 0 where
  pub each : (j : ℕ) → j < nodes → j ≢ i → P j

-- a choice by whether a node is another one
pub other_if : {X : Type 0} (nodes i j : ℕ) (x y z : X) → Others nodes i (λ q. q ≡ j → x ≡ y) → (if nat_lt j nodes && not (j == i) then x else z) ≡ (if nat_lt j nodes && not (j == i) then y else z)
other_if nodes i j x y z h = elim (cases_Bool (nat_lt j nodes && not (j == i))) [
  | inl t ↦
      let p = and_parts (nat_lt j nodes) (not (j == i)) t in
      cond-true _ x z t ∙ h.each j (lt_from j nodes p.0) (eqb-false j i (not-true (j == i) p.1)) refl ∙ sym (cond-true _ y z t)
  | inr f ↦ cond-false _ x z f ∙ sym (cond-false _ y z f)
]

-- ---- adoption

pub adopted_alike : (s : Setting) (i : ℕ) (f g : ℕ → Arrival (List ℕ)) → Others s.config.nodes i (λ j. f j ≡ g j) → adopted_by s i f ≡ adopted_by s i g
unfolding adopted_by
adopted_alike s i f g h =
    ap (adopted s.capacity s.config)
    (map_below (λ j. if nat_lt j s.config.nodes && not (j == i) then content (f j) else None) (λ j. if nat_lt j s.config.nodes && not (j == i) then content (g j) else None) 0 s.capacity
    (λ j l. other_if s.config.nodes i j (content (f j)) (content (g j)) None (record { each = λ q low ne e. ap content (subst (λ (k : ℕ). f k ≡ g k) e (h.each q low ne)) })))

-- the others whose frames of the sync slot were good
pub synced_alike : (s : Setting) (i : ℕ) (f : ℕ → Arrival (List ℕ)) (x : Received) → Others s.config.nodes i (λ j. f j ≡ x.sync j) → good_in s.config.nodes i f ≡ synced_by s i x
synced_alike s i f x h =
    filter_range (λ j. not (j == i) && is_good (f j)) (λ j. not (j == i) && is_good (x.sync j)) 0 s.config.nodes (λ j l u. elim (cases_eq j i) [
      | inl e ↦ ap (λ (b : Bool). not b && is_good (f j)) (eq-eqb j i e) ∙ sym (ap (λ (b : Bool). not b && is_good (x.sync j)) (eq-eqb j i e))
      | inr ne ↦ ap (λ (y : Arrival (List ℕ)). not (j == i) && is_good y) (h.each j (omega arith) ne)
    ])

-- ---- votes

pub votes_alike : (s : Setting) (i : ℕ) (full : Bool) (a : AgreedView) (done : List (Wrapped ℕ)) (due : List ℕ) (own : List (Option ℤ)) (x y : Received) → IsIdSet s.config.nodes a.standing.members → Others s.config.nodes i (λ j. x.values j ≡ y.values j)
    → votes_on s i full a done due own x ≡ votes_on s i full a done due own y
unfolding votes_on
votes_alike s i full a done due own x y ids h =
    map_below (λ c. if has_id due c then vote_on s i full a done due own x c else None) (λ c. if has_id due c then vote_on s i full a done due own y c else None) 0 channel_room
    (λ c l. ap (λ vs. if has_id due c then vote_of vs (lies_tolerated s (channel s c)) else None) (filter_map_members (value_from i full due own x c) (value_from i full due own y c) (voters s a done (channel s c)) (λ q on. one c q (voter_member s a done (channel s c) q on))))
  where
    one : (c q : ℕ) → has_id a.standing.members q ≡ true → value_from i full due own x c q ≡ value_from i full due own y c q
    one c q on = elim (cases_eq q i) [
      | inl e ↦ cond-true (q == i) _ _ (eq-eqb q i e) ∙ sym (cond-true (q == i) _ _ (eq-eqb q i e))
      | inr ne ↦ cond-false (q == i) _ _ (ne_eqb q i ne) ∙ ap (λ v. value_in due v c) (h.each q (member-lt s.config.nodes a.standing.members q ids on) ne) ∙ sym (cond-false (q == i) _ _ (ne_eqb q i ne))
    ]

-- ---- rows

pub row_alike : (s : Setting) (i : ℕ) (f g : ℕ → ℕ → Bool) → Others s.config.nodes i (λ j. (k : ℕ) → k < kind_count s.config.version → f j k ≡ g j k) → row_by s i f ≡ row_by s i g
unfolding row_by
row_alike s i f g h =
    map_below (λ j. if nat_lt j s.config.nodes && not (j == i) then mask_of (ids_where (f j) (kind_count s.config.version)) else 0) (λ j. if nat_lt j s.config.nodes && not (j == i) then mask_of (ids_where (g j) (kind_count s.config.version)) else 0) 0 s.capacity
    (λ j l. other_if s.config.nodes i j (mask_of (ids_where (f j) (kind_count s.config.version))) (mask_of (ids_where (g j) (kind_count s.config.version))) 0
    (record { each = λ q low ne e. ap mask_of (filter_range (f j) (g j) 0 (kind_count s.config.version) (λ k a b. subst (λ (z : ℕ). f z k ≡ g z k) e (h.each q low ne k (omega arith)))) }))

-- a row tells what was noted
pub row_tells : (s : Setting) (i : ℕ) (f : ℕ → ℕ → Bool) (j k : ℕ) → s.config.nodes ≤ s.capacity → j < s.config.nodes → j ≢ i → k < kind_count s.config.version → accuses (row_by s i f) j k ≡ f j k
unfolding row_by
row_tells s i f j k few low ne within =
    let t : (nat_lt j s.config.nodes && not (j == i)) ≡ true = ap₂ (λ (a b : Bool). a && not b) (is_low j s.config.nodes low) (ne_eqb j i ne) in
    ap (λ (mask : ℕ). bit_at mask k == 1)
    (get_or-map-range_with_len (λ j. if nat_lt j s.config.nodes && not (j == i) then mask_of (ids_where (f j) (kind_count s.config.version)) else 0) 0 s.capacity j j 0 (omega arith) (omega arith)
    ∙ cond-true _ (mask_of (ids_where (f j) (kind_count s.config.version))) 0 t)
    ∙ mask-has (f j) (kind_count s.config.version) k (kinds-few s.config.version) within
  where
    is_low : (a b : ℕ) → a < b → nat_lt a b ≡ true
    is_low a b h = grind (arith, nat_tests)

-- further notes
pub notes_more : (s : Setting) (i : ℕ) (f more g : ℕ → ℕ → Bool) → s.config.nodes ≤ s.capacity → Others s.config.nodes i (λ j. (k : ℕ) → k < kind_count s.config.version → (f j k || more j k) ≡ g j k)
    → row_by s i (λ j k. accuses (row_by s i f) j k || more j k) ≡ row_by s i g
notes_more s i f more g few h = row_alike s i (λ j k. accuses (row_by s i f) j k || more j k) g (record { each = λ j low ne k within. ap (λ (b : Bool). b || more j k) (row_tells s i f j k few low ne within) ∙ h.each j low ne k within })

-- a row, node by node
pub row_by_is : (s : Setting) (i : ℕ) (f : ℕ → ℕ → Bool) → map (λ j. if nat_lt j s.config.nodes && not (j == i) then mask_of (ids_where (f j) (kind_count s.config.version)) else 0) (ids_below s.capacity) ≡ row_by s i f
unfolding row_by
row_by_is s i f = refl
