-- The terms of a majority, laid one after another behind those of shorter paths.
use Rattle.std.proofs.Common.{ℕ, ◌≡◌, ◌<◌, ◌+◌, ◌==◌, true, false, List, [], ◌∷◌, ◌++◌, map, take, set, get_or, length, refl, sym, ap, ap₂, ◌∙◌, inl, inr, append_assoc, eq-eqb, eqb-true}
use Rattle.std.specs.Prelude.{slice_get, None, Some}
use Rattle.std.proofs.lemmas.Bool.{cases_eq, or_cases, or_left}
use Rattle.std.proofs.lemmas.List.{map-append, get_or-set_same, get_or-set_other, take_more_set}
use Rattle.node_grid.specs.NodeSet.{has_id, without_id, IsIdSet}
use Rattle.node_grid.specs.ListLaws.{has_push}
use Rattle.node_grid.specs.ListFacts.{split_all}
use Rattle.node_grid.specs.SetFacts.{has_in_front, has-without, member-lt}
use Rattle.omh_paths.specs.Paths.{outside}

-- one more term
pub laid_more : {W : Type 0} (term : ℕ → W) (ys : List ℕ) (q : ℕ) (start was kept now : List W) (end : ℕ) (v : W)
    → take end was ≡ start ++ map term ys → take end kept ≡ take end was → end < length kept → now ≡ set kept end v → v ≡ term q
    → take (end + 1) now ≡ start ++ map term (ys ++ q ∷ [])
laid_more {W} term ys q start was kept now end v terms same room puts is =
    ap (take (end + 1)) puts ∙ take_more_set kept end v room
    ∙ ap₂ (λ (xs : List W) (u : W). xs ++ u ∷ []) (same ∙ terms) is
    ∙ append_assoc start (map term ys) (term q ∷ [])
    ∙ ap (λ (xs : List W). start ++ xs) (sym (map-append term ys (q ∷ [])))

-- ---- the members outside a path, one after another

-- one that is among all of them was gone through
pub gone_through : (all ys left : List ℕ) (q : ℕ) → all ≡ ys ++ left → left ≡ [] → has_id all q ≡ true → has_id ys q ≡ true
gone_through all ys left q split none on = ap (λ (xs : List ℕ). has_id xs q) (sym (split_all all ys left split none)) ∙ on

-- ---- values laid at the places of nodes, one after another

pub laid_each : {W : Type 0} (want : ℕ → W) (ys : List ℕ) (q : ℕ) (was now : List W) (v d : W) → ((i : ℕ) → has_id ys i ≡ true → get_or was i d ≡ want i) → q < length was → now ≡ set was q v → v ≡ want q
    → (i : ℕ) → has_id (ys ++ q ∷ []) i ≡ true → get_or now i d ≡ want i
laid_each {W} want ys q was now v d before low puts is i on = elim (cases_eq i q) [
  | inl e ↦ ap (λ (xs : List W). get_or xs i d) puts ∙ ap (λ (k : ℕ). get_or (set was q v) k d) e ∙ get_or-set_same was q v d low ∙ is ∙ ap want (sym e)
  | inr ne ↦ ap (λ (xs : List W). get_or xs i d) puts ∙ get_or-set_other was q i v d ne
      ∙ elim (or_cases (has_id ys i) (q == i) (sym (has_push ys q i) ∙ on)) [
        | inl was' ↦ before i was'
        | inr here ↦ absurd (ne (sym (eqb-true q i here)))
      ]
]

-- those that were gone through too
pub through : (n : ℕ) (nodes ys left : List ℕ) (k : ℕ) → IsIdSet n nodes → nodes ≡ ys ++ left → has_id ys k ≡ true → k < n
through n nodes ys left k ids split on = member-lt n nodes k ids (ap (λ (xs : List ℕ). has_id xs k) split ∙ has_in_front ys left k on)

-- no other than one
pub only_one : (odd : List ℕ) (c : ℕ) → without_id odd c ≡ [] → (q : ℕ) → has_id odd q ≡ true → q ≡ c
only_one odd c none q on = elim (cases_eq q c) [
  | inl e ↦ e
  | inr ne ↦ let h = sym (ap (λ (xs : List ℕ). has_id xs q) none) ∙ has-without odd c q ne on in absurd (cc)
]

pub none_of : (xs : List ℕ) (i : ℕ) → slice_get xs 0 ≡ None → has_id xs i ≡ false
none_of [] i h = refl
none_of (x ∷ xs) i h = absurd (cc)

pub first_on : (xs : List ℕ) (q : ℕ) → slice_get xs 0 ≡ Some q → has_id xs q ≡ true
first_on [] q h = absurd (cc)
first_on (x ∷ xs) q h = let e : x ≡ q = cc in or_left (x == q) (has_id xs q) (eq-eqb x q e)
