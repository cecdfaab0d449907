-- The list of all paths of a length is complete, without repeats and in lexicographic order.
use Rattle.std.proofs.Common.{ℕ, zero, suc, ◌≡◌, ◌<◌, ◌≤◌, ◌+◌, ◌-◌, ◌*◌, ◌/◌, ◌%◌, Bool, true, false, not, ◌&&◌, ◌==◌, List, ◌∷◌, length, get_or, sym, ap, ap₂, subst, ◌∙◌, inl, inr, arith, eq-eqb, nat_lt, lt-ltb}
use Rattle.std.specs.Prelude.{filter}
use Rattle.std.specs.List.{range_with_len}
use Rattle.std.proofs.lemmas.Bool.{cases_lt, cases_eq, cases_Bool, cond-true, cond-false, or_left, or_right}
use Rattle.std.proofs.Math.Nat.{mod-add-div', mod-lt, div-lt_iff_lt-mul, mul-le-mul_right}
use Rattle.node_grid.specs.NodeSet.{has_id, ids_below, without_id, IsIdSet}
use Rattle.node_grid.specs.NodeSetLaws.{filter_filter, IsIdSet-filter}
use Rattle.node_grid.specs.NumberFacts.{some_width}
use Rattle.omh_paths.specs.Paths.{paths_of_length, path_count, place_in, path_at, comes_before, PathsLaw, RanksLaw}
use Rattle.omh_paths.specs.PathLists.{length-without, length-paths, has-at, path_at-step, path_at-place, place-lt, place-path_at, IsListed-at}
use Rattle.omh_paths.specs.MemberLaws.{Distinct-ids}

-- ---- sets ascend

step_yes : (p : ℕ → Bool) (a n : ℕ) → p a ≡ true → filter p (range_with_len a (suc n)) ≡ a ∷ filter p (range_with_len (a + 1) n)
step_yes p a n y = cond-true (p a) (a ∷ filter p (range_with_len (a + 1) n)) (filter p (range_with_len (a + 1) n)) y

step_no : (p : ℕ → Bool) (a n : ℕ) → p a ≡ false → filter p (range_with_len a (suc n)) ≡ filter p (range_with_len (a + 1) n)
step_no p a n y = cond-false (p a) (a ∷ filter p (range_with_len (a + 1) n)) (filter p (range_with_len (a + 1) n)) y

low_range : (p : ℕ → Bool) (a n j : ℕ) → j < length (filter p (range_with_len a n)) → a ≤ get_or (filter p (range_with_len a n)) j 0
low_range p a zero j h = absurd (omega arith)
low_range p a (suc n) j h =
    elim (cases_Bool (p a)) [
      | inl y ↦ subst (λ (xs : List ℕ). a ≤ get_or xs j 0) (sym (step_yes p a n y)) (first j (subst (λ (xs : List ℕ). j < length xs) (step_yes p a n y) h) (low_range p (a + 1) n))
      | inr y ↦ subst (λ (xs : List ℕ). a ≤ get_or xs j 0) (sym (step_no p a n y)) (let low = low_range p (a + 1) n j (subst (λ (xs : List ℕ). j < length xs) (step_no p a n y) h) in omega arith)
    ]
  where
    first : (j : ℕ) → j < suc (length (filter p (range_with_len (a + 1) n))) → ((i : ℕ) → i < length (filter p (range_with_len (a + 1) n)) → a + 1 ≤ get_or (filter p (range_with_len (a + 1) n)) i 0)
        → a ≤ get_or (a ∷ filter p (range_with_len (a + 1) n)) j 0
    first zero h low = omega arith
    first (suc j) h low = omega (arith, low j (omega arith))

Ascends : List ℕ → Type 0
Ascends s = (i j : ℕ) → i < j → j < length s → get_or s i 0 < get_or s j 0

ascends_range : (p : ℕ → Bool) (a n : ℕ) → Ascends (filter p (range_with_len a n))
unfolding Ascends
ascends_range p a zero = λ i j l h. absurd (omega arith)
ascends_range p a (suc n) = elim (cases_Bool (p a)) [
  | inl y ↦ subst Ascends (sym (step_yes p a n y)) (ascends_cons a (filter p (range_with_len (a + 1) n)) (low_range p (a + 1) n) (ascends_range p (a + 1) n))
  | inr y ↦ subst Ascends (sym (step_no p a n y)) (ascends_range p (a + 1) n)
]
  where
    ascends_cons : (x : ℕ) (xs : List ℕ) → ((i : ℕ) → i < length xs → x + 1 ≤ get_or xs i 0) → Ascends xs → Ascends (x ∷ xs)
    ascends_cons x xs low up i zero l h = absurd (omega arith)
    ascends_cons x xs low up zero (suc j) l h = omega (arith, low j (omega arith))
    ascends_cons x xs low up (suc i) (suc j) l h = up i j (omega arith) (omega arith)

ascends_ids : (n : ℕ) (s : List ℕ) → IsIdSet n s → Ascends s
ascends_ids n s h = subst Ascends (sym h) (ascends_range (λ k. has_id s k) 0 n)

IsIdSet-without : (n : ℕ) (s : List ℕ) (q : ℕ) → IsIdSet n s → IsIdSet n (without_id s q)
IsIdSet-without n s q h =
    let e : without_id s q ≡ filter (λ x. has_id s x && not (x == q)) (ids_below n) = ap (filter (λ k. not (k == q))) h ∙ filter_filter (λ k. has_id s k) (λ k. not (k == q)) (ids_below n) in
    subst (IsIdSet n) (sym e) (IsIdSet-filter (λ x. has_id s x && not (x == q)) n)

-- ---- so the paths are in order

before_first : (x y : ℕ) (xs ys : List ℕ) → x < y → comes_before (x ∷ xs) (y ∷ ys) ≡ true
before_first x y xs ys h = or_left (nat_lt x y) (x == y && comes_before xs ys) (lt-ltb x y h)

before_rest : (x y : ℕ) (xs ys : List ℕ) → x ≡ y → comes_before xs ys ≡ true → comes_before (x ∷ xs) (y ∷ ys) ≡ true
before_rest x y xs ys e h = or_right (nat_lt x y) (x == y && comes_before xs ys) (ap₂ (λ (a b : Bool). a && b) (eq-eqb x y e) h)

quotient_rises : (j k w : ℕ) → 0 < w → j < k → j / w ≤ k / w
quotient_rises j k w some h = elim (cases_lt (k / w) (j / w)) [
  | inr le ↦ le
  | inl lt ↦
      let m : suc (k / w) * w ≤ j / w * w = mul-le-mul_right w (omega arith) in
      absurd (omega (arith, m, mod-add-div' j w, mod-add-div' k w, mod-lt k some))
]

ordered : (n : ℕ) (s : List ℕ) → IsIdSet n s → (r j k : ℕ) → j < k → k < path_count (length s) r → comes_before (path_at (paths_of_length s r) j) (path_at (paths_of_length s r) k) ≡ true
unfolding Ascends
ordered n s ids zero j k l h = absurd (omega arith)
ordered n s ids (suc r) j k l h =
    let w : ℕ = path_count (length s - 1) r in
    let d = Distinct-ids n s ids in
    let low : j < path_count (length s) (suc r) = omega arith in
    let some : 0 < w = some_width k (length s) w h in
    let p = path_at-step s r j 0 d low in
    let q = path_at-step s r k 0 d h in
    let x : ℕ = get_or s (j / w) 0 in
    let y : ℕ = get_or s (k / w) 0 in
    let k-low : k / w < length s = (div-lt_iff_lt-mul some).1 h in
    let whole : comes_before (x ∷ path_at (paths_of_length (without_id s x) r) (j % w)) (y ∷ path_at (paths_of_length (without_id s y) r) (k % w)) ≡ true =
    elim (cases_eq (j / w) (k / w)) [
      | inl e ↦
          let xy : x ≡ y = ap (λ (i : ℕ). get_or s i 0) e in
          let rest : j % w < k % w = omega (arith, mod-add-div' j w, mod-add-div' k w, ap (λ (i : ℕ). i * w) e) in
          let on : has_id s y ≡ true = has-at s (k / w) 0 k-low in
          before_rest x y (path_at (paths_of_length (without_id s x) r) (j % w)) (path_at (paths_of_length (without_id s y) r) (k % w)) xy
          (subst (λ (z : ℕ). comes_before (path_at (paths_of_length (without_id s z) r) (j % w)) (path_at (paths_of_length (without_id s y) r) (k % w)) ≡ true) (sym xy)
          (ordered n (without_id s y) (IsIdSet-without n s y ids) r (j % w) (k % w) rest (subst (λ (i : ℕ). k % w < path_count i r) (sym (length-without s y d on)) (mod-lt k some))))
      | inr ne ↦
          let up : j / w < k / w = omega (arith, quotient_rises j k w some l) in
          before_first x y (path_at (paths_of_length (without_id s x) r) (j % w)) (path_at (paths_of_length (without_id s y) r) (k % w)) (ascends_ids n s ids (j / w) (k / w) up k-low)
    ] in
    ap₂ comes_before p q ∙ whole

pub paths_law : PathsLaw
paths_law n s ids r = record {
  counted = length-paths s r (Distinct-ids n s ids);
  real = λ k h. IsListed-at s r k (Distinct-ids n s ids) h;
  complete = λ path l.
      let low : place_in (paths_of_length s r) path < path_count (length s) r =
      subst (λ (i : ℕ). place_in (paths_of_length s i) path < path_count (length s) i) l.long (place-lt s path (Distinct-ids n s ids) l.distinct l.within) in
      (place_in (paths_of_length s r) path, low, path_at-place (paths_of_length s r) path (omega (arith, low, length-paths s r (Distinct-ids n s ids))));
  ordered = λ j k l h. ordered n s ids r j k l h;
}

pub ranks_law : RanksLaw
ranks_law n s ids = record {
  path = λ path l. path_at-place (paths_of_length s (length path)) path
      (omega (arith, place-lt s path (Distinct-ids n s ids) l.distinct l.within, length-paths s (length path) (Distinct-ids n s ids)));
  place = λ r k h. place-path_at s r k (Distinct-ids n s ids) h;
}
