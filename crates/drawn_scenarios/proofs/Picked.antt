-- Some of the other nodes, and the rest of them.
use Rattle.std.proofs.Common.{◌≡◌, ◌≢◌, ℕ, zero, suc, ◌+◌, ◌-◌, ◌*◌, ◌/◌, ◌%◌, ◌^◌, ◌<◌, ◌≤◌, Bool, true, false, not, cond, ◌==◌, List, [], ◌∷◌, map, length, filter, pos, refl, sym, ap, ◌∙◌, inl, inr, arith, eqb-true, eq-eqb, subst, pow-suc}
use Rattle.std.specs.List.{range_with_len, list_all, AllByRecursion}
use Rattle.std.proofs.lemmas.Bool.{and_from, or_cases, cases_eq, ne_eqb, not_from_false, false_from_ne_true, lt-ltb}
use Rattle.std.proofs.lemmas.List.FromFn.{length-range_with_len}
use Rattle.node_grid.specs.NodeSet.{ids_below, has_id}
use Rattle.node_grid.specs.NodeSetLaws.{filter_every}
use Rattle.scenario.specs.Numbers.{is_below, is_rising, is_empty, has_number}
use Rattle.scenario.specs.Facts.{has_number_same}
use Rattle.drawn_scenarios.specs.Lines.{picked, others}

-- ---- ascending numbers

-- each number is less than all later ones
abbrev pub Up : List ℕ → Type 0
Up [] = Unit {0}
Up (x ∷ xs) = AllByRecursion (λ y. x < y) xs × Up xs

pub every_filter : (P : ℕ → Type 0) (t : ℕ → Bool) (xs : List ℕ) → AllByRecursion P xs → AllByRecursion P (filter t xs)
every_filter P t [] a = tt
every_filter P t (x ∷ xs) a = elim (t x) as (λ b. AllByRecursion P (cond b (x ∷ filter t xs) (filter t xs))) [
  | true ↦ (a.0, every_filter P t xs a.1)
  | false ↦ every_filter P t xs a.1
]

up_filter : (t : ℕ → Bool) (xs : List ℕ) → Up xs → Up (filter t xs)
up_filter t [] u = tt
up_filter t (x ∷ xs) u = elim (t x) as (λ b. Up (cond b (x ∷ filter t xs) (filter t xs))) [
  | true ↦ (every_filter (λ y. x < y) t xs u.0, up_filter t xs u.1)
  | false ↦ up_filter t xs u.1
]

pub all_range : (P : ℕ → Type 0) (a n : ℕ) → ((k : ℕ) → a ≤ k → k < a + n → P k) → AllByRecursion P (range_with_len a n)
all_range P a zero h = tt
all_range P a (suc n) h = (h a (omega arith) (omega arith), all_range P (a + 1) n (λ k l u. h k (omega arith) (omega arith)))

pub up_range : (a n : ℕ) → Up (range_with_len a n)
up_range a zero = tt
up_range a (suc n) = (all_range (λ y. a < y) (a + 1) n (λ k l u. omega arith), up_range (a + 1) n)

pub every_picked : (P : ℕ → Type 0) (mask : ℕ) (xs : List ℕ) → AllByRecursion P xs → AllByRecursion P (picked mask xs)
every_picked P mask [] a = tt
every_picked P mask (x ∷ xs) a = elim (mask % 2 == 1) as (λ b. AllByRecursion P (cond b (x ∷ picked (mask / 2) xs) (picked (mask / 2) xs))) [
  | true ↦ (a.0, every_picked P (mask / 2) xs a.1)
  | false ↦ every_picked P (mask / 2) xs a.1
]

pub up_picked : (mask : ℕ) (xs : List ℕ) → Up xs → Up (picked mask xs)
up_picked mask [] u = tt
up_picked mask (x ∷ xs) u = elim (mask % 2 == 1) as (λ b. Up (cond b (x ∷ picked (mask / 2) xs) (picked (mask / 2) xs))) [
  | true ↦ (every_picked (λ y. x < y) (mask / 2) xs u.0, up_picked (mask / 2) xs u.1)
  | false ↦ up_picked (mask / 2) xs u.1
]

pub at_member : (P : ℕ → Type 0) (xs : List ℕ) (k : ℕ) → AllByRecursion P xs → has_id xs k ≡ true → P k
at_member P [] k a h = absurd (let e : false ≡ true = h in cc)
at_member P (x ∷ xs) k a h = elim (or_cases (x == k) (has_id xs k) h) [
  | inl here ↦ subst P (eqb-true x k here) a.0
  | inr later ↦ at_member P xs k a.1 later
]

-- ---- the others

pub others_up : (n j : ℕ) → Up (others n j)
others_up n j = up_filter (λ k. not (k == j)) (ids_below n) (up_range 0 n)

pub others_below : (n j : ℕ) → AllByRecursion (λ y. y < n) (others n j)
others_below n j = every_filter (λ y. y < n) (λ k. not (k == j)) (ids_below n) (all_range (λ y. y < n) 0 n (λ k l u. omega arith))

filtered : (j : ℕ) (xs : List ℕ) → AllByRecursion (λ y. y ≢ j) (filter (λ k. not (k == j)) xs)
filtered j [] = tt
filtered j (x ∷ xs) = elim (cases_eq x j) [
  | inl e ↦ rw (eq-eqb x j e) (filtered j xs)
  | inr ne ↦ rw (ne_eqb x j ne) (ne, filtered j xs)
]

pub others_other : (n j : ℕ) → AllByRecursion (λ y. y ≢ j) (others n j)
others_other n j = filtered j (ids_below n)

length_without : (j a n : ℕ) → a ≤ j → j < a + n → suc (length (filter (λ k. not (k == j)) (range_with_len a n))) ≡ n
length_without j a zero l h = absurd (omega arith)
length_without j a (suc n) l h = elim (cases_eq a j) [
  | inl e ↦
      let all = filter_every (λ k. not (k == j)) (a + 1) n (λ k low high. not_from_false _ (ne_eqb k j (λ same. absurd (omega arith)))) in
      rw (eq-eqb a j e) (ap (λ (xs : List ℕ). suc (length xs)) all ∙ ap suc (length-range_with_len (a + 1) n))
  | inr ne ↦ rw (ne_eqb a j ne) (ap suc (length_without j (a + 1) n (omega arith) (omega arith)))
]

pub length_others : (n j : ℕ) → j < n → length (others n j) ≡ n - 1
length_others n j low = let e = length_without j 0 n (omega arith) (omega arith) in omega arith

-- ---- as numbers of a scenario

pub number_in : (xs : List ℕ) (k : ℕ) → has_number (map pos xs) k ≡ true → has_id xs k ≡ true
number_in xs k h = sym (has_number_same xs k) ∙ h

pub number_of : (xs : List ℕ) (k : ℕ) → has_id xs k ≡ true → has_number (map pos xs) k ≡ true
number_of xs k h = has_number_same xs k ∙ h

pub not_number : (xs : List ℕ) (k : ℕ) → AllByRecursion (λ y. y ≢ k) xs → has_number (map pos xs) k ≡ false
not_number xs k a = has_number_same xs k ∙ false_from_ne_true _ (λ h. at_member (λ y. y ≢ k) xs k a h refl)

pub rising : (xs : List ℕ) → Up xs → is_rising (map pos xs) ≡ true
rising [] u = refl
rising (x ∷ []) u = refl
rising (x ∷ y ∷ ys) u = and_from _ _ (lt-ltb x y u.0.0) (rising (y ∷ ys) u.1)

pub all_low : (n : ℕ) (xs : List ℕ) → AllByRecursion (λ y. y < n) xs → list_all (is_below n) (map pos xs) ≡ true
all_low n [] a = refl
all_low n (x ∷ xs) a = and_from _ _ (lt-ltb x n a.0) (all_low n xs a.1)

-- ---- some, and the rest

doubled : (k : ℕ) → 2 ^ (suc k) ≡ 2 * 2 ^ k
doubled k = let p = pow-suc 2 k in omega arith

pub some_picked : (mask : ℕ) (xs : List ℕ) → 0 < mask → mask < 2 ^ length xs → (k : ℕ) × (has_id (picked mask xs) k ≡ true)
some_picked mask [] some few = absurd (omega arith)
some_picked mask (x ∷ xs) some few = elim (cases_eq (mask % 2) 1) [
  | inl odd ↦ (x, rw (eq-eqb (mask % 2) 1 odd, eq-eqb x x refl) refl)
  | inr even ↦
      let d = doubled (length xs) in
      let r = some_picked (mask / 2) xs (omega arith) (omega arith) in
      (r.0, rw (ne_eqb (mask % 2) 1 even) r.1)
]

pub not_empty : (xs : List ℕ) (k : ℕ) → has_id xs k ≡ true → not (is_empty (map pos xs)) ≡ true
not_empty [] k h = absurd (let e : false ≡ true = h in cc)
not_empty (x ∷ xs) k h = refl

-- no node is among both
pub picked_apart : (mask rest : ℕ) (xs : List ℕ) (k : ℕ) → Up xs → mask + rest + 1 ≡ 2 ^ length xs → has_id (picked mask xs) k ≡ true → has_id (picked rest xs) k ≡ true → ⊥
picked_apart mask rest [] k u e one other = absurd (let f : false ≡ true = one in cc)
picked_apart mask rest (x ∷ xs) k u e one other =
    let d = doubled (length xs) in
    let halves : mask / 2 + rest / 2 + 1 ≡ 2 ^ length xs = omega arith in
    elim (cases_eq (mask % 2) 1) [
      | inl odd ↦
          let even : rest % 2 ≡ 1 → ⊥ = λ h. absurd (omega arith) in
          let first = rw (eq-eqb (mask % 2) 1 odd) at one in
          let second = rw (ne_eqb (rest % 2) 1 even) at other in
          with_first (picked (mask / 2) xs) (picked (rest / 2) xs) (every_picked (λ y. x < y) (rest / 2) xs u.0) first second (λ h. picked_apart (mask / 2) (rest / 2) xs k u.1 halves h second)
      | inr even ↦
          let odd : rest % 2 ≡ 1 = omega arith in
          let first = rw (ne_eqb (mask % 2) 1 even) at one in
          let second = rw (eq-eqb (rest % 2) 1 odd) at other in
          with_first (picked (rest / 2) xs) (picked (mask / 2) xs) (every_picked (λ y. x < y) (mask / 2) xs u.0) second first (λ h. picked_apart (mask / 2) (rest / 2) xs k u.1 halves first h)
    ]
  where
    with_first : (ys zs : List ℕ) → AllByRecursion (λ y. x < y) zs → has_id (x ∷ ys) k ≡ true → has_id zs k ≡ true → (has_id ys k ≡ true → ⊥) → ⊥
    with_first ys zs above h there rest = elim (or_cases (x == k) (has_id ys k) h) [
      | inl here ↦ let e = eqb-true x k here in let l = at_member (λ y. x < y) zs k above there in absurd (omega arith)
      | inr later ↦ rest later
    ]
