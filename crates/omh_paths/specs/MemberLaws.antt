-- Sets of nodes as lists without repeats, and their sizes.
use Rattle.std.proofs.Common.{ℕ, zero, suc, ◌≡◌, ◌<◌, ◌≤◌, ◌+◌, ◌-◌, ◌*◌, ◌^◌, ap, ◌∙◌, Bool, true, false, ◌||◌, List, ◌∷◌, length, refl, sym, ap₂, subst, inl, inr, arith, ne_eqb, eq-eqb}
use Rattle.std.specs.Prelude.{◌==◌, ◌&&◌, nat_lt, filter}
use Rattle.std.specs.List.{range_with_len}
use Rattle.std.proofs.lemmas.Bool.{cases_Bool, cases_eq, cond-true, cond-false, lt-ltb, le-ltb}
use Rattle.node_grid.specs.Capacity.{IsCapacity}
use Rattle.node_grid.specs.NodeSet.{has_id, ids_below, IsIdSet, place_of}
use Rattle.node_grid.specs.NodeSetLaws.{length-ids, filter_none, filter_filter}
use Rattle.node_grid.specs.Count.{Distinct}
use Rattle.std.proofs.Math.Nat.{mul-le-mul, pow-suc}
use Rattle.node_grid.specs.SetFacts.{member-lt}
use Rattle.omh_paths.specs.Paths.{path_count, index_in}
use Rattle.omh_paths.specs.PathLists.{Distinct-filter}
use Rattle.std.proofs.Math.Bool.{and-false}
use Rattle.node_grid.specs.CapacityLaws.{capacity-le}

hasnt_range : (a b n : ℕ) → a < b → has_id (range_with_len b n) a ≡ false
hasnt_range a b zero h = refl
hasnt_range a b (suc n) h = ap₂ (λ (s t : Bool). s || t) (ne_eqb b a (λ e. omega arith)) (hasnt_range a (b + 1) n (omega arith))

Distinct-range : (a n : ℕ) → Distinct (range_with_len a n)
Distinct-range a zero = tt
Distinct-range a (suc n) = (hasnt_range a (a + 1) n (omega arith), Distinct-range (a + 1) n)

pub Distinct-ids_below : (n : ℕ) → Distinct (ids_below n)
Distinct-ids_below n = Distinct-range 0 n

pub Distinct-ids : (n : ℕ) (s : List ℕ) → IsIdSet n s → Distinct s
Distinct-ids n s h = subst Distinct (sym h) (Distinct-filter (λ k. has_id s k) (ids_below n) (Distinct-range 0 n))

pub few_ids : (n : ℕ) (s : List ℕ) → IsCapacity n → IsIdSet n s → length s ≤ 16
few_ids n s h ids = omega (arith, capacity-le n h, length-ids n s ids)

-- ---- how many paths there are at most

pub bound_step : (count n used : ℕ) → count ≤ 16 ^ used → n ≤ 16 → count * n ≤ 16 ^ (used + 1)
bound_step count n used h l =
    let e : used + 1 ≡ suc used = omega arith in
    let p : 16 ^ (used + 1) ≡ 16 ^ used * 16 = ap (λ (k : ℕ). 16 ^ k) e ∙ pow-suc 16 used in
    omega (arith, mul-le-mul h l, p)

sixteens : (i d : ℕ) → 16 ^ i ≤ 16 ^ (i + d)
sixteens i zero = let e : i + 0 ≡ i = omega arith in omega (arith, ap (λ (k : ℕ). 16 ^ k) e)
sixteens i (suc d) = let e : i + suc d ≡ suc (i + d) = omega arith in omega (arith, sixteens i d, ap (λ (k : ℕ). 16 ^ k) e, pow-suc 16 (i + d))

pub bound_four : (x used : ℕ) → used ≤ 4 → x ≤ 16 ^ used → x ≤ 65536
bound_four x used h l =
    let e : used + (4 - used) ≡ 4 = omega arith in
    let f : 16 ^ (used + (4 - used)) ≡ 65536 = ap (λ (k : ℕ). 16 ^ k) e in
    omega (arith, sixteens used (4 - used), f, l)

pub path_count-le : (n r : ℕ) → n ≤ 16 → path_count n r ≤ 16 ^ r
path_count-le n zero h = omega arith
path_count-le n (suc r) h = omega (arith, mul-le-mul h (path_count-le (n - 1) r (omega arith)), pow-suc 16 r)

pub path_count-few : (n r : ℕ) → n ≤ 16 → r ≤ 4 → path_count n r ≤ 65536
path_count-few n r h l = bound_four (path_count n r) r l (path_count-le n r h)

-- ---- the place of a member is how many members are below it

none_below : (p : ℕ → Bool) (a n q : ℕ) → q ≤ a → place_of (filter p (range_with_len a n)) q ≡ 0
none_below p a n q h = ap length (filter_filter p (λ k. nat_lt k q) (range_with_len a n) ∙ filter_none (λ k. p k && nat_lt k q) a n (λ k l u. ap (λ (b : Bool). p k && b) (le-ltb k q (omega arith)) ∙ and-false (p k)))

place_in_range : (p : ℕ → Bool) (a n q : ℕ) → p q ≡ true → a ≤ q → q < a + n → place_of (filter p (range_with_len a n)) q ≡ index_in (filter p (range_with_len a n)) q
place_in_range p a zero q on l u = absurd (omega arith)
place_in_range p a (suc n) q on l u =
    let rest : List ℕ = filter p (range_with_len (a + 1) n) in
    elim (cases_eq a q) [
      | inl e ↦
          let first : filter p (range_with_len a (suc n)) ≡ a ∷ rest = cond-true (p a) (a ∷ rest) rest (ap p e ∙ on) in
          let below : place_of (a ∷ rest) q ≡ 0 = ap length (cond-false (nat_lt a q) (a ∷ filter (λ k. nat_lt k q) rest) (filter (λ k. nat_lt k q) rest) (le-ltb a q (omega arith))) ∙ none_below p (a + 1) n q (omega arith) in
          let index : index_in (a ∷ rest) q ≡ 0 = cond-true (a == q) 0 (1 + index_in rest q) (eq-eqb a q e) in
          ap (λ (xs : List ℕ). place_of xs q) first ∙ below ∙ sym index ∙ ap (λ (xs : List ℕ). index_in xs q) (sym first)
      | inr ne ↦
          let later : place_of rest q ≡ index_in rest q = place_in_range p (a + 1) n q on (omega arith) (omega arith) in
          let below : place_of (a ∷ rest) q ≡ suc (place_of rest q) = ap length (cond-true (nat_lt a q) (a ∷ filter (λ k. nat_lt k q) rest) (filter (λ k. nat_lt k q) rest) (lt-ltb a q (omega arith))) in
          let index : index_in (a ∷ rest) q ≡ 1 + index_in rest q = cond-false (a == q) 0 (1 + index_in rest q) (ne_eqb a q ne) in
          elim (cases_Bool (p a)) [
            | inl yes' ↦
                let first : filter p (range_with_len a (suc n)) ≡ a ∷ rest = cond-true (p a) (a ∷ rest) rest yes' in
                ap (λ (xs : List ℕ). place_of xs q) first ∙ omega (arith, below, index, later) ∙ ap (λ (xs : List ℕ). index_in xs q) (sym first)
            | inr no' ↦
                let none : filter p (range_with_len a (suc n)) ≡ rest = cond-false (p a) (a ∷ rest) rest no' in
                ap (λ (xs : List ℕ). place_of xs q) none ∙ later ∙ ap (λ (xs : List ℕ). index_in xs q) (sym none)
          ]
    ]

pub place-index : (n : ℕ) (s : List ℕ) (q : ℕ) → IsIdSet n s → has_id s q ≡ true → place_of s q ≡ index_in s q
place-index n s q ids on =
    let low : q < n = member-lt n s q ids on in
    ap (λ (xs : List ℕ). place_of xs q) ids ∙ place_in_range (λ k. has_id s k) 0 n q on (omega arith) (omega arith) ∙ ap (λ (xs : List ℕ). index_in xs q) (sym ids)
