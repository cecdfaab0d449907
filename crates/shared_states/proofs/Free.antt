-- A place at which none of a few nodes is.
use Rattle.std.proofs.Common.{ℕ, zero, suc, ◌≡◌, ◌<◌, ◌≤◌, ◌+◌, Bool, true, false, not, ◌&&◌, ◌||◌, List, [], ◌∷◌, length, get_or, refl, sym, ap, ◌∙◌, inl, inr, arith, eqb-true}
use Rattle.std.specs.Prelude.{◌==◌}
use Rattle.std.specs.List.{filter, range_with_len}
use Rattle.std.proofs.lemmas.Bool.{cases_eq, cases_lt}
use Rattle.std.proofs.lemmas.List.FromFn.{length-range_with_len}
use Rattle.node_grid.specs.NodeSet.{ids_below, has_id, with_id, minus_of, IsIdSet}
use Rattle.node_grid.specs.NodeSetLaws.{filter_every, has-filter, hasnt-above, IsIdSet-filter, filter_filter, has-range, has_filtered}
use Rattle.node_grid.specs.ListLaws.{has_at}
use Rattle.node_grid.specs.Count.{bit, count}
use Rattle.node_grid.specs.SetFacts.{member-lt, length_filter, IsIdSet-wider}
use Rattle.agreed_state.specs.Ranges.{count_one}

-- how many a set of numbers has
pub length_set : (n : ℕ) (s : List ℕ) → IsIdSet n s → length s ≡ count (has_id s) (ids_below n)
length_set n s ids = ap length ids ∙ length_filter (has_id s) (ids_below n)

count_most : (p : ℕ → Bool) (a n : ℕ) → count p (range_with_len a n) ≤ n
count_most p a zero = omega arith
count_most p a (suc n) = let rest = count_most p (a + 1) n in let b = bit_most (p a) in omega arith
  where
    bit_most : (b : Bool) → bit b ≤ 1
    bit_most true = omega arith
    bit_most false = omega arith

count_less : (p : ℕ → Bool) (a n x : ℕ) → a ≤ x → x < a + n → p x ≡ false → count p (range_with_len a n) < n
count_less p a zero x low high fails = absurd (omega arith)
count_less p a (suc n) x low high fails = elim (cases_eq x a) [
  | inl e ↦ let none : bit (p a) ≡ 0 = ap bit (ap p (sym e) ∙ fails) in let rest = count_most p (a + 1) n in omega arith
  | inr ne ↦ let rest = count_less p (a + 1) n x (omega arith) (omega arith) fails in let b = bit_most (p a) in omega arith
]
  where
    bit_most : (b : Bool) → bit b ≤ 1
    bit_most true = omega arith
    bit_most false = omega arith

-- a set that lacks a number below n has fewer than n
pub fewer : (n : ℕ) (s : List ℕ) (x : ℕ) → IsIdSet n s → x < n → has_id s x ≡ false → length s < n
fewer n s x ids low off = let few = count_less (has_id s) 0 n x (omega arith) (omega arith) off in omega (arith, length_set n s ids)

-- one number more
either_count : (p q : ℕ → Bool) (xs : List ℕ) → count (λ k. p k || q k) xs ≤ count p xs + count q xs
either_count p q [] = omega arith
either_count p q (x ∷ xs) = let rest = either_count p q xs in let here = either (p x) (q x) in omega arith
  where
    either : (a b : Bool) → bit (a || b) ≤ bit a + bit b
    either true b = omega arith
    either false b = omega arith

itself : (n x : ℕ) → count (λ k. k == x) (ids_below n) ≤ 1
itself n x = count_one (λ k. k == x) 0 n (λ k l p q. eqb-true k x p ∙ sym (eqb-true l x q))

pub grown : (n : ℕ) (s : List ℕ) (x : ℕ) → IsIdSet n s → length (with_id n s x) ≤ length s + 1
grown n s x ids = omega (arith, length_filter (λ k. (k == x) || has_id s k) (ids_below n), either_count (λ k. k == x) (has_id s) (ids_below n), itself n x, length_set n s ids)

-- what isn't in a set is, where the set is small
all_there : (n : ℕ) (s : List ℕ) → IsIdSet n s → minus_of (ids_below n) s ≡ [] → length s ≡ n
all_there n s ids none = ap length (ids ∙ filter_every (has_id s) 0 n (λ k l u. there k (omega arith) (has_id s k) refl)) ∙ length-range_with_len 0 n
  where
    there : (k : ℕ) → k < n → (b : Bool) → has_id s k ≡ b → has_id s k ≡ true
    there k low true e = e
    there k low false e =
        let left : has_id (minus_of (ids_below n) s) k ≡ true = has-filter (λ j. not (has_id s j)) n k low ∙ ap not e in
        let gone : has_id (minus_of (ids_below n) s) k ≡ false = ap (λ (xs : List ℕ). has_id xs k) none in
        absurd (cc)

some_of : (xs : List ℕ) → (xs ≡ [] → ⊥) → 0 < length xs
some_of [] h = absurd (h refl)
some_of (x ∷ xs) h = omega arith

pub left_over : (n : ℕ) (s : List ℕ) → IsIdSet n s → length s < n → 0 < length (minus_of (ids_below n) s)
left_over n s ids few = some_of (minus_of (ids_below n) s) (λ none. absurd (omega (arith, all_there n s ids none)))

-- and the first of them is none of the set
pub left_out : (n : ℕ) (s : List ℕ) → IsIdSet n s → length s < n → (get_or (minus_of (ids_below n) s) 0 0 < n) × (has_id s (get_or (minus_of (ids_below n) s) 0 0) ≡ false)
left_out n s ids few = elim (cases_lt first n) [
  | inl low ↦ (low, off low (has_id s first) refl)
  | inr high ↦ absurd (let up : has_id left first ≡ true = on in let gone : has_id left first ≡ false = hasnt-above n left first (IsIdSet-filter (λ j. not (has_id s j)) n) high in cc)
]
  where
    left : List ℕ
    left = minus_of (ids_below n) s

    first : ℕ
    first = get_or left 0 0

    on : has_id left first ≡ true
    on = has_at left 0 (left_over n s ids few)

    off : first < n → (b : Bool) → has_id s first ≡ b → has_id s first ≡ false
    off low false e = e
    off low true e = let up : has_id left first ≡ true = on in let none : has_id left first ≡ false = has-filter (λ j. not (has_id s j)) n first low ∙ ap not e in absurd (cc)

-- some of a set are a set
pub filtered_ids : (p : ℕ → Bool) (n : ℕ) (s : List ℕ) → IsIdSet n s → IsIdSet n (filter p s)
filtered_ids p n s ids =
    let is : filter p s ≡ filter both (ids_below n) = ap (λ (xs : List ℕ). filter p xs) ids ∙ filter_filter (has_id s) p (ids_below n) in
    is ∙ IsIdSet-filter both n ∙ ap (λ (xs : List ℕ). filter (λ k. has_id xs k) (ids_below n)) (sym is)
  where
    both : ℕ → Bool
    both k = has_id s k && p k

-- a set that isn't empty has a number that it lacks where that was taken out
pub fewer_others : (n : ℕ) (s t : List ℕ) → IsIdSet n s → IsIdSet n t → (length t ≡ 0 → ⊥) → length (minus_of s t) < n
fewer_others n s [] ids tids some = absurd (some refl)
fewer_others n s (x ∷ rest) ids tids some =
    let on : has_id (x ∷ rest) x ≡ true = has_at (x ∷ rest) 0 (omega arith) in
    fewer n (minus_of s (x ∷ rest)) x (filtered_ids (λ k. not (has_id (x ∷ rest) k)) n s ids) (member-lt n (x ∷ rest) x tids on) (off on)
  where
    off : has_id (x ∷ rest) x ≡ true → has_id (minus_of s (x ∷ rest)) x ≡ false
    off on = has_filtered (λ k. not (has_id (x ∷ rest) k)) s x ∙ ap (λ b. not b && has_id s x) on

-- the numbers below a bound are a set below a greater one
pub ids_ids : (m n : ℕ) → m ≤ n → IsIdSet n (ids_below m)
ids_ids m n le = IsIdSet-wider m n (ids_below m) le (sym (filter_every (has_id (ids_below m)) 0 m (λ k low high. has-range 0 m k low high)))
