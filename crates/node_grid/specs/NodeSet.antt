-- Sets of small numbers, seen as the list of their members in ascending order.
use Rattle.std.specs.Prelude.{◌≡◌, ℕ, ◌^◌, Bool, ◌==◌, ◌||◌, ◌&&◌, nat_lt, not, List, length}
use Rattle.std.specs.List.{filter, list_any, range_with_len, sum_by}
use Rattle.std.specs.Int.{bit_at}

-- the numbers below n
abbrev pub ids_below : ℕ → List ℕ
ids_below n = range_with_len 0 n

-- whether the set has x
abbrev pub has_id : List ℕ → ℕ → Bool
has_id s x = list_any (λ y. y == x) s

-- the set with x, of the numbers below n
abbrev pub with_id : ℕ → List ℕ → ℕ → List ℕ
with_id n s x = filter (λ k. (k == x) || has_id s k) (ids_below n)

-- the set without x
abbrev pub without_id : List ℕ → ℕ → List ℕ
without_id s x = filter (λ k. not (k == x)) s

-- the members of two sets together, of the numbers below n
abbrev pub union_of : ℕ → List ℕ → List ℕ → List ℕ
union_of n s t = filter (λ k. has_id s k || has_id t k) (ids_below n)

-- the members that another set hasn't
abbrev pub minus_of : List ℕ → List ℕ → List ℕ
minus_of s t = filter (λ k. not (has_id t k)) s

-- the members that another set has too
abbrev pub common_of : List ℕ → List ℕ → List ℕ
common_of s t = filter (λ k. has_id t k) s

-- how many members are below x
abbrev pub place_of : List ℕ → ℕ → ℕ
place_of s x = length (filter (λ k. nat_lt k x) s)

-- the places below n of the bits of a mask that are set
abbrev pub bits_set : ℕ → ℕ → List ℕ
bits_set n mask = filter (λ k. bit_at mask k == 1) (ids_below n)

-- the mask whose bits these are
abbrev pub mask_of : List ℕ → ℕ
mask_of s = sum_by (λ k. 2 ^ k) s

-- s is a set of numbers below n: it is the list of those of them that it has
abbrev pub IsIdSet : ℕ → List ℕ → Type 0
IsIdSet n s = s ≡ filter (λ k. has_id s k) (ids_below n)

-- the numbers below n that pass a test, and those of them below i, as a loop up to i has found them
abbrev pub ids_where : (ℕ → Bool) → ℕ → List ℕ
ids_where p n = filter p (ids_below n)

abbrev pub ids_where_below : (ℕ → Bool) → ℕ → ℕ → List ℕ
ids_where_below p n i = filter (λ k. nat_lt k i && p k) (ids_below n)
