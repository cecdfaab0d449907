-- Sets of the nodes that pass a test, and how many and which pass it.
use Rattle.std.proofs.Common.{◌≡◌, ℕ, zero, suc, ◌+◌, ◌<◌, ◌≤◌, Bool, true, false, List, [], ◌∷◌, length, slice_get, refl, sym, ap, ◌∙◌, inl, inr, arith}
use Rattle.std.specs.List.{filter, find, range_with_len}
use Rattle.std.proofs.lemmas.Bool.{cases_Bool}
use Rattle.node_grid.specs.NodeSet.{has_id, with_id, ids_where, ids_where_below, ids_below}
use Rattle.node_grid.specs.NodeSetLaws.{filter_every, has-filter, ids_where_more_yes, ids_where_more_no, ids_where-within}
use Rattle.node_grid.specs.Count.{count}
use Rattle.node_grid.specs.SetFacts.{length_filter}

-- a loop that builds such a set
pub where_yes : (f : ℕ → Bool) (cap k : ℕ) (found new : List ℕ) → found ≡ ids_where_below f cap k → f k ≡ true → new ≡ with_id cap found k → new ≡ ids_where_below f cap (k + 1)
where_yes f cap k found new h y e = e ∙ ap (λ s. with_id cap s k) h ∙ sym (ids_where_more_yes f cap k y)

pub where_no : (f : ℕ → Bool) (cap k : ℕ) (found : List ℕ) → found ≡ ids_where_below f cap k → f k ≡ false → found ≡ ids_where_below f cap (k + 1)
where_no f cap k found h n = h ∙ sym (ids_where_more_no f cap k n)

pub where_end : (f : ℕ → Bool) (cap n k : ℕ) (found : List ℕ) → found ≡ ids_where_below f cap k → n ≤ cap → k ≡ n → found ≡ ids_where f n
where_end f cap n k found h few e = h ∙ ap (ids_where_below f cap) e ∙ ids_where-within f cap n few

pub has_where : (f : ℕ → Bool) (n k : ℕ) → k < n → has_id (ids_where f n) k ≡ f k
has_where f n k h = has-filter f n k h

pub has_in : (s : List ℕ) (f : ℕ → Bool) (n k : ℕ) → s ≡ ids_where f n → k < n → has_id s k ≡ f k
has_in s f n k e h = ap (λ t. has_id t k) e ∙ has-filter f n k h

pub every_where : (f : ℕ → Bool) (n : ℕ) → ((k : ℕ) → k < n → f k ≡ true) → ids_below n ≡ ids_where f n
every_where f n h = sym (filter_every f 0 n (λ k l u. h k (omega arith)))

pub length_where : (f : ℕ → Bool) (n : ℕ) → length (ids_where f n) ≡ count f (ids_below n)
length_where f n = length_filter f (ids_below n)

-- the least that passes
pub first_filter : (f : ℕ → Bool) (xs : List ℕ) → slice_get (filter f xs) 0 ≡ find f xs
first_filter f [] = refl
first_filter f (x ∷ xs) = elim (cases_Bool (f x)) [
  | inl e ↦ rw e refl
  | inr e ↦ rw e (first_filter f xs)
]

find_range : (f g : ℕ → Bool) (a n : ℕ) → ((k : ℕ) → a ≤ k → k < a + n → f k ≡ g k) → find f (range_with_len a n) ≡ find g (range_with_len a n)
find_range f g a zero h = refl
find_range f g a (suc n) h =
    let here : f a ≡ g a = h a (omega arith) (omega arith) in
    let rest : find f (range_with_len (a + 1) n) ≡ find g (range_with_len (a + 1) n) = find_range f g (a + 1) n (λ k l u. h k (omega arith) (omega arith)) in
    rw (here, rest) refl

pub first_where : (f g : ℕ → Bool) (n : ℕ) → ((k : ℕ) → k < n → f k ≡ g k) → slice_get (ids_where f n) 0 ≡ find g (ids_below n)
first_where f g n h = first_filter f (ids_below n) ∙ find_range f g 0 n (λ k l u. h k (omega arith))
