-- A path that is walked node by node, and what is passed on of each front of it.
use Rattle.std.proofs.Common.{ℕ, zero, suc, ◌≡◌, ◌<◌, ◌+◌, ◌==◌, false, List, [], ◌∷◌, ◌++◌, length, take, get_or, refl, sym, ap, ◌∙◌, arith, ne_eqb}
use Rattle.std.specs.Prelude.{Option}
use Rattle.std.proofs.lemmas.Bool.{or_from, both_ways}
use Rattle.std.proofs.lemmas.List.{take_more, length-take-le}
use Rattle.node_grid.specs.NodeSet.{has_id}
use Rattle.node_grid.specs.Count.{Distinct}
use Rattle.omh_paths.specs.declared.wrapped.Wrapped.{Wrapped}
use Rattle.omh_paths.specs.PathLists.{has-at}
use Rattle.settled_paths.specs.Passing.{passes, passed}
use Rattle.settled_paths.proofs.Passes.{passed_push}
use Rattle.settled_items.specs.Relaying.{clipped}

-- the next node isn't on the path so far
pub off_take : (path : List ℕ) (k : ℕ) → Distinct path → k < length path → has_id (take k path) (get_or path k 0) ≡ false
off_take [] k d l = absurd (omega arith)
off_take (x ∷ xs) zero d l = refl
off_take (x ∷ xs) (suc k) d l =
    let inside : k < length xs = omega (arith, l) in
    let q : ℕ = get_or xs k 0 in
    or_from (x == q) (has_id (take k xs) q) (ne_eqb x q (λ e. both_ways _ d.0 (ap (has_id xs) e ∙ has-at xs k 0 inside))) (off_take xs k d.1 inside)

pub first_of : (path : List ℕ) → 0 < length path → get_or path 0 0 ∷ [] ≡ take 1 path
first_of [] some = absurd (omega arith)
first_of (x ∷ xs) some = refl

pub walked_more : (path walked new : List ℕ) (k q : ℕ) → k < length path → walked ≡ take k path → q ≡ get_or path k 0 → new ≡ walked ++ q ∷ [] → new ≡ take (k + 1) path
walked_more path walked new k q here was at is =
    is ∙ ap (λ (p : List ℕ). p ++ q ∷ []) was ∙ ap (λ (x : ℕ). take k path ++ x ∷ []) at ∙ sym (take_more path k 0 here)

pub passed_more : {V : Type 0} (full : List ℕ) (own : Wrapped V) (says : ℕ → List ℕ → Option (Wrapped V)) (path walked : List ℕ) (k q : ℕ) (after : Wrapped V) → 0 < k → k < length path → walked ≡ take k path → q ≡ get_or path k 0
    → after ≡ clipped (passes full says walked (passed full own says (take k path)) q) → after ≡ clipped (passed full own says (take (k + 1) path))
passed_more full own says path walked k q after some here was at is =
    let front : List ℕ = take k path in
    let before = passed full own says front in
    is
    ∙ ap (λ (p : List ℕ). clipped (passes full says p before q)) was
    ∙ ap clipped (sym (passed_push full own says front q (omega (arith, length-take-le k path (omega arith)))))
    ∙ ap (λ (x : ℕ). clipped (passed full own says (front ++ x ∷ []))) at
    ∙ ap (λ (p : List ℕ). clipped (passed full own says p)) (sym (take_more path k 0 here))
