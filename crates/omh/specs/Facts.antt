-- Facts that several crates cite.
use Rattle.std.proofs.Common.{Bool, List, [], ap, arith, drop, get_or, inl, inr, length, set, suc, sym, take, ℕ, ◌*◌, ◌++◌, ◌+◌, ◌-◌, ◌<◌, ◌∙◌, ◌∷◌, ◌≡◌}
use Rattle.std.proofs.lemmas.Bool.{cases_Bool, cond-false, cond-true}
use Rattle.std.proofs.lemmas.List.{get_or_push, length-set, length_push, take_all, take_more}
use Rattle.node_grid.specs.Count.{Distinct}
use Rattle.node_grid.specs.NodeSet.{has_id}
use Rattle.node_grid.specs.NumberFacts.{digits_fit, same_rest, spread}
use Rattle.omh_paths.specs.Majority.{majority}
use Rattle.omh_paths.specs.PathLists.{path_at-push, path_count-last}
use Rattle.omh_paths.specs.Paths.{index_in, outside, path_at, path_count, paths_of_length}
use Rattle.omh_paths.specs.Wrapped.{unwrapped}
use Rattle.omh_paths.specs.declared.wrapped.Wrapped.{Wrapped}
use Rattle.omh.specs.Flat.{laid_own, path_settled, relay_path}
use Rattle.omh.specs.Written.{last_node}

-- a path is what stands before its last node, and that
pub front_last : (path : List ℕ) → 0 < length path → path ≡ take (length path - 1) path ++ last_node path ∷ []
front_last path some =
    let e : length path ≡ (length path - 1) + 1 = omega arith in
    sym (take_all (length path) path (omega arith)) ∙ ap (λ (k : ℕ). take k path) e ∙ take_more path (length path - 1) 0 (omega arith)

-- the last node of a path
pub last_push : (path : List ℕ) (q : ℕ) → last_node (path ++ q ∷ []) ≡ q
last_push path q = get_or_push path q 0 (length (path ++ q ∷ []) - 1) (omega (arith, length_push path q))

pub length-laid : {V : Type 0} (nodes : List ℕ) (me from : ℕ) (own : Wrapped V) (work : List (Wrapped V)) → length (laid_own nodes me from own work) ≡ length work
length-laid nodes me from own work = elim (cases_Bool (has_id nodes me)) [
  | inl y ↦ ap length (cond-true (has_id nodes me) (set work (from + index_in nodes me) own) work y) ∙ length-set work (from + index_in nodes me) own
  | inr n ↦ ap length (cond-false (has_id nodes me) (set work (from + index_in nodes me) own) work n)
]

pub length-settled : {V : Type 0} (eq : V → V → Bool) (nodes : List ℕ) (me k width : ℕ) (own : Wrapped V) (work : List (Wrapped V)) → length (path_settled eq nodes me k width own work) ≡ length work
length-settled eq nodes me k width own work =
    length-set (laid_own nodes me (k * width) own work) k (unwrapped (majority eq (take width (drop (k * width) (laid_own nodes me (k * width) own work)))))
    ∙ length-laid nodes me (k * width) own work

-- the place of a relay path among all paths of its length
pub relay_place-lt : (members : List ℕ) (place r k : ℕ) → place < length members → k < path_count (length members - 1) r → place * path_count (length members - 1) r + k < path_count (length members) (suc r)
relay_place-lt members place r k low within = digits_fit place k (length members) (path_count (length members - 1) r) low within

-- a path with one relay more
pub relay_path-push : (members : List ℕ) (place r k j : ℕ) → Distinct members → place < length members → k < path_count (length members - 1) r → j < length members - suc r
    → relay_path members place (suc r) (k * (length members - suc r) + j) ≡ relay_path members place r k ++ get_or (outside members (relay_path members place r k)) j 0 ∷ []
relay_path-push members place r k j d low within inside =
    let n : ℕ = length members in
    let w : ℕ = n - suc r in
    let p : ℕ = path_count (n - 1) r in
    let last : path_count (n - 1) (suc r) ≡ p * w = path_count-last (n - 1) r ∙ ap (λ (x : ℕ). p * x) (same_rest n r) in
    let at : place * path_count (n - 1) (suc r) + (k * w + j) ≡ (place * p + k) * w + j = ap (λ (x : ℕ). place * x + (k * w + j)) last ∙ sym (spread place p w k j) in
    ap (path_at (paths_of_length members (suc (suc r)))) at
    ∙ path_at-push members (suc r) (place * p + k) j d (relay_place-lt members place r k low within) inside
