-- The paths without one member, among all paths.
use Rattle.std.proofs.Common.{ℕ, zero, suc, ◌≡◌, ◌==◌, ◌||◌, Bool, true, false, not, List, [], ◌∷◌, ◌++◌, map, refl, sym, ap, ap₂, ◌∙◌, inl, inr}
use Rattle.std.specs.Prelude.{filter}
use Rattle.std.specs.List.{flat_map}
use Rattle.std.proofs.lemmas.Bool.{cases_Bool, cond-true, cond-false}
use Rattle.std.proofs.lemmas.List.Elements.{filter-append}
use Rattle.std.proofs.lemmas.List.Concat.{flat_map-cons}
use Rattle.node_grid.specs.NodeSet.{has_id, without_id}
use Rattle.node_grid.specs.NodeSetLaws.{filter_filter}
use Rattle.node_grid.specs.TruthFacts.{and_swap}
use Rattle.omh_paths.specs.Paths.{paths_of_length}
use Rattle.omh_paths.specs.PathLists.{paths-cons}

-- Law of tables: the paths of r members other than q, in lexicographic order, are those of all paths of r members that q isn't on
abbrev pub TablesLaw : Type 0
TablesLaw = (s : List ℕ) (q r : ℕ) → paths_of_length (without_id s q) r ≡ filter (λ path. not (has_id path q)) (paths_of_length s r)

without_swap : (s : List ℕ) (x q : ℕ) → without_id (without_id s x) q ≡ without_id (without_id s q) x
without_swap s x q =
    filter_filter (λ k. not (k == x)) (λ k. not (k == q)) s
    ∙ ap (λ (t : ℕ → Bool). filter t s) (λ i k. and_swap (not (k == x)) (not (k == q)) i)
    ∙ sym (filter_filter (λ k. not (k == q)) (λ k. not (k == x)) s)

free : ℕ → List ℕ → Bool
free q path = not (has_id path q)

-- paths that begin with q have it on them
begins_with : (x q : ℕ) (ps : List (List ℕ)) → (x == q) ≡ true → filter (free q) (map (λ path. x ∷ path) ps) ≡ []
unfolding free
begins_with x q [] e = refl
begins_with x q (p ∷ ps) e =
    let off : free q (x ∷ p) ≡ false = ap (λ (b : Bool). not (b || has_id p q)) e in
    cond-false (free q (x ∷ p)) ((x ∷ p) ∷ filter (free q) (map (λ path. x ∷ path) ps)) (filter (free q) (map (λ path. x ∷ path) ps)) off ∙ begins_with x q ps e

-- and others where the rest has it
begins_other : (x q : ℕ) (ps : List (List ℕ)) → (x == q) ≡ false → filter (free q) (map (λ path. x ∷ path) ps) ≡ map (λ path. x ∷ path) (filter (free q) ps)
unfolding free
begins_other x q [] e = refl
begins_other x q (p ∷ ps) e =
    let same : free q (x ∷ p) ≡ free q p = ap (λ (b : Bool). not (b || has_id p q)) e in
    let rest = begins_other x q ps e in
    elim (cases_Bool (free q p)) [
      | inl keeps ↦
          cond-true (free q (x ∷ p)) ((x ∷ p) ∷ filter (free q) (map (λ path. x ∷ path) ps)) (filter (free q) (map (λ path. x ∷ path) ps)) (same ∙ keeps)
          ∙ ap (λ (ts : List (List ℕ)). (x ∷ p) ∷ ts) rest
          ∙ sym (ap (map (λ path. x ∷ path)) (cond-true (free q p) (p ∷ filter (free q) ps) (filter (free q) ps) keeps))
      | inr drops ↦
          cond-false (free q (x ∷ p)) ((x ∷ p) ∷ filter (free q) (map (λ path. x ∷ path) ps)) (filter (free q) (map (λ path. x ∷ path) ps)) (same ∙ drops)
          ∙ rest
          ∙ sym (ap (map (λ path. x ∷ path)) (cond-false (free q p) (p ∷ filter (free q) ps) (filter (free q) ps) drops))
    ]

beginning : List ℕ → ℕ → ℕ → List (List ℕ)
beginning s r c = map (λ path. c ∷ path) (paths_of_length (without_id s c) r)

paths_without : (r : ℕ) (s : List ℕ) (q : ℕ) → paths_of_length (without_id s q) r ≡ filter (free q) (paths_of_length s r)
unfolding free
paths_without zero s q = refl
paths_without (suc r) s q =
    paths-cons (without_id s q) r ∙ sym (each (λ t. paths_without r t q) s) ∙ sym (ap (filter (free q)) (paths-cons s r))
  where
    each : ((t : List ℕ) → paths_of_length (without_id t q) r ≡ filter (free q) (paths_of_length t r)) → (xs : List ℕ) → filter (free q) (flat_map (λ c. map (λ path. c ∷ path) (paths_of_length (without_id s c) r)) xs)
        ≡ flat_map (λ c. map (λ path. c ∷ path) (paths_of_length (without_id (without_id s q) c) r)) (without_id xs q)
    each ih [] = refl
    each ih (x ∷ xs) =
        let here : List (List ℕ) = map (λ path. x ∷ path) (paths_of_length (without_id s x) r) in
        let g : ℕ → List (List ℕ) = λ c. map (λ path. c ∷ path) (paths_of_length (without_id s c) r) in
        let h : ℕ → List (List ℕ) = λ c. map (λ path. c ∷ path) (paths_of_length (without_id (without_id s q) c) r) in
        ap (filter (free q)) (flat_map-cons g x xs) ∙ filter-append (free q) here (flat_map g xs)
        ∙ elim (cases_Bool (x == q)) [
          | inl same ↦
              ap₂ (λ (a b : List (List ℕ)). a ++ b) (begins_with x q (paths_of_length (without_id s x) r) same) (each ih xs)
              ∙ ap (flat_map h) (sym (cond-false (not (x == q)) (x ∷ without_id xs q) (without_id xs q) (ap not same)))
          | inr other ↦
              let inner : filter (free q) (paths_of_length (without_id s x) r) ≡ paths_of_length (without_id (without_id s q) x) r =
              sym (ih (without_id s x)) ∙ ap (λ (t : List ℕ). paths_of_length t r) (without_swap s x q) in
              ap₂ (λ (a b : List (List ℕ)). a ++ b) (begins_other x q (paths_of_length (without_id s x) r) other ∙ ap (map (λ path. x ∷ path)) inner) (each ih xs)
              ∙ sym (flat_map-cons h x (without_id xs q))
              ∙ ap (flat_map h) (sym (cond-true (not (x == q)) (x ∷ without_id xs q) (without_id xs q) (ap not other)))
        ]

pub tables_law : TablesLaw
unfolding free
tables_law s q r = paths_without r s q
