-- One more term in a loop over them.
use Rattle.std.proofs.Common.{ℕ, ◌≡◌, ◌<◌, ◌≤◌, ◌+◌, ◌/◌, ◌*◌, Bool, false, not, ◌&&◌, List, [], ◌∷◌, ◌++◌, map, length, take, get_or, sym, ap, ap₂, ◌∙◌}
use Rattle.std.specs.Prelude.{nat_lt}
use Rattle.std.proofs.lemmas.List.{take_more, take_all, map-append}
use Rattle.node_grid.specs.Count.{count}
use Rattle.node_grid.specs.ListLaws.{half_less}
use Rattle.omh_paths.specs.declared.wrapped.Wrapped.{Wrapped}
use Rattle.omh_paths.specs.Wrapped.{same, is_error}
use Rattle.omh_paths.specs.Majority.{has_majority}
use Rattle.relay_terms.specs.declared.term.Term.{Term}
use Rattle.relay_terms.specs.Terms.{said}
use Rattle.relay_terms.specs.Tallies.{votes}

pub seen_more : {V : Type 0} (own : Wrapped V) (terms : List (Term V)) (i : ℕ) (t : Term V) → i < length terms → t ≡ get_or terms i t
    → (own ∷ map said (take i terms)) ++ said t ∷ [] ≡ own ∷ map said (take (i + 1) terms)
seen_more {V} own terms i t here is =
    ap (λ (x : Term V). (own ∷ map said (take i terms)) ++ said x ∷ []) is
    ∙ ap (λ (xs : List (Wrapped V)). own ∷ xs) (sym (map-append said (take i terms) (get_or terms i t ∷ [])))
    ∙ ap (λ (xs : List (Term V)). own ∷ map said xs) (sym (take_more terms i t here))

pub seen_all : {V : Type 0} (own : Wrapped V) (terms : List (Term V)) (i : ℕ) → length terms ≤ i → own ∷ map said (take i terms) ≡ own ∷ map said terms
seen_all {V} own terms i past = ap (λ (xs : List (Term V)). own ∷ map said xs) (take_all i terms past)

-- the test of a count
pub more_than_half : {V : Type 0} (eq : V → V → Bool) (seen : List (Wrapped V)) (c : Wrapped V) (v s : ℕ) → is_error c ≡ false → v ≡ votes seen → s ≡ count (same eq c) seen
    → nat_lt (v / 2) s ≡ has_majority eq seen c
more_than_half eq seen c v s good voted supported =
    half_less v s ∙ ap₂ (λ (a b : ℕ). nat_lt a (2 * b)) voted supported ∙ ap (λ (b : Bool). not b && nat_lt (votes seen) (2 * count (same eq c) seen)) (sym good)
