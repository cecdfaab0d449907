-- Terms that are set one after another.
use Rattle.std.proofs.Common.{ℕ, ◌≡◌, ◌<◌, ◌≤◌, ◌+◌, List, map, length, set, get_or, sym, ap, ◌∙◌, inl, inr, arith}
use Rattle.std.proofs.lemmas.Bool.{cases_eq}
use Rattle.std.proofs.lemmas.List.{map-set, get_or-set_same, get_or-set_other, ext_get_or, length-map}
use Rattle.omh_paths.specs.declared.wrapped.Wrapped.{Wrapped}
use Rattle.omh_paths.specs.declared.wrapped.Wrapped.TheVariants.{Fault}
use Rattle.relay_terms.specs.declared.term.Term.{Term}
use Rattle.relay_terms.specs.Terms.{said}

pub set_more : {V : Type 0} (f : ℕ → Wrapped V) (terms : List (Term V)) (k : ℕ) (t : Term V) → k < length terms → said t ≡ f k
    → ((i : ℕ) → i < k → get_or (map said terms) i (Fault 0) ≡ f i) → (i : ℕ) → i < k + 1 → get_or (map said (set terms k t)) i (Fault 0) ≡ f i
set_more {V} f terms k t room is was i low =
    ap (λ (xs : List (Wrapped V)). get_or xs i (Fault 0)) (map-set said terms k t)
    ∙ elim (cases_eq i k) [
      | inl here ↦ ap (λ (j : ℕ). get_or (set (map said terms) k (said t)) j (Fault 0)) here
          ∙ get_or-set_same (map said terms) k (said t) (Fault 0) (omega (arith, length-map terms said)) ∙ is ∙ ap f (sym here)
      | inr other ↦ get_or-set_other (map said terms) k i (said t) (Fault 0) other ∙ was i (omega arith)
    ]

pub set_all : {V : Type 0} (f : ℕ → Wrapped V) (terms : List (Term V)) (k : ℕ) (all : List (Wrapped V)) → length all ≡ length terms → length terms ≤ k
    → ((i : ℕ) → i < k → get_or (map said terms) i (Fault 0) ≡ f i) → ((i : ℕ) → i < length all → get_or all i (Fault 0) ≡ f i) → map said terms ≡ all
set_all f terms k all same past was is =
    ext_get_or (Fault 0) (map said terms) all (omega (arith, length-map terms said, same))
    (λ i low. was i (omega (arith, length-map terms said)) ∙ sym (is i (omega (arith, length-map terms said, same))))
