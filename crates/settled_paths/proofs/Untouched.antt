-- Where nothing is said in place of what is passed on of paths of some length.
use Rattle.std.proofs.Common.{ℕ, suc, ◌≡◌, ◌<◌, ◌+◌, ◌-◌, ◌*◌, ◌==◌, Bool, false, List, [], ◌∷◌, ◌++◌, length, get_or, refl, sym, ap, ◌∙◌, inl, inr, arith, eq-eqb, ne_eqb}
use Rattle.std.specs.Prelude.{Option, None, if◌then◌else◌}
use Rattle.std.proofs.lemmas.Bool.{cases_eq, cond-true, cond-false}
use Rattle.std.proofs.lemmas.List.{length_push}
use Rattle.node_grid.specs.NodeSet.{has_id}
use Rattle.node_grid.specs.Count.{Distinct}
use Rattle.omh_paths.specs.declared.wrapped.Wrapped.{Wrapped}
use Rattle.omh_paths.specs.declared.wrapped.Wrapped.TheVariants.{Fault}
use Rattle.omh_paths.specs.Wrapped.{wrapped}
use Rattle.omh_paths.specs.Paths.{outside, path_count}
use Rattle.omh.specs.Omh.{Ear, term_at}
use Rattle.omh.specs.Flat.{relay_path}
use Rattle.omh.proofs.Folding.{relay_listed}
use Rattle.settled_paths.specs.Passing.{or_passed, passes, instead}
use Rattle.settled_paths.specs.Levels.{level_value, AreLastTerms}

-- what a relay passes on of a path is the same where all hear the same of it
pub passes_same : {V : Type 0} (full : List ℕ) (one other : ℕ → List ℕ → Option (Wrapped V)) (path : List ℕ) → ((q : ℕ) → one q path ≡ other q path)
    → (value : Wrapped V) (q : ℕ) → passes full one path value q ≡ passes full other path value q
passes_same full one other path same value q = ap (λ (o : Option (Wrapped _)). if has_id full q then wrapped (or_passed o value) else Fault 0) (same q)

-- a node hears of each relay just what it passes on
pub instead_none : {V : Type 0} (says : ℕ → List ℕ → Option (Wrapped V)) (i : ℕ) (path : List ℕ) (q : ℕ) → says i (path ++ q ∷ []) ≡ None → instead says i path q ≡ None
instead_none says i path q none = elim (cases_eq q i) [
  | inl same ↦ cond-true (q == i) None (says i (path ++ q ∷ [])) (eq-eqb q i same)
  | inr ne ↦ cond-false (q == i) None (says i (path ++ q ∷ [])) (ne_eqb q i ne) ∙ none
]

-- so the last terms are what is laid
pub last_untouched : {V : Type 0} (eq : V → V → Bool) (x : Ear V) (place i : ℕ) (says : ℕ → List ℕ → Option (Wrapped V)) (last : ℕ) (laid : List (Wrapped V))
    → Distinct x.members → place < length x.members → ((j : ℕ) (path : List ℕ) → length path ≡ suc (suc last) → says j path ≡ None)
    → AreLastTerms eq x place i says last laid → AreLastTerms eq x place i (λ j path. None) last laid
last_untouched eq x place i says last laid distinct low none are = record { term = term }
  where
    term : (k j : ℕ) → k < path_count (length x.members - 1) last → j < length x.members - suc last → has_id (relay_path x.members place last k) x.me ≡ false
        → or_passed (instead (λ j path. None) i (relay_path x.members place last k) (get_or (outside x.members (relay_path x.members place last k)) j 0)) (level_value x.members (suc last) (k * (length x.members - suc last) + j) laid)
        ≡ term_at eq x (relay_path x.members place last k) (get_or (outside x.members (relay_path x.members place last k)) j 0)
    term k j within inside off =
        let p : List ℕ = relay_path x.members place last k in
        let q : ℕ = get_or (outside x.members p) j 0 in
        let listed = relay_listed x.members place last k distinct low within in
        let at : Wrapped _ = level_value x.members (suc last) (k * (length x.members - suc last) + j) laid in
        ap (λ (o : Option (Wrapped _)). or_passed o at) (instead_none (λ j path. None) i p q refl ∙ sym (instead_none says i p q (none i (p ++ q ∷ []) (omega (arith, listed.long, length_push p q)))))
        ∙ are.term k j within inside off
