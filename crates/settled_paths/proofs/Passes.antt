-- What is passed on of a path that grows, and the terms of a node of the world of it.
use Rattle.std.proofs.Common.{ℕ, suc, ◌≡◌, ◌<◌, ◌+◌, ◌-◌, ◌*◌, ◌==◌, Bool, false, List, [], ◌∷◌, ◌++◌, length, get_or, reverse, refl, sym, ap, ◌∙◌, inl, inr, arith, eq-eqb, ne_eqb}
use Rattle.std.specs.Prelude.{Option, None, if◌then◌else◌}
use Rattle.std.proofs.lemmas.Bool.{cases_eq, cond-true, cond-false}
use Rattle.std.proofs.lemmas.List.{length_push, reverse-append, length-reverse, reverse-reverse}
use Rattle.node_grid.specs.NodeSet.{has_id}
use Rattle.node_grid.specs.Count.{Distinct}
use Rattle.omh_paths.specs.declared.wrapped.Wrapped.{Wrapped}
use Rattle.omh_paths.specs.declared.wrapped.Wrapped.TheVariants.{Fault}
use Rattle.omh_paths.specs.Wrapped.{wrapped}
use Rattle.omh_paths.specs.Paths.{outside, path_count}
use Rattle.omh.specs.Omh.{ear, own_term, settled_at, term_at}
use Rattle.omh.specs.Flat.{relay_path}
use Rattle.omh.specs.SettledLaws.{settled_at_end}
use Rattle.omh.proofs.Folding.{relay_listed}
use Rattle.omh.specs.Facts.{relay_path-push}
use Rattle.settled_paths.specs.Passing.{or_passed, passed_back, passed_from, passed, passing_world, instead, HearAlike}
use Rattle.settled_paths.specs.Levels.{level_value, AreLaid, AreOwnTerms, AreLastTerms}
use Rattle.settled_paths.proofs.Places.{longer-lt}

module _ {V : Type 0} (full : List ℕ) (own : Wrapped V) (says : ℕ → List ℕ → Option (Wrapped V)) where
  -- what q passes on of a path
  pub passes : ℕ → List ℕ → Wrapped V → Wrapped V
  passes q path value = if has_id full q then wrapped (or_passed (says q path) value) else Fault 0

  back_push : (q : ℕ) (back : List ℕ) → 0 < length back → passed_back full own says q back ≡ (if has_id full q then wrapped (or_passed (says q (reverse back)) (passed_from full own says back)) else Fault 0)
  back_push q [] some = absurd (omega arith)
  back_push q (b ∷ back) some = refl

  pub passed_push : (path : List ℕ) (q : ℕ) → 0 < length path → passed full own says (path ++ q ∷ []) ≡ (if has_id full q then wrapped (or_passed (says q path) (passed full own says path)) else Fault 0)
  passed_push path q some =
      ap (passed_from full own says) (reverse-append path (q ∷ []))
      ∙ back_push q (reverse path) (omega (arith, length-reverse path))
      ∙ ap (λ (p : List ℕ). if has_id full q then wrapped (or_passed (says q p) (passed_from full own says (reverse path))) else Fault 0) (reverse-reverse path)

  passed_alone : (c : ℕ) → passed full own says (c ∷ []) ≡ own
  passed_alone c = refl

  module _ (rounds : ℕ) (members : List ℕ) (place : ℕ) (distinct : Distinct members) (low : place < length members) (laid : List (Wrapped V)) (are : AreLaid members full own says place rounds laid) where
    -- what is laid for the next relay
    laid_push : (r k j : ℕ) → r < rounds → k < path_count (length members - 1) r → j < length members - suc r
        → level_value members (suc r) (k * (length members - suc r) + j) laid ≡ passed full own says (relay_path members place r k ++ get_or (outside members (relay_path members place r k)) j 0 ∷ [])
    laid_push r k j short within inside =
        are (suc r) (k * (length members - suc r) + j) short (longer-lt (length members) r k j within inside)
        ∙ ap (passed full own says) (relay_path-push members place r k j distinct low within inside)

    -- which is what it puts into its own majority
    laid_own_term : (i r k j : ℕ) → r < rounds → k < path_count (length members - 1) r → j < length members - suc r → get_or (outside members (relay_path members place r k)) j 0 ≡ i
        → level_value members (suc r) (k * (length members - suc r) + j) laid ≡ own_term (ear (passing_world rounds members full own says) i) (relay_path members place r k)
    laid_own_term i r k j short within inside is =
        let p : List ℕ = relay_path members place r k in
        let listed = relay_listed members place r k distinct low within in
        laid_push r k j short within inside
        ∙ passed_push p (get_or (outside members p) j 0) (omega (arith, listed.long))
        ∙ ap (λ (q : ℕ). if has_id full q then wrapped (or_passed (says q p) (passed full own says p)) else Fault 0) is

    pub own_terms : (i : ℕ) → AreOwnTerms (ear (passing_world rounds members full own says) i) place laid
    own_terms i = record { own = λ r k j short within inside is. laid_own_term i r k j short within inside is }

    pub last_terms : (eq : V → V → Bool) (first i last : ℕ) → rounds ≡ suc last → HearAlike says first i (rounds + 1) → AreLastTerms eq (ear (passing_world rounds members full own says) i) place first says last laid
    last_terms eq first i last e alike = record { term = term }
      where
        term : (k j : ℕ) → k < path_count (length members - 1) last → j < length members - suc last → has_id (relay_path members place last k) i ≡ false
            → or_passed (instead says first (relay_path members place last k) (get_or (outside members (relay_path members place last k)) j 0)) (level_value members (suc last) (k * (length members - suc last) + j) laid)
            ≡ term_at eq (ear (passing_world rounds members full own says) i) (relay_path members place last k) (get_or (outside members (relay_path members place last k)) j 0)
        term k j within inside off =
            let x = ear (passing_world rounds members full own says) i in
            let p : List ℕ = relay_path members place last k in
            let q : ℕ = get_or (outside members p) j 0 in
            let listed = relay_listed members place last k distinct low within in
            let at : Wrapped V = level_value members (suc last) (k * (length members - suc last) + j) laid in
            ap (λ (o : Option (Wrapped V)). or_passed o at) (alike p q (omega (arith, listed.long)))
            ∙ elim (cases_eq q i) [
              | inl same ↦
                  ap (λ (o : Option (Wrapped V)). or_passed o at) (cond-true (q == i) None (says i (p ++ q ∷ [])) (eq-eqb q i same))
                  ∙ laid_own_term i last k j (omega arith) within inside same
                  ∙ sym (cond-true (q == i) (own_term x p) (settled_at eq x (p ++ q ∷ [])) (eq-eqb q i same))
              | inr ne ↦
                  ap (λ (o : Option (Wrapped V)). or_passed o at) (cond-false (q == i) None (says i (p ++ q ∷ [])) (ne_eqb q i ne))
                  ∙ ap (or_passed (says i (p ++ q ∷ []))) (laid_push last k j (omega arith) within inside)
                  ∙ sym (settled_at_end eq x (p ++ q ∷ []) (omega (arith, listed.long, length_push p q)))
                  ∙ sym (cond-false (q == i) (own_term x p) (settled_at eq x (p ++ q ∷ [])) (ne_eqb q i ne))
            ]
