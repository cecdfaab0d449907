-- Convictions in a world in which an item is passed on, and an item that all hear as its commander says it.
use Rattle.std.proofs.Common.{ℕ, ◌≡◌, ◌≢◌, ◌<◌, ◌&&◌, Bool, true, false, not, List, [], ◌∷◌, refl, sym, ap, ap₂, ◌∙◌, inl, inr, arith, ne_eqb}
use Rattle.std.specs.Prelude.{Option}
use Rattle.std.proofs.lemmas.Bool.{cases_Bool, cases_lt, cond-true, cond-false, or_from, or_parts, eqb-false}
use Rattle.node_grid.specs.NodeSet.{has_id}
use Rattle.node_grid.specs.SetFacts.{count_members}
use Rattle.omh_paths.specs.declared.wrapped.Wrapped.{Wrapped}
use Rattle.omh_paths.specs.declared.wrapped.Wrapped.TheVariants.{Fault}
use Rattle.omh_paths.specs.Wrapped.{wrapped, IsExact}
use Rattle.omh_paths.specs.Paths.{outside, IsPath}
use Rattle.omh_paths.specs.PathLaws.{map_alike, all_outside, IsPath-push}
use Rattle.omh_paths.specs.Facts.{root}
use Rattle.omh.specs.Omh.{World, ear, own_term, settled}
use Rattle.equivocation.specs.Conviction.{is_convicted, relays_of, convicts}
use Rattle.equivocation.specs.ConvictionLaws.{unrelayed}
use Rattle.settled_paths.specs.Passing.{or_passed, passed, passing_world}
use Rattle.settled_paths.specs.Laws.{IsPassedOn}
use Rattle.odd_relays.specs.Chains.{IsPassedOn as IsPassedByOthers, relays_nothing, AreFew, IsToldAlike}
use Rattle.odd_relays.proofs.ChainLaws.{told_law}
use Rattle.odd_relays.proofs.Sparing.{spared_law}
use Rattle.settled_items.specs.Laws.{ConvictingLaw, IsToldAsIs, PlainLaw, PlainSparedLaw}

module _ {V : Type 0} (eq : V → V → Bool) (w : World V) (is_awake : ℕ → Bool) (c : ℕ) (full : List ℕ) (own : Wrapped V) (says : ℕ → List ℕ → Option (Wrapped V))
    (passes_on : IsPassedOn w is_awake c full own says) (member : has_id w.members c ≡ true) where
  abbrev made : World V
  made = passing_world w.rounds w.members full own says

  term_same : (q : ℕ) → has_id w.members q ≡ true → c ≢ q → own_term (ear w q) (c ∷ []) ≡ passed full own says (c ∷ q ∷ [])
  term_same q on ne =
      let same : w.is_full q ≡ has_id full q = passes_on.full_are q (inl on) in
      let heard : Wrapped V = or_passed (says q (c ∷ [])) own in
      elim (cases_Bool (has_id full q)) [
        | inl y ↦
            cond-true (w.is_full q) (wrapped (w.heard q (c ∷ []))) (Fault 0) (same ∙ y)
            ∙ ap wrapped (passes_on.told q (passes_on.awake q on (same ∙ y)) ne)
            ∙ sym (cond-true (has_id full q) (wrapped heard) (Fault 0) y)
        | inr n ↦
            cond-false (w.is_full q) (wrapped (w.heard q (c ∷ []))) (Fault 0) (same ∙ n)
            ∙ sym (cond-false (has_id full q) (wrapped heard) (Fault 0) n)
      ]

  module _ (i : ℕ) (awake : is_awake i ≡ true) (ne : c ≢ i) where
    relay_same : 0 < w.rounds → (q : ℕ) → has_id w.members q ≡ true → has_id (c ∷ i ∷ []) q ≡ false → w.heard i (c ∷ q ∷ []) ≡ made.heard i (c ∷ q ∷ [])
    relay_same some q on off =
        let p = or_parts _ _ off in let r = or_parts _ _ p.1 in
        let cq = eqb-false c q p.0 in let iq = eqb-false i q r.0 in
        let path : IsPath w.members w.rounds (c ∷ q ∷ []) = IsPath-push q (root c member) on (or_from _ _ (ne_eqb c q cq) refl) (omega arith) in
        let away : has_id (c ∷ q ∷ []) i ≡ false = or_from _ _ (ne_eqb c i ne) (or_from _ _ (ne_eqb q i (λ e. iq (sym e))) refl) in
        passes_on.relays [] q i path awake away ∙ ap (or_passed (says i (c ∷ q ∷ []))) (term_same q on cq)

    convicts_relayed : 0 < w.rounds → convicts eq (ear w i) c ≡ convicts eq (ear made i) c
    convicts_relayed some =
        ap₂ (λ (o : Wrapped V) (rs : List (Wrapped V)). is_convicted eq o rs (w.is_full i && has_id w.members i) w.rounds) (passes_on.told i awake ne)
        (map_alike (λ q. w.heard i (c ∷ q ∷ [])) (λ q. made.heard i (c ∷ q ∷ [])) (outside w.members (c ∷ i ∷ [])) (all_outside w.members (c ∷ i ∷ []) _ (relay_same some)))
        ∙ ap (λ (b : Bool). is_convicted eq (made.heard i (c ∷ [])) (relays_of (ear made i) c) (b && has_id w.members i) w.rounds) (passes_on.full_are i (inr awake))

    pub convicts_same : convicts eq (ear w i) c ≡ convicts eq (ear (passing_world w.rounds w.members full own says) i) c
    convicts_same = elim (cases_lt 0 w.rounds) [
      | inl some ↦ convicts_relayed some
      | inr none ↦
          unrelayed eq (w.heard i (c ∷ [])) (relays_of (ear w i) c) (w.is_full i && has_id w.members i) w.rounds (omega arith)
          ∙ sym (unrelayed eq (made.heard i (c ∷ [])) (relays_of (ear made i) c) (has_id full i && has_id w.members i) w.rounds (omega arith))
    ]

pub convicting_law : {V : Type 0} (eq : V → V → Bool) → ConvictingLaw eq
convicting_law eq w is_awake c full own says passes_on member i awake ne = convicts_same eq w is_awake c full own says passes_on member i awake ne

module _ {V : Type 0} (w : World V) (is_awake : ℕ → Bool) (c : ℕ) (full odd : List ℕ) (own : Wrapped V) (says : ℕ → List ℕ → Option (Wrapped V)) (as_is : IsToldAsIs w is_awake c full odd own says) where
  by_others : IsPassedByOthers w c odd is_awake
  by_others = record {
    distinct = as_is.distinct;
    full = as_is.passed_on.awake;
    relays = λ front q i path regular awake off.
        as_is.passed_on.relays front q i path awake off
        ∙ ap (λ (o : Option (Wrapped V)). or_passed o (own_term (ear w q) (c ∷ front))) (as_is.odd_heard front q i path regular awake off);
  }

  few : AreFew w odd
  few =
      let idle = count_members (λ q. relays_nothing w odd q) (λ q. not (has_id odd q) && not (has_id full q)) w.members (λ q on. ap (λ (b : Bool). not (has_id odd q) && not b) (as_is.passed_on.full_are q (inl on))) in
      omega (arith, as_is.few, idle)

  alike : IsToldAlike w is_awake c own
  alike k awake ne = as_is.passed_on.told k awake ne ∙ ap (λ (o : Option (Wrapped V)). or_passed o own) (as_is.as_is k awake ne)

  pub plain_settles : (eq : V → V → Bool) → IsExact eq → (i : ℕ) → is_awake i ≡ true → c ≢ i → settled eq w i (c ∷ []) ≡ own
  plain_settles eq exact i awake ne = told_law eq exact w c odd is_awake by_others few as_is.member own alike i awake ne

  pub plain_spares : (eq : V → V → Bool) → IsExact eq → (i : ℕ) → is_awake i ≡ true → c ≢ i → convicts eq (ear w i) c ≡ false
  plain_spares eq exact i awake ne = spared_law eq exact w c odd is_awake by_others few as_is.member own alike i awake ne

pub plain_law : {V : Type 0} (eq : V → V → Bool) → IsExact eq → PlainLaw eq
plain_law eq exact w is_awake c full odd own says as_is i awake ne = plain_settles w is_awake c full odd own says as_is eq exact i awake ne

pub spared : {V : Type 0} (eq : V → V → Bool) → IsExact eq → PlainSparedLaw eq
spared eq exact w is_awake c full odd own says as_is i awake ne = plain_spares w is_awake c full odd own says as_is eq exact i awake ne
