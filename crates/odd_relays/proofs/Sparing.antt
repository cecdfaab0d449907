-- A member that told all alike isn't convicted.
use Rattle.std.proofs.Common.{ℕ, ◌≡◌, ◌≢◌, ◌<◌, ◌≤◌, ◌+◌, ◌&&◌, Bool, true, false, not, nat_lt, List, [], ◌∷◌, map, length, refl, sym, ap, ◌∙◌, inl, inr, arith, ne_eqb, le-ltb}
use Rattle.std.specs.Prelude.{if◌then◌else◌}
use Rattle.std.specs.List.{AllByRecursion}
use Rattle.std.proofs.lemmas.Bool.{cases_Bool, cases_lt, cond-true, cond-false, or_from, or_parts, eqb-false}
use Rattle.node_grid.specs.NodeSet.{has_id}
use Rattle.node_grid.specs.Count.{bit, count, Distinct}
use Rattle.node_grid.specs.ListLaws.{bit_le}
use Rattle.node_grid.specs.SetFacts.{disagrees-present}
use Rattle.omh_paths.specs.declared.wrapped.Wrapped.{Wrapped}
use Rattle.omh_paths.specs.declared.wrapped.Wrapped.TheVariants.{Fault}
use Rattle.omh_paths.specs.Wrapped.{wrapped, same, IsExact}
use Rattle.omh_paths.specs.MajorityLaws.{is_error-wrapped}
use Rattle.omh_paths.specs.Paths.{outside}
use Rattle.omh_paths.specs.PathLaws.{count-outside, all_outside, IsPath-push}
use Rattle.omh_paths.specs.PathLists.{outside_nothing}
use Rattle.omh_paths.specs.Facts.{count_but_two, root}
use Rattle.omh.specs.Omh.{World, ear, own_term}
use Rattle.equivocation.specs.Conviction.{is_present, disagrees, tolerated, convicts}
use Rattle.equivocation.specs.ConvictionLaws.{agrees-wrapped, unrelayed}
use Rattle.odd_relays.specs.Chains.{IsPassedOn, relays_nothing, AreFew, IsToldAlike}
use Rattle.odd_relays.specs.Laws.{ToldSparedLaw}

-- whether q is Full and not odd
passes_on : {V : Type 0} → World V → List ℕ → ℕ → Bool
passes_on w odd q = not (has_id odd q) && w.is_full q

-- what one relay counts
one_relay : {V : Type 0} {eq : V → V → Bool} → IsExact eq → (own t : Wrapped V) (o f : Bool) → (o ≡ false → t ≡ (if f then wrapped own else Fault 0))
    → (bit (disagrees eq own t) ≤ bit o) × (bit (disagrees eq own t) + bit (not o && f) ≤ bit (is_present t))
one_relay {V} {eq} exact own t true f is = let a = bit_le (disagrees eq own t) in let b = disagrees-present (is_present t) (not (same eq t (wrapped own))) in (omega arith, omega arith)
one_relay {V} {eq} exact own t false true is =
    let e = is refl in
    let d : bit (disagrees eq own t) ≡ 0 = ap bit (ap (disagrees eq own) e ∙ agrees-wrapped exact own) in
    let p : bit (is_present t) ≡ 1 = ap bit (ap is_present e ∙ ap not (is_error-wrapped own)) in
    (omega arith, omega arith)
one_relay {V} {eq} exact own t false false is = let d : bit (disagrees eq own t) ≡ 0 = ap (λ (x : Wrapped V). bit (disagrees eq own x)) (is refl) in (omega arith, omega arith)

record RelayIs {V : Type 0} (w : World V) (odd : List ℕ) (own : Wrapped V) (relay : ℕ → Wrapped V) (q : ℕ) : Type 0 where
  as_told : has_id odd q ≡ false → relay q ≡ (if w.is_full q then wrapped own else Fault 0)

all_relays : {V : Type 0} {eq : V → V → Bool} → IsExact eq → (w : World V) (odd : List ℕ) (own : Wrapped V) (relay : ℕ → Wrapped V) (qs : List ℕ) → AllByRecursion (RelayIs w odd own relay) qs
    → (count (disagrees eq own) (map relay qs) ≤ count (λ q. has_id odd q) qs)
    × (count (disagrees eq own) (map relay qs) + count (passes_on w odd) qs ≤ count is_present (map relay qs))
unfolding passes_on
all_relays exact w odd own relay [] h = (omega arith, omega arith)
all_relays exact w odd own relay (q ∷ qs) h =
    let here = one_relay exact own (relay q) (has_id odd q) (w.is_full q) h.0.as_told in
    let rest = all_relays exact w odd own relay qs h.1 in
    let a = here.0 in let b = here.1 in let c = rest.0 in let d = rest.1 in
    (omega arith, omega arith)

-- each member is odd, is idle or passes on what it heard
kinds : (o f : Bool) → bit o + bit (not o && not f) + bit (not o && f) ≡ 1
kinds true f = refl
kinds false true = refl
kinds false false = refl

all_kinds : {V : Type 0} (w : World V) (odd qs : List ℕ) → count (λ q. has_id odd q) qs + count (λ q. relays_nothing w odd q) qs + count (passes_on w odd) qs ≡ length qs
unfolding passes_on
all_kinds w odd [] = refl
all_kinds w odd (q ∷ qs) = let here = kinds (has_id odd q) (w.is_full q) in let rest = all_kinds w odd qs in omega arith

-- the members but c, and those but c and i
but_one : (test : ℕ → Bool) (members : List ℕ) (c : ℕ) → Distinct members → count test (outside members (c ∷ [])) + bit (has_id members c && test c) ≡ count test members
but_one test members c d = let e = count-outside test members [] c d refl in let g = ap (count test) (outside_nothing members) in omega arith

voice : (on o f : Bool) → bit (on && (not o && f)) ≤ bit (f && on)
voice true true f = omega arith
voice true false true = omega arith
voice true false false = omega arith
voice false o f = omega arith

at_most : (on t : Bool) → bit (on && t) ≤ 1
at_most on t = bit_le (on && t)

module _ {V : Type 0} (eq : V → V → Bool) (exact : IsExact eq) (w : World V) (c : ℕ) (odd : List ℕ) (is_awake : ℕ → Bool) (passed : IsPassedOn w c odd is_awake) (few : AreFew w odd)
    (i : ℕ) (v : Wrapped V) (member : has_id w.members c ≡ true) (alike : IsToldAlike w is_awake c v) (awake : is_awake i ≡ true) (ne : c ≢ i) where
  abbrev own : Wrapped V
  own = w.heard i (c ∷ [])

  abbrev relay : ℕ → Wrapped V
  relay q = w.heard i (c ∷ q ∷ [])

  abbrev voices : List ℕ
  voices = outside w.members (c ∷ i ∷ [])

  told_own : (q : ℕ) → is_awake q ≡ true → c ≢ q → w.heard q (c ∷ []) ≡ own
  told_own q ak apart = alike q ak apart ∙ sym (alike i awake ne)

  term_told : (q : ℕ) → has_id w.members q ≡ true → c ≢ q → own_term (ear w q) (c ∷ []) ≡ (if w.is_full q then wrapped own else Fault 0)
  term_told q on apart = elim (cases_Bool (w.is_full q)) [
    | inl f ↦ cond-true _ _ _ f ∙ ap wrapped (told_own q (passed.full q on f) apart) ∙ sym (cond-true _ _ _ f)
    | inr n ↦ cond-false _ _ _ n ∙ sym (cond-false _ _ _ n)
  ]

  relays_are : 0 < w.rounds → AllByRecursion (RelayIs w odd own relay) voices
  relays_are some = all_outside w.members (c ∷ i ∷ []) _ (λ q on off.
      let p = or_parts _ _ off in let r = or_parts _ _ p.1 in
      let cq = eqb-false c q p.0 in let iq = eqb-false i q r.0 in
      record {
        as_told = λ regular.
            passed.relays [] q i (IsPath-push q (root c member) on (or_from _ _ (ne_eqb c q cq) refl) (omega arith)) regular awake
            (or_from _ _ (ne_eqb c i ne) (or_from _ _ (ne_eqb q i (λ e. iq (sym e))) refl))
            ∙ term_told q on cq;
      })

  spared_relayed : 0 < w.rounds → convicts eq (ear w i) c ≡ false
  unfolding passes_on
  spared_relayed some =
      let r = all_relays exact w odd own relay voices (relays_are some) in
      let a = r.0 in let b = r.1 in
      let k = all_kinds w odd w.members in
      let o1 = but_one (λ q. has_id odd q) w.members c passed.distinct in
      let o2 = count_but_two (λ q. has_id odd q) w.members c i passed.distinct ne in
      let e1 = but_one (passes_on w odd) w.members c passed.distinct in
      let e2 = count_but_two (passes_on w odd) w.members c i passed.distinct ne in
      let s = voice (has_id w.members i) (has_id odd i) (w.is_full i) in
      let t = at_most (has_id w.members c) (passes_on w odd c) in
      let l : count (disagrees eq own) (map relay voices) ≤ tolerated (count is_present (map relay voices) + bit (w.is_full i && has_id w.members i)) w.rounds = omega (arith, few) in
      ap (λ b. nat_lt 0 w.rounds && b) (le-ltb _ _ l) ∙ last (nat_lt 0 w.rounds)
    where
      last : (b : Bool) → (b && false) ≡ false
      last true = refl
      last false = refl

  spared : convicts eq (ear w i) c ≡ false
  spared = elim (cases_lt 0 w.rounds) [
    | inl some ↦ spared_relayed some
    | inr none ↦ unrelayed eq own (map relay voices) (w.is_full i && has_id w.members i) w.rounds (omega arith)
  ]

pub spared_law : {V : Type 0} (eq : V → V → Bool) → IsExact eq → ToldSparedLaw eq
spared_law eq exact w c odd is_awake passed few member v alike i awake ne = spared eq exact w c odd is_awake passed few i v member alike awake ne
