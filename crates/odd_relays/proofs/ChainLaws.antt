-- Where few members' relays are odd, a relayed path whose last node isn't odd settles as it was heard.
use Rattle.std.proofs.Common.{ℕ, zero, suc, ◌≡◌, ◌≢◌, ◌≤◌, ◌+◌, ◌-◌, ◌*◌, ◌==◌, ◌&&◌, ◌||◌, Bool, true, false, not, List, [], ◌∷◌, ◌++◌, map, length, refl, sym, ap, ◌∙◌, inl, inr, arith, eqb-true, eq-eqb, ne_eqb}
use Rattle.std.specs.Prelude.{filter, if◌then◌else◌}
use Rattle.std.proofs.lemmas.Bool.{cases_Bool, cases_eq, cond-true, cond-false, or_from, or_right}
use Rattle.std.proofs.lemmas.List.{length_push}
use Rattle.node_grid.specs.NodeSet.{has_id}
use Rattle.node_grid.specs.Count.{bit, count, Distinct}
use Rattle.node_grid.specs.declared.class.Class.{Class}
use Rattle.node_grid.specs.declared.class.Class.TheVariants.{N, J, A}
use Rattle.node_grid.specs.Class.{is_silent, is_symmetric, is_asymmetric, IsEnough}
use Rattle.node_grid.specs.NumberFacts.{not_itself}
use Rattle.omh_paths.specs.declared.wrapped.Wrapped.{Wrapped}
use Rattle.omh_paths.specs.Wrapped.{wrapped, unwrapped, IsExact}
use Rattle.omh_paths.specs.Majority.{majority}
use Rattle.omh_paths.specs.MajorityLaws.{unwrapped-wrapped, is_error-wrapped}
use Rattle.omh_paths.specs.Paths.{outside, IsPath}
use Rattle.omh_paths.specs.PathLaws.{off_from, off_longer, IsPath-push, all_outside, map_alike}
use Rattle.omh_paths.specs.PathLists.{length-outside}
use Rattle.node_grid.specs.ListLaws.{has_push}
use Rattle.omh_paths.specs.Facts.{root}
use Rattle.omh.specs.Omh.{World, ear, own_term, settled_within, counted_nodes}
use Rattle.omh.specs.Counting.{TermFits, majority_of_terms, more_outside, enough_longer}
use Rattle.omh.specs.Settling.{own_joining, own_nonfaulty, term_of}
use Rattle.odd_relays.specs.Chains.{IsPassedOn, relays_nothing, AreFew, chain_within}
use Rattle.odd_relays.specs.Laws.{ChainLaw, RegularLaw, ToldLaw}

-- ---- the classes of the members as one receiver sees them: it trusts itself

abbrev class_by : Bool → Bool → Class
class_by odd full = if odd then A else (if full then N else J)

by_nonfaulty : (o f : Bool) → class_by o f ≡ N → (o ≡ false) × (f ≡ true)
by_nonfaulty true f h = absurd (cc)
by_nonfaulty false true h = (refl, refl)
by_nonfaulty false false h = absurd (cc)

by_silent : (o f : Bool) → is_silent (class_by o f) ≡ true → (o ≡ false) × (f ≡ false)
by_silent true f h = absurd (cc)
by_silent false true h = absurd (cc)
by_silent false false h = (refl, refl)

pub seat : {V : Type 0} → World V → List ℕ → ℕ → ℕ → Class
seat w odd i q = class_by (has_id odd q && not (q == i)) (w.is_full q)

weight : (o m f : Bool) → 2 * bit (is_asymmetric (class_by (o && m) f)) + 2 * bit (is_symmetric (class_by (o && m) f)) + bit (is_silent (class_by (o && m) f)) ≤ 2 * bit o + bit (not o && not f)
weight true true true = omega arith
weight true true false = omega arith
weight true false true = omega arith
weight true false false = omega arith
weight false true true = omega arith
weight false true false = omega arith
weight false false true = omega arith
weight false false false = omega arith

weights : {V : Type 0} (w : World V) (odd : List ℕ) (i : ℕ) (qs : List ℕ)
    → 2 * count (λ q. is_asymmetric (seat w odd i q)) qs + 2 * count (λ q. is_symmetric (seat w odd i q)) qs + count (λ q. is_silent (seat w odd i q)) qs
    ≤ 2 * count (λ q. has_id odd q) qs + count (λ q. relays_nothing w odd q) qs
unfolding seat
weights w odd i [] = omega arith
weights w odd i (q ∷ qs) = let here = weight (has_id odd q) (not (q == i)) (w.is_full q) in let rest = weights w odd i qs in omega arith

-- a member and those outside a path that it is on are no more than all members
fewer : (test f : ℕ → Bool) (xs : List ℕ) → count test (filter f xs) ≤ count test xs
fewer test f [] = omega arith
fewer test f (x ∷ xs) =
    let rest = fewer test f xs in
    elim (cases_Bool (f x)) [
      | inl keeps ↦ let e = ap (count test) (cond-true (f x) (x ∷ filter f xs) (filter f xs) keeps) in omega arith
      | inr drops ↦ let e = ap (count test) (cond-false (f x) (x ∷ filter f xs) (filter f xs) drops) in omega arith
    ]

pub left_out : (test f : ℕ → Bool) (xs : List ℕ) (y : ℕ) → has_id xs y ≡ true → f y ≡ false → bit (test y) + count test (filter f xs) ≤ count test xs
left_out test f [] y on off = absurd (cc)
left_out test f (x ∷ xs) y on off =
    elim (cases_Bool (x == y)) [
      | inl here ↦
          let e : x ≡ y = eqb-true x y here in
          let k : bit (test x) ≡ bit (test y) = ap (λ (z : ℕ). bit (test z)) e in
          let d = ap (count test) (cond-false (f x) (x ∷ filter f xs) (filter f xs) (ap f e ∙ off)) in
          let rest = fewer test f xs in
          omega arith
      | inr other ↦
          let rest = left_out test f xs y (ap (λ (b : Bool). b || has_id xs y) (sym other) ∙ on) off in
          elim (cases_Bool (f x)) [
            | inl keeps ↦ let d = ap (count test) (cond-true (f x) (x ∷ filter f xs) (filter f xs) keeps) in omega arith
            | inr drops ↦ let d = ap (count test) (cond-false (f x) (x ∷ filter f xs) (filter f xs) drops) in omega arith
          ]
    ]

-- so each path has enough members outside it
pub enough_at : {V : Type 0} (w : World V) (odd : List ℕ) (i : ℕ) (front : List ℕ) (last r : ℕ) → Distinct w.members → AreFew w odd → IsPath w.members w.rounds (front ++ last ∷ [])
    → r + length (front ++ last ∷ []) ≡ w.rounds + 1 → IsEnough (seat w odd i) (counted_nodes w.members front last) r
enough_at w odd i front last r distinct few path long =
    let p : List ℕ = front ++ last ∷ [] in
    let on : has_id p last ≡ true = has_push front last last ∙ or_right (has_id front last) (last == last) (eq-eqb last last refl) in
    let off : not (has_id p last) ≡ false = ap not on in
    let member = path.within last on in
    let a = left_out (λ q. is_asymmetric (seat w odd i q)) (λ q. not (has_id p q)) w.members last member off in
    let s = left_out (λ q. is_symmetric (seat w odd i q)) (λ q. not (has_id p q)) w.members last member off in
    let b = left_out (λ q. is_silent (seat w odd i q)) (λ q. not (has_id p q)) w.members last member off in
    let all = weights w odd i w.members in
    let left = length-outside w.members p distinct path.distinct path.within in
    omega (arith, few)

-- ---- the terms of a majority

settled_now : {V : Type 0} (eq : V → V → Bool) (w : World V) (i : ℕ) (path : List ℕ) → settled_within eq (ear w i) 0 path ≡ w.heard i path
unfolding settled_within
settled_now eq w i path = refl

settled_later : {V : Type 0} (eq : V → V → Bool) (w : World V) (r i : ℕ) (path : List ℕ)
    → settled_within eq (ear w i) (suc r) path ≡ unwrapped (majority eq (map (term_of eq w r i path) (outside w.members path)))
unfolding settled_within term_of
settled_later eq w r i path = refl

term_own : {V : Type 0} (eq : V → V → Bool) (w : World V) (r i : ℕ) (path : List ℕ) (q : ℕ) → q ≡ i → term_of eq w r i path q ≡ own_term (ear w q) path
unfolding term_of
term_own eq w r i path q e = cond-true _ _ _ (eq-eqb q i e) ∙ ap (λ (k : ℕ). own_term (ear w k) path) (sym e)

term_other : {V : Type 0} (eq : V → V → Bool) (w : World V) (r i : ℕ) (path : List ℕ) (q : ℕ) → q ≢ i → term_of eq w r i path q ≡ settled_within eq (ear w i) r (path ++ q ∷ [])
unfolding term_of
term_other eq w r i path q ne = cond-false _ _ _ (ne_eqb q i ne)

pub chain_term : {V : Type 0} → (V → V → Bool) → World V → List ℕ → ℕ → ℕ → List ℕ → ℕ → Wrapped V
chain_term eq w odd r i path q = if has_id odd q && not (q == i) then chain_within eq w odd i r (path ++ q ∷ []) else own_term (ear w q) path

pub chain_now : {V : Type 0} (eq : V → V → Bool) (w : World V) (odd : List ℕ) (i : ℕ) (path : List ℕ) → chain_within eq w odd i 0 path ≡ w.heard i path
unfolding chain_within
chain_now eq w odd i path = refl

pub chain_later : {V : Type 0} (eq : V → V → Bool) (w : World V) (odd : List ℕ) (r i : ℕ) (path : List ℕ)
    → chain_within eq w odd i (suc r) path ≡ unwrapped (majority eq (map (chain_term eq w odd r i path) (outside w.members path)))
unfolding chain_within chain_term
chain_later eq w odd r i path = refl

pub chain_base : {V : Type 0} (eq : V → V → Bool) (w : World V) (odd : List ℕ) (r i : ℕ) (path : List ℕ) (q : ℕ) → (has_id odd q && not (q == i)) ≡ false → chain_term eq w odd r i path q ≡ own_term (ear w q) path
unfolding chain_term
chain_base eq w odd r i path q e = cond-false _ _ _ e

pub chain_odd : {V : Type 0} (eq : V → V → Bool) (w : World V) (odd : List ℕ) (r i : ℕ) (path : List ℕ) (q : ℕ) → (has_id odd q && not (q == i)) ≡ true → chain_term eq w odd r i path q ≡ chain_within eq w odd i r (path ++ q ∷ [])
unfolding chain_term
chain_odd eq w odd r i path q e = cond-true _ _ _ e

-- of another member than the receiver the class says whether it is odd
regular_other : (o : Bool) (q i : ℕ) → q ≢ i → (o && not (q == i)) ≡ false → o ≡ false
regular_other o q i ne h = by_not o (not (q == i)) (ap not (ne_eqb q i ne)) h where
  by_not : (o m : Bool) → m ≡ true → (o && m) ≡ false → o ≡ false
  by_not true true e h = h
  by_not true false e h = cc
  by_not false m e h = refl

odd_other : (o : Bool) (q i : ℕ) → q ≢ i → o ≡ true → (o && not (q == i)) ≡ true
odd_other o q i ne h = ap (λ (b : Bool). b && not (q == i)) h ∙ ap not (ne_eqb q i ne)

pub no_more : (o : Bool) (q i : ℕ) → o ≡ false → (o && not (q == i)) ≡ false
no_more o q i e = ap (λ (b : Bool). b && not (q == i)) e

module _ {V : Type 0} (eq : V → V → Bool) (exact : IsExact eq) (w : World V) (c : ℕ) (odd : List ℕ) (is_awake : ℕ → Bool) (passed : IsPassedOn w c odd is_awake) (i : ℕ) (awake : is_awake i ≡ true) where
  -- all nodes that are awake and off the path heard the same for it as node i
  abbrev IsAlike : List ℕ → Type 0
  IsAlike path = (k : ℕ) → is_awake k ≡ true → has_id path k ≡ false → w.heard k path ≡ w.heard i path

  alike_regular : (back : List ℕ) (q : ℕ) → IsPath w.members w.rounds (c ∷ (back ++ q ∷ [])) → has_id odd q ≡ false → has_id (c ∷ (back ++ q ∷ [])) i ≡ false → IsAlike (c ∷ (back ++ q ∷ []))
  alike_regular back q grown regular off k ak ok = passed.relays back q k grown regular ak ok ∙ sym (passed.relays back q i grown regular awake off)

  pub as_heard : (r : ℕ) (back : List ℕ) (last : ℕ) → IsPath w.members w.rounds (c ∷ back) → r + length (c ∷ back) ≡ w.rounds + 1 → has_id (c ∷ back) i ≡ false → IsAlike (c ∷ back)
      → IsEnough (seat w odd i) (last ∷ outside w.members (c ∷ back)) r
      → settled_within eq (ear w i) r (c ∷ back) ≡ w.heard i (c ∷ back)
  unfolding seat
  as_heard zero back last path long off alike enough = settled_now eq w i (c ∷ back)
  as_heard (suc r) back last path long off alike enough =
      let p : List ℕ = c ∷ back in
      let grown = λ (q : ℕ) (member : has_id w.members q ≡ true) (offp : has_id p q ≡ false). IsPath-push q path member offp (omega arith) in
      let longer : (q : ℕ) → r + length (c ∷ (back ++ q ∷ [])) ≡ w.rounds + 1 = λ q. omega (arith, length_push back q) in
      let base : (q : ℕ) → has_id w.members q ≡ true → has_id p q ≡ false → (has_id odd q && not (q == i)) ≡ false → term_of eq w r i p q ≡ own_term (ear w q) p =
      λ q member offp regular. elim (cases_eq q i) [
        | inl e ↦ term_own eq w r i p q e
        | inr ne ↦
            let good = regular_other (has_id odd q) q i ne regular in
            let away = off_from p q i off ne in
            term_other eq w r i p q ne
            ∙ as_heard r (back ++ q ∷ []) q (grown q member offp) (longer q) away (alike_regular back q (grown q member offp) good away)
            (enough_longer (seat w odd i) w.members p last q r passed.distinct member offp enough)
            ∙ passed.relays back q i (grown q member offp) good awake away
      ]
      in
      let at : (q : ℕ) → has_id w.members q ≡ true → has_id p q ≡ false → TermFits (seat w odd i) (term_of eq w r i p) (wrapped (w.heard i p)) q =
      λ q member offp. record {
        says = λ n. let b = by_nonfaulty (has_id odd q && not (q == i)) (w.is_full q) n in
            base q member offp b.0 ∙ own_nonfaulty w q p b.1 ∙ ap wrapped (alike q (passed.full q member b.1) offp);
        silent = λ s. let b = by_silent (has_id odd q && not (q == i)) (w.is_full q) s in base q member offp b.0 ∙ own_joining w q p b.1;
      }
      in
      settled_later eq w r i p
      ∙ ap unwrapped (majority_of_terms exact (seat w odd i) (term_of eq w r i p) (wrapped (w.heard i p)) (is_error-wrapped (w.heard i p)) (outside w.members p) (all_outside w.members p _ at)
      (let more = more_outside (seat w odd i) last (outside w.members p) r enough in omega arith))
      ∙ unwrapped-wrapped (w.heard i p)

  pub by_chains : (r : ℕ) (back : List ℕ) (last : ℕ) → IsPath w.members w.rounds (c ∷ back) → r + length (c ∷ back) ≡ w.rounds + 1 → has_id (c ∷ back) i ≡ false
      → IsEnough (seat w odd i) (last ∷ outside w.members (c ∷ back)) r
      → settled_within eq (ear w i) r (c ∷ back) ≡ chain_within eq w odd i r (c ∷ back)
  by_chains zero back last path long off enough = settled_now eq w i (c ∷ back) ∙ sym (chain_now eq w odd i (c ∷ back))
  by_chains (suc r) back last path long off enough =
      let p : List ℕ = c ∷ back in
      let at : (q : ℕ) → has_id w.members q ≡ true → has_id p q ≡ false → term_of eq w r i p q ≡ chain_term eq w odd r i p q =
      λ q member offp.
      let grown = IsPath-push q path member offp (omega arith) in
      let longer : r + length (c ∷ (back ++ q ∷ [])) ≡ w.rounds + 1 = omega (arith, length_push back q) in
      let enough_for_it = enough_longer (seat w odd i) w.members p last q r passed.distinct member offp enough in
      elim (cases_eq q i) [
        | inl e ↦ term_own eq w r i p q e ∙ sym (chain_base eq w odd r i p q (not_itself (has_id odd q) q i e))
        | inr ne ↦
            let away = off_from p q i off ne in
            elim (cases_Bool (has_id odd q)) [
              | inl on ↦ term_other eq w r i p q ne ∙ by_chains r (back ++ q ∷ []) q grown longer away enough_for_it
                  ∙ sym (chain_odd eq w odd r i p q (odd_other (has_id odd q) q i ne on))
              | inr regular ↦ term_other eq w r i p q ne
                  ∙ as_heard r (back ++ q ∷ []) q grown longer away (alike_regular back q grown regular away) enough_for_it
                  ∙ passed.relays back q i grown regular awake away
                  ∙ sym (chain_base eq w odd r i p q (no_more (has_id odd q) q i regular))
            ]
      ]
      in
      settled_later eq w r i p
      ∙ ap (λ (ts : List (Wrapped V)). unwrapped (majority eq ts)) (map_alike (term_of eq w r i p) (chain_term eq w odd r i p) (outside w.members p) (all_outside w.members p _ at))
      ∙ sym (chain_later eq w odd r i p)

-- ---- the laws, as the specs state them

pub chain_law : {V : Type 0} (eq : V → V → Bool) → IsExact eq → ChainLaw eq
chain_law eq exact w c odd is_awake passed few member i awake ne =
    let e : w.rounds + 1 - length (c ∷ []) ≡ w.rounds = omega arith in
    ap (λ (n : ℕ). settled_within eq (ear w i) n (c ∷ [])) e
    ∙ by_chains eq exact w c odd is_awake passed i awake w.rounds [] c (root c member) (omega arith) (or_from _ _ (ne_eqb c i ne) refl)
    (enough_at w odd i [] c w.rounds passed.distinct few (root c member) (omega arith))

pub told_law : {V : Type 0} (eq : V → V → Bool) → IsExact eq → ToldLaw eq
told_law eq exact w c odd is_awake passed few member v alike i awake ne =
    let e : w.rounds + 1 - length (c ∷ []) ≡ w.rounds = omega arith in
    ap (λ (n : ℕ). settled_within eq (ear w i) n (c ∷ [])) e
    ∙ as_heard eq exact w c odd is_awake passed i awake w.rounds [] c (root c member) (omega arith) (or_from _ _ (ne_eqb c i ne) refl)
    (λ k ak off. alike k ak (off_longer [] c k off).1 ∙ sym (alike i awake ne))
    (enough_at w odd i [] c w.rounds passed.distinct few (root c member) (omega arith))
    ∙ alike i awake ne

pub regular_law : {V : Type 0} (eq : V → V → Bool) → IsExact eq → RegularLaw eq
regular_law eq exact w c odd is_awake passed few front last i path regular awake off =
    let r : ℕ = w.rounds + 1 - length (c ∷ (front ++ last ∷ [])) in
    let short = path.short in
    let long : r + length (c ∷ (front ++ last ∷ [])) ≡ w.rounds + 1 = omega arith in
    as_heard eq exact w c odd is_awake passed i awake r (front ++ last ∷ []) last path long off (alike_regular eq exact w c odd is_awake passed i awake front last path regular off)
    (enough_at w odd i (c ∷ front) last r passed.distinct few path long)

-- where no member but the commander is odd, all settle one value
pub chain_common : {V : Type 0} (eq : V → V → Bool) (w : World V) (odd : List ℕ) (c i j r : ℕ) → ((q : ℕ) → has_id odd q ≡ true → q ≡ c) → chain_within eq w odd i (suc r) (c ∷ []) ≡ chain_within eq w odd j (suc r) (c ∷ [])
chain_common {V} eq w odd c i j r only =
    let regular : (q : ℕ) → has_id (c ∷ []) q ≡ false → has_id odd q ≡ false =
    λ q off. elim (cases_Bool (has_id odd q)) [
      | inr h ↦ h
      | inl on ↦ absurd ((off_longer [] c q off).1 (sym (only q on)))
    ]
    in
    let base : (k q : ℕ) → has_id (c ∷ []) q ≡ false → chain_term eq w odd r k (c ∷ []) q ≡ own_term (ear w q) (c ∷ []) =
    λ k q off. chain_base eq w odd r k (c ∷ []) q (no_more (has_id odd q) q k (regular q off))
    in
    chain_later eq w odd r i (c ∷ [])
    ∙ ap (λ (ts : List (Wrapped V)). unwrapped (majority eq ts))
    (map_alike (chain_term eq w odd r i (c ∷ [])) (chain_term eq w odd r j (c ∷ [])) (outside w.members (c ∷ [])) (all_outside w.members (c ∷ []) _ (λ q on off. base i q off ∙ sym (base j q off))))
    ∙ sym (chain_later eq w odd r j (c ∷ []))
