-- The direct relays of an item, counted in two parts: those of members that aren't odd, and those of the others.
use Rattle.std.proofs.Common.{ℕ, ◌≡◌, ◌≢◌, ◌≤◌, ◌+◌, ◌==◌, ◌&&◌, ◌||◌, Bool, true, false, not, nat_lt, List, [], ◌∷◌, map, length, refl, sym, ap, ap₂, ◌∙◌, inl, inr, arith, eqb-true, eq-eqb, ne_eqb}
use Rattle.std.specs.Prelude.{slice_index_or}
use Rattle.std.specs.List.{filter}
use Rattle.std.proofs.lemmas.Bool.{cases_Bool, cases_eq, cond-true, cond-false, or_left, or_right, and_parts}
use Rattle.node_grid.specs.NodeSet.{has_id, without_id, minus_of, common_of}
use Rattle.node_grid.specs.Count.{bit, count, Distinct}
use Rattle.node_grid.specs.ListLaws.{bit_le}
use Rattle.node_grid.specs.SetFacts.{count_members}
use Rattle.omh_paths.specs.declared.wrapped.Wrapped.{Wrapped}
use Rattle.omh_paths.specs.declared.wrapped.Wrapped.TheVariants.{Fault}
use Rattle.omh_paths.specs.Wrapped.{wrapped, IsExact}
use Rattle.omh_paths.specs.MajorityLaws.{is_error-wrapped}
use Rattle.omh_paths.specs.Paths.{outside}
use Rattle.omh_paths.specs.PathLaws.{count-outside}
use Rattle.omh_paths.specs.PathLists.{Distinct-filter}
use Rattle.equivocation.specs.Conviction.{is_present, disagrees, tolerated}
use Rattle.equivocation.specs.ConvictionLaws.{agrees-wrapped}
use Rattle.odd_relays.specs.Telling.{Telling, convicts_commander}
use Rattle.odd_relays.specs.Voices.{regular_relay, regular_members, odd_members, IsCounted}
use Rattle.odd_relays.specs.declared.convicting.Voices.{Voices}
use Rattle.odd_relays.proofs.Direct.{relay_of, relay_odd, relay_regular, convicts_by}

-- ---- counts over a part of a list

count_where : (test f : ℕ → Bool) (xs : List ℕ) → count test (filter f xs) ≡ count (λ q. f q && test q) xs
count_where test f [] = refl
count_where test f (x ∷ xs) =
    let rest = count_where test f xs in
    elim (cases_Bool (f x)) [
      | inl keeps ↦ let e = ap (count test) (cond-true (f x) (x ∷ filter f xs) (filter f xs) keeps) in let k : bit (f x && test x) ≡ bit (test x) = ap (λ (b : Bool). bit (b && test x)) keeps in omega arith
      | inr drops ↦ let e = ap (count test) (cond-false (f x) (x ∷ filter f xs) (filter f xs) drops) in let k : bit (f x && test x) ≡ 0 = ap (λ (b : Bool). bit (b && test x)) drops in omega arith
    ]

count_both : (a b d : ℕ → Bool) (xs : List ℕ) → ((q : ℕ) → has_id xs q ≡ true → bit (a q) ≡ bit (b q) + bit (d q)) → count a xs ≡ count b xs + count d xs
count_both a b d [] h = refl
count_both a b d (x ∷ xs) h =
    let here = h x (or_left (x == x) (has_id xs x) (eq-eqb x x refl)) in
    let rest = count_both a b d xs (λ q on. h q (or_right (x == q) (has_id xs q) on)) in
    omega arith

count_map : {X : Type 0} (f : X → Bool) (g : ℕ → X) (xs : List ℕ) → count f (map g xs) ≡ count (λ q. f (g q)) xs
count_map f g [] = refl
count_map f g (x ∷ xs) = omega (arith, count_map f g xs)

pub count_few : (test : ℕ → Bool) (xs : List ℕ) → count test xs ≤ length xs
count_few test [] = omega arith
count_few test (x ∷ xs) = omega (arith, count_few test xs, bit_le (test x))

pub kept_short : (f : ℕ → Bool) (xs : List ℕ) → length (filter f xs) ≤ length xs
kept_short f [] = omega arith
kept_short f (x ∷ xs) =
    let rest = kept_short f xs in
    elim (cases_Bool (f x)) [
      | inl keeps ↦ let e = ap length (cond-true (f x) (x ∷ filter f xs) (filter f xs) keeps) in omega arith
      | inr drops ↦ let e = ap length (cond-false (f x) (x ∷ filter f xs) (filter f xs) drops) in omega arith
    ]

count_without : (test : ℕ → Bool) (xs : List ℕ) (i : ℕ) → Distinct xs → count test (without_id xs i) + bit (has_id xs i && test i) ≡ count test xs
count_without test [] i d = refl
count_without test (x ∷ xs) i d =
    let rest = count_without test xs i d.1 in
    let f : ℕ → Bool = λ q. not (q == i) in
    elim (cases_Bool (x == i)) [
      | inl here ↦
          let e : x ≡ i = eqb-true x i here in
          let a = ap (count test) (cond-false (f x) (x ∷ filter f xs) (filter f xs) (ap not here)) in
          let b : bit ((x == i || has_id xs i) && test i) ≡ bit (test i) = ap (λ (b : Bool). bit ((b || has_id xs i) && test i)) here in
          let k : bit (has_id xs i && test i) ≡ 0 = ap (λ (b : Bool). bit (b && test i)) (ap (has_id xs) (sym e) ∙ d.0) in
          let t : bit (test x) ≡ bit (test i) = ap (λ (y : ℕ). bit (test y)) e in
          omega arith
      | inr other ↦
          let a = ap (count test) (cond-true (f x) (x ∷ filter f xs) (filter f xs) (ap not other)) in
          let b : bit ((x == i || has_id xs i) && test i) ≡ bit (has_id xs i && test i) = ap (λ (b : Bool). bit ((b || has_id xs i) && test i)) other in
          omega arith
    ]

pub has_kept : (f : ℕ → Bool) (xs : List ℕ) (q : ℕ) → has_id (filter f xs) q ≡ (has_id xs q && f q)
has_kept f [] q = refl
has_kept f (x ∷ xs) q =
    let rest = has_kept f xs q in
    elim (cases_Bool (f x)) [
      | inl keeps ↦ ap (λ (ys : List ℕ). has_id ys q) (cond-true (f x) (x ∷ filter f xs) (filter f xs) keeps) ∙ ap (λ (b : Bool). (x == q) || b) rest
          ∙ elim (cases_Bool (x == q)) [
            | inl here ↦ ap (λ (b : Bool). b || (has_id xs q && f q)) here ∙ sym (ap (λ (b : Bool). (b || has_id xs q) && f q) here ∙ ap f (sym (eqb-true x q here)) ∙ keeps)
            | inr other ↦ ap (λ (b : Bool). b || (has_id xs q && f q)) other ∙ sym (ap (λ (b : Bool). (b || has_id xs q) && f q) other)
          ]
      | inr drops ↦ ap (λ (ys : List ℕ). has_id ys q) (cond-false (f x) (x ∷ filter f xs) (filter f xs) drops) ∙ rest
          ∙ elim (cases_Bool (x == q)) [
            | inl here ↦
                let no : f q ≡ false = ap f (sym (eqb-true x q here)) ∙ drops in
                ap (λ (b : Bool). has_id xs q && b) no ∙ none (has_id xs q) ∙ sym (ap (λ (b : Bool). (b || has_id xs q) && f q) here ∙ no)
            | inr other ↦ sym (ap (λ (b : Bool). (b || has_id xs q) && f q) other)
          ]
    ]
  where
    none : (b : Bool) → (b && false) ≡ false
    none true = refl
    none false = refl

-- ---- the two parts

split_bit : (o u : Bool) → bit u ≡ bit (not o && u) + bit (o && u)
split_bit true u = omega arith
split_bit false u = omega arith

bits_turned : (a b : Bool) → bit (a && b) ≡ bit (b && a)
bits_turned true true = refl
bits_turned true false = refl
bits_turned false true = refl
bits_turned false false = refl

module _ {V : Type 0} (t : Telling V) where
  has_regular : (q : ℕ) → has_id (regular_members t) q ≡ ((has_id t.members q && not (has_id t.odd q)) && not (q == t.commander))
  has_regular q = has_kept (λ k. not (k == t.commander)) (minus_of t.members t.odd) q ∙ ap (λ (b : Bool). b && not (q == t.commander)) (has_kept (λ k. not (has_id t.odd k)) t.members q)

  pub has_odd : (q : ℕ) → has_id (odd_members t) q ≡ ((has_id t.members q && has_id t.odd q) && not (q == t.commander))
  has_odd q = has_kept (λ k. not (k == t.commander)) (common_of t.members t.odd) q ∙ ap (λ (b : Bool). b && not (q == t.commander)) (has_kept (λ k. has_id t.odd k) t.members q)

  pub odd_on : (q : ℕ) → has_id (odd_members t) q ≡ true → has_id t.odd q ≡ true
  odd_on q on = (and_parts (has_id t.members q) (has_id t.odd q) (and_parts (has_id t.members q && has_id t.odd q) (not (q == t.commander)) (sym (has_odd q) ∙ on)).0).1

  regular_off : (q : ℕ) → has_id (regular_members t) q ≡ true → has_id t.odd q ≡ false
  regular_off q on = turned (has_id t.odd q) (and_parts (has_id t.members q) (not (has_id t.odd q)) (and_parts (has_id t.members q && not (has_id t.odd q)) (not (q == t.commander)) (sym (has_regular q) ∙ on)).0).1
    where
      turned : (b : Bool) → not b ≡ true → b ≡ false
      turned true h = absurd (cc)
      turned false h = refl

  same_root : (q : ℕ) → has_id (t.commander ∷ []) q ≡ (q == t.commander)
  same_root q = elim (cases_eq q t.commander) [
    | inl e ↦ or_left (t.commander == q) false (eq-eqb t.commander q (sym e)) ∙ sym (eq-eqb q t.commander e)
    | inr ne ↦ ap (λ (b : Bool). b || false) (ne_eqb t.commander q (λ e. ne (sym e))) ∙ sym (ne_eqb q t.commander ne)
  ]

  pub odd_off : (i q : ℕ) → has_id (without_id (odd_members t) i) q ≡ true → has_id (t.commander ∷ []) q ≡ false
  odd_off i q on =
      let there = (and_parts (has_id (odd_members t) q) (not (q == i)) (sym (has_kept (λ k. not (k == i)) (odd_members t) q) ∙ on)).0 in
      same_root q ∙ turned (q == t.commander) (and_parts (has_id t.members q && has_id t.odd q) (not (q == t.commander)) (sym (has_odd q) ∙ there)).1
    where
      turned : (b : Bool) → not b ≡ true → b ≡ false
      turned true h = absurd (cc)
      turned false h = refl

  pub few_regular : (n : ℕ) → length t.members ≤ n → length (regular_members t) ≤ n
  few_regular n few = omega (arith, kept_short (λ k. not (k == t.commander)) (minus_of t.members t.odd), kept_short (λ k. not (has_id t.odd k)) t.members)

  pub few_odd : (n i : ℕ) → length t.members ≤ n → length (without_id (odd_members t) i) ≤ n
  few_odd n i few =
      omega (arith, kept_short (λ k. not (k == i)) (odd_members t), kept_short (λ k. not (k == t.commander)) (common_of t.members t.odd), kept_short (λ k. has_id t.odd k) t.members)

  parts : (test : ℕ → Bool) → count test (outside t.members (t.commander ∷ [])) ≡ count test (regular_members t) + count test (odd_members t)
  parts test =
      let c : ℕ = t.commander in
      let m : List ℕ = t.members in
      let regular : List ℕ = minus_of m t.odd in
      let rest : ℕ → Bool = λ q. not (q == c) && test q in
      let g = count_where test (λ q. not (has_id (c ∷ []) q)) m in
      let r = count_where test (λ q. not (q == c)) regular in
      let r2 = count_where rest (λ q. not (has_id t.odd q)) m in
      let o = count_where test (λ q. not (q == c)) (common_of m t.odd) in
      let o2 = count_where rest (λ q. has_id t.odd q) m in
      let at : (q : ℕ) → has_id m q ≡ true → bit (not (has_id (c ∷ []) q) && test q) ≡ bit (not (has_id t.odd q) && rest q) + bit (has_id t.odd q && rest q) =
      λ q on.
      let e = ap (λ (b : Bool). bit (not b && test q)) (same_root q) in
      let s = split_bit (has_id t.odd q) (rest q) in
      omega arith
      in
      let all = count_both (λ q. not (has_id (c ∷ []) q) && test q) (λ q. not (has_id t.odd q) && rest q) (λ q. has_id t.odd q && rest q) m at in
      omega arith

  distinct_odd : Distinct t.members → Distinct (odd_members t)
  distinct_odd d = Distinct-filter (λ k. not (k == t.commander)) _ (Distinct-filter (λ k. has_id t.odd k) t.members d)

  -- what is counted of all but the receiver, where the receiver itself is among both
  counted : (test : ℕ → Bool) (i : ℕ) → Distinct t.members → t.commander ≢ i
      → count test (outside t.members (t.commander ∷ i ∷ [])) + bit (has_id t.members i && test i)
      ≡ count test (regular_members t) + count test (without_id (odd_members t) i) + bit (has_id (odd_members t) i && test i)
  counted test i d ne =
      let off : has_id (t.commander ∷ []) i ≡ false = same_root i ∙ ne_eqb i t.commander (λ e. ne (sym e)) in
      omega (arith, count-outside test t.members (t.commander ∷ []) i d off, parts test, count_without test (odd_members t) i (distinct_odd d))

  at_odd : (i : ℕ) → t.commander ≢ i → has_id t.odd i ≡ true → has_id (odd_members t) i ≡ has_id t.members i
  at_odd i ne on =
      has_odd i ∙ ap₂ (λ (a b : Bool). (has_id t.members i && a) && not b) on (ne_eqb i t.commander (λ e. ne (sym e))) ∙ whole (has_id t.members i)
    where
      whole : (b : Bool) → ((b && true) && true) ≡ b
      whole true = refl
      whole false = refl

  at_regular : (i : ℕ) → has_id t.odd i ≡ false → has_id (odd_members t) i ≡ false
  at_regular i off = has_odd i ∙ ap (λ (a : Bool). (has_id t.members i && a) && not (i == t.commander)) off ∙ none (has_id t.members i) (not (i == t.commander))
    where
      none : (a b : Bool) → ((a && false) && b) ≡ false
      none true b = refl
      none false b = refl

  regular_present : (q : ℕ) → is_present (regular_relay t q) ≡ has_id t.full q
  regular_present q = elim (cases_Bool (has_id t.full q)) [
    | inl on ↦ ap is_present (cond-true (has_id t.full q) (wrapped (slice_index_or t.told q (Fault 0))) (Fault 0) on) ∙ ap not (is_error-wrapped (slice_index_or t.told q (Fault 0))) ∙ sym on
    | inr off ↦ ap is_present (cond-false (has_id t.full q) (wrapped (slice_index_or t.told q (Fault 0))) (Fault 0) off) ∙ sym off
  ]

  regular_agrees : (eq : V → V → Bool) → IsExact eq → (q : ℕ) → disagrees eq (slice_index_or t.told q (Fault 0)) (regular_relay t q) ≡ false
  regular_agrees eq exact q = elim (cases_Bool (has_id t.full q)) [
    | inl on ↦ ap (disagrees eq (slice_index_or t.told q (Fault 0))) (cond-true (has_id t.full q) (wrapped (slice_index_or t.told q (Fault 0))) (Fault 0) on) ∙ agrees-wrapped exact (slice_index_or t.told q (Fault 0))
    | inr off ↦ ap (disagrees eq (slice_index_or t.told q (Fault 0))) (cond-false (has_id t.full q) (wrapped (slice_index_or t.told q (Fault 0))) (Fault 0) off)
  ]

  -- what an odd member passes on of the commander to node i
  abbrev pub odd_relay : ℕ → ℕ → Wrapped V
  odd_relay i q = t.says i (t.commander ∷ q ∷ [])

  of_regular : (f : Wrapped V → Bool) (i : ℕ) → count (λ q. f (relay_of t i q)) (regular_members t) ≡ count (λ q. f (regular_relay t q)) (regular_members t)
  of_regular f i = count_members _ _ (regular_members t) (λ q on. ap f (relay_regular t i q (regular_off q on)))

  of_odd : (f : Wrapped V → Bool) (i : ℕ) → count (λ q. f (relay_of t i q)) (without_id (odd_members t) i) ≡ count (λ q. f (odd_relay i q)) (without_id (odd_members t) i)
  of_odd f i = count_members _ _ (without_id (odd_members t) i) (λ q on. ap f (relay_odd t i q
      (odd_on q (and_parts (has_id (odd_members t) q) (not (q == i)) (sym (has_kept (λ k. not (k == i)) (odd_members t) q) ∙ on)).0)))

  pub counted_convicts : (eq : V → V → Bool) → IsExact eq → (i : ℕ) → Distinct t.members → t.commander ≢ i → (regular all : Voices)
      → IsCounted eq (slice_index_or t.told i (Fault 0)) (regular_relay t) (regular_members t) regular
      → all.present ≡ regular.present + count (λ q. is_present (odd_relay i q)) (without_id (odd_members t) i) + bit (has_id (odd_members t) i && has_id t.full i)
      → all.against ≡ regular.against + count (λ q. disagrees eq (slice_index_or t.told i (Fault 0)) (odd_relay i q)) (without_id (odd_members t) i)
      → (nat_lt 0 t.rounds && nat_lt (tolerated all.present t.rounds) all.against) ≡ convicts_commander eq t i
  counted_convicts eq exact i d ne regular all is p a =
      let own : Wrapped V = slice_index_or t.told i (Fault 0) in
      let nodes : List ℕ = outside t.members (t.commander ∷ i ∷ []) in
      let relays : List (Wrapped V) = map (relay_of t i) nodes in
      let own_voice : Bool = has_id t.full i && has_id t.members i in
      let present : ℕ → Bool = λ q. is_present (relay_of t i q) in
      let against : ℕ → Bool = λ q. disagrees eq own (relay_of t i q) in
      let ip = is.present in
      let ia = is.against in
      let voices : all.present ≡ count is_present relays + bit own_voice =
      (let whole = counted present i d ne in
      let m = count_map is_present (relay_of t i) nodes in
      let r = of_regular is_present i in
      let o = of_odd is_present i in
      elim (cases_Bool (has_id t.odd i)) [
        | inl on ↦
            let e = at_odd i ne on in
            let k : bit (has_id (odd_members t) i && present i) ≡ bit (has_id t.members i && present i) = ap (λ (b : Bool). bit (b && present i)) e in
            let v : bit (has_id (odd_members t) i && has_id t.full i) ≡ bit own_voice = ap (λ (b : Bool). bit (b && has_id t.full i)) e ∙ bits_turned (has_id t.members i) (has_id t.full i) in
            omega arith
        | inr off ↦
            let e = at_regular i off in
            let k : bit (has_id (odd_members t) i && present i) ≡ 0 = ap (λ (b : Bool). bit (b && present i)) e in
            let v : bit (has_id (odd_members t) i && has_id t.full i) ≡ 0 = ap (λ (b : Bool). bit (b && has_id t.full i)) e in
            let u : bit (has_id t.members i && present i) ≡ bit own_voice = ap (λ (b : Bool). bit (has_id t.members i && b)) (ap is_present (relay_regular t i i off) ∙ regular_present i) ∙ bits_turned (has_id t.members i) (has_id t.full i) in
            omega arith
      ])
      in
      let others : all.against ≡ count (disagrees eq own) relays =
      (let whole = counted against i d ne in
      let m = count_map (disagrees eq own) (relay_of t i) nodes in
      let r = of_regular (disagrees eq own) i in
      let o = of_odd (disagrees eq own) i in
      elim (cases_Bool (has_id t.odd i)) [
        | inl on ↦
            let k : bit (has_id (odd_members t) i && against i) ≡ bit (has_id t.members i && against i) = ap (λ (b : Bool). bit (b && against i)) (at_odd i ne on) in
            omega arith
        | inr off ↦
            let k : bit (has_id (odd_members t) i && against i) ≡ 0 = ap (λ (b : Bool). bit (b && against i)) (at_regular i off) in
            let u : bit (has_id t.members i && against i) ≡ 0 = ap (λ (b : Bool). bit (has_id t.members i && b)) (ap (disagrees eq own) (relay_regular t i i off) ∙ regular_agrees eq exact i) ∙ none (has_id t.members i) in
            omega arith
      ])
      in
      ap₂ (λ (k l : ℕ). nat_lt 0 t.rounds && nat_lt (tolerated k t.rounds) l) voices others
      ∙ convicts_by eq t i own relays own_voice refl refl refl
    where
      none : (b : Bool) → bit (b && false) ≡ 0
      none true = refl
      none false = refl
