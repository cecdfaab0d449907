-- Tallies of one more term, and the majority by counts.
use Rattle.std.proofs.Common.{ℕ, ◌≡◌, ◌<◌, ◌≤◌, ◌+◌, ◌-◌, ◌*◌, Bool, true, false, not, ◌&&◌, List, [], ◌∷◌, ◌++◌, refl, sym, ap, ap₂, ◌∙◌, ◌⊎◌, inl, inr, arith, ltb-true, lt-ltb}
use Rattle.std.specs.Prelude.{nat_lt}
use Rattle.std.proofs.lemmas.Bool.{cases_Bool, and_parts, and_from, both_ways, not-true, not_from_false, cond-true, cond-false}
use Rattle.node_grid.specs.Count.{bit, count}
use Rattle.node_grid.specs.ListLaws.{count-more}
use Rattle.omh_paths.specs.declared.wrapped.Wrapped.{Wrapped}
use Rattle.omh_paths.specs.declared.wrapped.Wrapped.TheVariants.{Fault}
use Rattle.omh_paths.specs.Wrapped.{same, IsExact, is_error}
use Rattle.omh_paths.specs.Majority.{has_majority, first_majority, majority}
use Rattle.omh_paths.specs.MajorityLaws.{same_itself, same_tells, majority_is, majority_none}
use Rattle.omh_paths.specs.VoteLaws.{votes-error, votes-more, count-yes, count-no, count-at_most, apart}
use Rattle.relay_terms.specs.Tallies.{votes, AreOne, Leads}

module _ {V : Type 0} {eq : V → V → Bool} (exact : IsExact eq) where
  -- a good term is counted among the votes
  counted_few : (y : Wrapped V) → is_error y ≡ false → (seen : List (Wrapped V)) → count (same eq y) seen ≤ votes seen
  counted_few y ok [] = omega arith
  counted_few y ok (v ∷ seen) =
      let rest = counted_few y ok seen in
      elim (cases_Bool (is_error v)) [
        | inl e ↦ let b = ap bit (apart exact y v ok e) in let n : bit (not (is_error v)) ≡ 0 = ap (λ c. bit (not c)) e in omega arith
        | inr g ↦ let n : bit (not (is_error v)) ≡ 1 = ap (λ c. bit (not c)) g in elim (cases_Bool (same eq y v)) [
          | inl s ↦ let b = ap bit s in omega arith
          | inr d ↦ let b = ap bit d in omega arith
        ]
      ]

  -- each term that leads by nothing is at half of the votes at most
  level : (seen : List (Wrapped V)) (c y : Wrapped V) → Leads eq seen c 0 → is_error y ≡ false → 2 * count (same eq y) seen ≤ votes seen
  level seen c y h ok = elim (cases_Bool (same eq y c)) [
    | inl s ↦
        let is : y ≡ c = same_tells exact y c s in
        let e : count (same eq y) seen ≡ count (same eq c) seen = ap (λ (x : Wrapped V). count (same eq x) seen) is in
        let good : is_error c ≡ false = ap (is_error {V = V}) (sym is) ∙ ok in
        omega (arith, h.own good)
    | inr d ↦ omega (arith, h.others y ok d)
  ]

  -- ---- one term

  pub one_good : (v : Wrapped V) → is_error v ≡ false → Leads eq (v ∷ []) v 1 × AreOne eq (v ∷ []) v 1
  one_good v ok =
      let n : bit (not (is_error v)) ≡ 1 = ap (λ c. bit (not c)) ok in
      let b : bit (same eq v v) ≡ 1 = ap bit (same_itself exact v) in (
        record {
          none = λ e. absurd (both_ways _ ok e);
          own = λ g. omega arith;
          others = λ y oky d. let z : bit (same eq y v) ≡ 0 = ap bit d in omega arith;
        },
        record { voted = omega arith; counted = λ g. omega arith; some = λ g. omega arith },
      )

  pub one_error : (v : Wrapped V) → is_error v ≡ true → Leads eq (v ∷ []) v 0 × AreOne eq (v ∷ []) v 0
  one_error v bad =
      let n : bit (not (is_error v)) ≡ 0 = ap (λ c. bit (not c)) bad in (
        record {
          none = λ e. omega arith;
          own = λ g. absurd (both_ways _ g bad);
          others = λ y oky d. let z : bit (same eq y v) ≡ 0 = ap bit d in omega arith;
        },
        record { voted = omega arith; counted = λ g. absurd (both_ways _ g bad); some = λ g. absurd (both_ways _ g bad) },
      )

  -- ---- one more term

  pub leads_error : (seen : List (Wrapped V)) (c v : Wrapped V) (n : ℕ) → Leads eq seen c n → is_error v ≡ true → Leads eq (seen ++ v ∷ []) c n
  leads_error seen c v n h e = record {
    none = λ bad. votes-error seen v e ∙ h.none bad;
    own = λ good. omega (arith, h.own good, votes-error seen v e, count-no eq c seen v (apart exact c v good e));
    others = λ y ok d. omega (arith, h.others y ok d, votes-error seen v e, count-no eq y seen v (apart exact y v ok e));
  }

  pub one_with_error : (seen : List (Wrapped V)) (c v : Wrapped V) (n : ℕ) → AreOne eq seen c n → is_error v ≡ true → AreOne eq (seen ++ v ∷ []) c n
  one_with_error seen c v n h e = record {
    voted = votes-error seen v e ∙ h.voted;
    counted = λ good. count-no eq c seen v (apart exact c v good e) ∙ h.counted good;
    some = h.some;
  }

  pub leads_first : (seen : List (Wrapped V)) (c v : Wrapped V) → Leads eq seen c 0 → is_error v ≡ false → Leads eq (seen ++ v ∷ []) v 1
  leads_first seen c v h e = record {
    none = λ bad. absurd (both_ways _ e bad);
    own = λ good. omega (arith, level seen c v h e, votes-more seen v e, count-at_most eq v seen v);
    others = λ y ok d. omega (arith, level seen c y h ok, votes-more seen v e, count-no eq y seen v d);
  }

  pub one_first : (seen : List (Wrapped V)) (c v : Wrapped V) → AreOne eq seen c 0 → is_error v ≡ false → AreOne eq (seen ++ v ∷ []) v 1
  one_first seen c v h e = record {
    voted = omega (arith, h.voted, votes-more seen v e);
    counted = λ good. omega (arith, counted_few v e seen, h.voted, count-yes eq v seen v (same_itself exact v));
    some = λ good. omega arith;
  }

  good_same : (c v : Wrapped V) → is_error v ≡ false → same eq c v ≡ true → is_error c ≡ false
  good_same c v e s = ap (is_error {V = V}) (same_tells exact c v s) ∙ e

  pub leads_more : (seen : List (Wrapped V)) (c v : Wrapped V) (n : ℕ) → Leads eq seen c n → is_error v ≡ false → same eq c v ≡ true → Leads eq (seen ++ v ∷ []) c (n + 1)
  leads_more seen c v n h e s =
      let is : c ≡ v = same_tells exact c v s in
      record {
        none = λ bad. absurd (both_ways _ (good_same c v e s) bad);
        own = λ good. omega (arith, h.own good, votes-more seen v e, count-at_most eq c seen v);
        others = λ y ok d. omega (arith, h.others y ok d, votes-more seen v e, count-no eq y seen v (ap (same eq y) (sym is) ∙ d));
      }

  pub one_more : (seen : List (Wrapped V)) (c v : Wrapped V) (n : ℕ) → AreOne eq seen c n → is_error v ≡ false → same eq c v ≡ true → AreOne eq (seen ++ v ∷ []) c (n + 1)
  one_more seen c v n h e s = record {
    voted = omega (arith, h.voted, votes-more seen v e);
    counted = λ good. omega (arith, h.counted good, count-yes eq c seen v s);
    some = λ good. omega arith;
  }

  pub leads_less : (seen : List (Wrapped V)) (c v : Wrapped V) (n : ℕ) → Leads eq seen c n → 0 < n → is_error v ≡ false → same eq c v ≡ false → Leads eq (seen ++ v ∷ []) c (n - 1)
  leads_less seen c v n h some e s = record {
    none = λ bad. absurd (nothing_leads seen c n h some bad);
    own = λ good. omega (arith, h.own good, votes-more seen v e, count-no eq c seen v s);
    others = λ y ok d. omega (arith, h.others y ok d, votes-more seen v e, count-at_most eq y seen v);
  } where
    nothing_leads : (seen : List (Wrapped V)) (c : Wrapped V) (n : ℕ) → Leads eq seen c n → 0 < n → is_error c ≡ true → ⊥
    nothing_leads seen c n h some bad =
        let other : same eq (Fault 1) c ≡ false = apart exact (Fault 1) c refl bad in
        let l = h.others (Fault 1) refl other in
        let z = h.none bad in
        omega arith

  -- ---- what a tally tells of the majority

  lost_half : (all : List (Wrapped V)) (y : Wrapped V) → (is_error y ≡ false → 2 * count (same eq y) all ≤ votes all) → has_majority eq all y ≡ false
  lost_half all y few = elim (cases_Bool (has_majority eq all y)) [
    | inr lost ↦ lost
    | inl won ↦
        let p = and_parts _ _ won in
        let more : votes all < 2 * count (same eq y) all = ltb-true _ _ p.1 in
        absurd (let f = few (not-true _ p.0) in omega arith)
  ]

  -- where all terms are the error itself, nothing has the majority
  pub nothing_wins : (all : List (Wrapped V)) (c : Wrapped V) (n : ℕ) → Leads eq all c n → is_error c ≡ true → majority eq all ≡ Fault 1
  nothing_wins all c n h bad = majority_none eq all (λ y. lost_half all y (λ ok. let z = h.none bad in let l = counted_few y ok all in omega arith))

  -- where no good terms clashed, the candidate has the majority
  pub one_wins : (all : List (Wrapped V)) (c : Wrapped V) (n : ℕ) → AreOne eq all c n → is_error c ≡ false → majority eq all ≡ c
  one_wins all c n h good = majority_is exact all c good (omega (arith, h.voted, h.counted good, h.some good))

  pub one_has : (all : List (Wrapped V)) (c : Wrapped V) (n : ℕ) → AreOne eq all c n → is_error c ≡ false → has_majority eq all c ≡ true
  one_has all c n h good = and_from _ _ (not_from_false _ good) (lt-ltb _ _ (omega (arith, h.voted, h.counted good, h.some good)))

  -- where they did, a count tells
  pub candidate_wins : (all : List (Wrapped V)) (c : Wrapped V) → is_error c ≡ false → has_majority eq all c ≡ true → majority eq all ≡ c
  candidate_wins all c good won = majority_is exact all c good (ltb-true _ _ (and_parts _ _ won).1)

  pub candidate_loses : (all : List (Wrapped V)) (c : Wrapped V) (n : ℕ) → Leads eq all c n → has_majority eq all c ≡ false → majority eq all ≡ Fault 1
  candidate_loses all c n h lost = majority_none eq all (λ y. elim (cases_Bool (same eq y c)) [
    | inl s ↦ ap (has_majority eq all) (same_tells exact y c s) ∙ lost
    | inr d ↦ lost_half all y (λ ok. omega (arith, h.others y ok d))
  ])

  -- ---- the majority follows from counts alone

  first_cases : (all xs : List (Wrapped V)) → (has_majority eq all (first_majority eq all xs) ≡ true) ⊎ ((y : Wrapped V) → 0 < count (same eq y) xs → has_majority eq all y ≡ false)
  first_cases all [] = inr (λ y some. absurd (omega arith))
  first_cases all (x ∷ xs) = elim (cases_Bool (has_majority eq all x)) [
    | inl won ↦ inl (ap (has_majority eq all) (cond-true _ x (first_majority eq all xs) won) ∙ won)
    | inr lost ↦ elim (first_cases all xs) [
      | inl w ↦ inl (ap (has_majority eq all) (cond-false _ x (first_majority eq all xs) lost) ∙ w)
      | inr none ↦ inr (λ y some. elim (cases_Bool (same eq y x)) [
        | inl s ↦ ap (has_majority eq all) (same_tells exact y x s) ∙ lost
        | inr d ↦ none y (let b = ap bit d in omega arith)
      ])
    ]
  ]

  counts_tell : (xs ys : List (Wrapped V)) → votes xs ≡ votes ys → ((y : Wrapped V) → is_error y ≡ false → count (same eq y) xs ≡ count (same eq y) ys) → (y : Wrapped V) → has_majority eq xs y ≡ has_majority eq ys y
  counts_tell xs ys v c y = elim (cases_Bool (is_error y)) [
    | inl bad ↦ ap (λ (b : Bool). not b && nat_lt (votes xs) (2 * count (same eq y) xs)) bad ∙ sym (ap (λ (b : Bool). not b && nat_lt (votes ys) (2 * count (same eq y) ys)) bad)
    | inr good ↦ ap₂ (λ (a b : ℕ). not (is_error y) && nat_lt a (2 * b)) v (c y good)
  ]

  pub majority_by_counts : (xs ys : List (Wrapped V)) → votes xs ≡ votes ys → ((y : Wrapped V) → is_error y ≡ false → count (same eq y) xs ≡ count (same eq y) ys) → majority eq xs ≡ majority eq ys
  unfolding majority
  majority_by_counts xs ys v c = elim (first_cases ys ys) [
    | inl won ↦
        let p = and_parts _ _ won in
        candidate_wins xs (first_majority eq ys ys) (not-true _ p.0) (counts_tell xs ys v c (first_majority eq ys ys) ∙ won)
    | inr none ↦
        let lost : (y : Wrapped V) → has_majority eq ys y ≡ false = λ y. elim (cases_Bool (has_majority eq ys y)) [
          | inr l ↦ l
          | inl w ↦ let more : votes ys < 2 * count (same eq y) ys = ltb-true (votes ys) (2 * count (same eq y) ys) (and_parts (not (is_error y)) (nat_lt (votes ys) (2 * count (same eq y) ys)) w).1 in
              let some : 0 < count (same eq y) ys = omega (arith, more) in none y some
        ] in
        majority_none eq xs (λ y. counts_tell xs ys v c y ∙ lost y) ∙ sym (majority_none eq ys lost)
  ]
