-- The candidate for the majority of what was seen, and by how many places it leads.
use Rattle.node_grid.specs.ListLaws.{count-more, half_less}
use Rattle.std.proofs.Common.{ℕ, ◌≡◌, ◌<◌, ◌≤◌, ◌+◌, ◌-◌, ◌*◌, ◌/◌, ap₂, ltb-true, Bool, true, false, not, ◌&&◌, List, [], ◌∷◌, ◌++◌, take, get_or, length, refl, sym, ap, subst, ◌∙◌, inl, inr, arith}
use Rattle.std.proofs.lemmas.Bool.{cases_Bool, and_parts, both_ways, not-true}
use Rattle.std.proofs.lemmas.Bool.Decides.{nat_tests}
use Rattle.std.specs.Prelude.{nat_lt}
use Rattle.std.proofs.lemmas.List.{take_more, take_all}
use Rattle.node_grid.specs.Count.{bit, count}
use Rattle.omh_paths.specs.declared.wrapped.Wrapped.{Wrapped}
use Rattle.omh_paths.specs.declared.wrapped.Wrapped.TheVariants.{Fault}
use Rattle.omh_paths.specs.Wrapped.{same, IsExact, is_error}
use Rattle.omh_paths.specs.Majority.{has_majority, majority, IsOnlyCandidate}
use Rattle.omh_paths.specs.MajorityLaws.{same_tells, majority_is, majority_none}
use Rattle.omh_paths.specs.VoteLaws.{votes, votes-error, votes-more, count-yes, count-no, count-at_most, apart}

-- no value but c can stand at more than half_less of the votes so far
pub record Leads {V : Type 0} (eq : V → V → Bool) (seen : List (Wrapped V)) (c : Wrapped V) (n : ℕ) : Type 0 where
  pub good : is_error c ≡ false
  pub own : 2 * count (same eq c) seen ≤ votes seen + n
  pub others : (y : Wrapped V) → is_error y ≡ false → same eq y c ≡ false → 2 * count (same eq y) seen + n ≤ votes seen

module _ {V : Type 0} {eq : V → V → Bool} (exact : IsExact eq) where
  -- each value that leads by nothing is at half_less of the votes at most
  level : (seen : List (Wrapped V)) (c y : Wrapped V) → Leads eq seen c 0 → is_error y ≡ false → 2 * count (same eq y) seen ≤ votes seen
  level seen c y h ok = elim (cases_Bool (same eq y c)) [
    | inl s ↦ let e : count (same eq y) seen ≡ count (same eq c) seen = ap (λ (x : Wrapped V). count (same eq x) seen) (same_tells exact y c s) in omega (arith, h.own)
    | inr d ↦ omega (arith, h.others y ok d)
  ]

  pub leads_error : (seen : List (Wrapped V)) (c v : Wrapped V) (n : ℕ) → Leads eq seen c n → is_error v ≡ true → Leads eq (seen ++ v ∷ []) c n
  leads_error seen c v n h e = record {
    good = h.good;
    own = omega (arith, h.own, votes-error seen v e, count-no eq c seen v (apart exact c v h.good e));
    others = λ y ok d. omega (arith, h.others y ok d, votes-error seen v e, count-no eq y seen v (apart exact y v ok e));
  }

  pub leads_first : (seen : List (Wrapped V)) (c v : Wrapped V) → Leads eq seen c 0 → is_error v ≡ false → Leads eq (seen ++ v ∷ []) v 1
  leads_first seen c v h e = record {
    good = e;
    own = omega (arith, level seen c v h e, votes-more seen v e, count-at_most eq v seen v);
    others = λ y ok d. omega (arith, level seen c y h ok, votes-more seen v e, count-no eq y seen v d);
  }

  pub leads_more : (seen : List (Wrapped V)) (c v : Wrapped V) (n : ℕ) → Leads eq seen c n → same eq c v ≡ true → Leads eq (seen ++ v ∷ []) c (n + 1)
  leads_more seen c v n h s =
      let is : c ≡ v = same_tells exact c v s in
      let e : is_error v ≡ false = ap (is_error {V = V}) (sym is) ∙ h.good in
      record {
        good = h.good;
        own = omega (arith, h.own, votes-more seen v e, count-at_most eq c seen v);
        others = λ y ok d. omega (arith, h.others y ok d, votes-more seen v e, count-no eq y seen v (ap (same eq y) (sym is) ∙ d));
      }

  pub leads_less : (seen : List (Wrapped V)) (c v : Wrapped V) (n : ℕ) → Leads eq seen c n → 0 < n → is_error v ≡ false → same eq c v ≡ false → Leads eq (seen ++ v ∷ []) c (n - 1)
  leads_less seen c v n h some e s = record {
    good = h.good;
    own = omega (arith, h.own, votes-more seen v e, count-no eq c seen v s);
    others = λ y ok d. omega (arith, h.others y ok d, votes-more seen v e, count-at_most eq y seen v);
  }

  pub only_candidate : (all : List (Wrapped V)) (c : Wrapped V) (n : ℕ) → Leads eq all c n → IsOnlyCandidate eq all c
  only_candidate all c n h = (
    h.good,
    λ y d. elim (cases_Bool (has_majority eq all y)) [
      | inr lost ↦ lost
      | inl won ↦
          let p = and_parts _ _ won in
          let few = h.others y (not-true _ p.0) d in
          let more : nat_lt (votes all) (2 * count (same eq y) all) ≡ true = p.1 in
          absurd (wins (votes all) (2 * count (same eq y) all) more (omega (arith, few)))
    ],
  )
    where
      wins : (a b : ℕ) → nat_lt a b ≡ true → b ≤ a → ⊥
      wins a b h l = grind (arith, nat_tests)

-- ---- counts in a loop

pub has_majority_from : {V : Type 0} (eq : V → V → Bool) (all : List (Wrapped V)) (x : Wrapped V) (v s i : ℕ) → is_error x ≡ false → length all ≤ i
    → v ≡ votes (take i all) → s ≡ count (same eq x) (take i all) → nat_lt (v / 2) s ≡ has_majority eq all x
has_majority_from eq all x v s i good past hv hs =
    let t : take i all ≡ all = take_all i all past in
    half_less v s ∙ ap₂ (λ a b. nat_lt a (2 * b)) (hv ∙ ap votes t) (hs ∙ ap (count (same eq x)) t) ∙ ap (λ b. not b && nat_lt (votes all) (2 * count (same eq x) all)) (sym good)

pub leads_none : {V : Type 0} (eq : V → V → Bool) → Leads eq [] (Fault 1) 0
leads_none eq = record { good = refl; own = omega arith; others = λ y ok d. omega arith }

-- the value at i was seen
pub seen_more : {V : Type 0} (eq : V → V → Bool) (all : List (Wrapped V)) (i : ℕ) (v c : Wrapped V) (n : ℕ) → i < length all → v ≡ get_or all i v
    → Leads eq (take i all ++ v ∷ []) c n → Leads eq (take (i + 1) all) c n
seen_more {V} eq all i v c n here is h =
    subst (λ (xs : List (Wrapped V)). Leads eq xs c n) (ap (λ (x : Wrapped V). take i all ++ x ∷ []) is ∙ sym (take_more all i v here)) h

-- the candidate is the majority where it has it, and there is none where it hasn't
pub candidate_wins : {V : Type 0} {eq : V → V → Bool} → IsExact eq → (all : List (Wrapped V)) (c : Wrapped V) → IsOnlyCandidate eq all c → has_majority eq all c ≡ true → c ≡ majority eq all
candidate_wins {V} {eq} exact all c only won =
    sym (majority_is exact all c only.0 (ltb-true (votes all) (2 * count (same eq c) all) (and_parts _ _ won).1))

pub candidate_loses : {V : Type 0} {eq : V → V → Bool} → IsExact eq → (all : List (Wrapped V)) (c : Wrapped V) → IsOnlyCandidate eq all c → has_majority eq all c ≡ false → Fault 1 ≡ majority eq all
candidate_loses {V} {eq} exact all c only lost = sym (majority_none eq all (λ y. elim (cases_Bool (same eq y c)) [
  | inl s ↦ ap (has_majority eq all) (same_tells exact y c s) ∙ lost
  | inr d ↦ only.1 y d
]))

pub seen_as : {V : Type 0} (eq : V → V → Bool) (seen : List (Wrapped V)) (x : Wrapped V) (n : ℕ) (y : Wrapped V) (k : ℕ) → x ≡ y → n ≡ k → Leads eq seen y k → Leads eq seen x n
seen_as {V} eq seen x n y k ex en h = subst (λ (z : Wrapped V). Leads eq seen z n) (sym ex) (subst (λ (j : ℕ). Leads eq seen y j) (sym en) h)
