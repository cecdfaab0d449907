-- What a path's last node passes on gets to a node by as many Full members as the path can still grow by.
use Rattle.std.proofs.Common.{ℕ, zero, suc, ◌≡◌, ◌≢◌, ◌<◌, ◌≤◌, ◌+◌, ◌-◌, ◌==◌, ◌&&◌, ◌||◌, Bool, true, false, not, List, [], ◌∷◌, ◌++◌, map, length, refl, sym, ap, ap₂, subst, ◌∙◌, inl, inr, arith, eq-eqb, eqb-true, ne_eqb, lt-ltb, ltb-true}
use Rattle.std.specs.Prelude.{Option, nat_lt, if◌then◌else◌}
use Rattle.std.proofs.Math.Bool.{and-true}
use Rattle.std.proofs.lemmas.Bool.{cases_Bool, cases_eq, cases_lt, cond-true, cond-false, le-ltb, or_cases, or_parts, or_left, or_right, and_from, and_parts, not-true, not_from_false, both_ways}
use Rattle.std.proofs.lemmas.List.{length_push}
use Rattle.node_grid.specs.NodeSet.{has_id}
use Rattle.node_grid.specs.Count.{bit, count, Distinct}
use Rattle.omh_paths.specs.declared.wrapped.Wrapped.{Wrapped}
use Rattle.omh_paths.specs.declared.wrapped.Wrapped.TheVariants.{Fault}
use Rattle.omh_paths.specs.Wrapped.{wrapped, unwrapped, IsExact}
use Rattle.omh_paths.specs.Majority.{majority}
use Rattle.omh_paths.specs.MajorityLaws.{unwrapped-wrapped, is_error-wrapped}
use Rattle.omh_paths.specs.Paths.{outside}
use Rattle.omh_paths.specs.PathLaws.{count-outside, map_alike, all_outside, off_from}
use Rattle.omh.specs.Omh.{Ear, ear, own_term, settled_at, settled, term_at}
use Rattle.omh.specs.SettledLaws.{settled_at_end, settled_at_later}
use Rattle.settled_paths.specs.Passing.{or_passed, passed, passing_world}
use Rattle.settled_paths.proofs.Passes.{passed_push}
use Rattle.counted_relays.specs.Counted.{IsUntouched, full_outside, gets_to, counted}
use Rattle.counted_relays.specs.Laws.{UntouchedLaw}
use Rattle.counted_relays.proofs.Terms.{count_le, count_none, where_passes, majority_passes, majority_lacks}

no_less : (a b : ℕ) → b ≤ a → not (nat_lt a b) ≡ true
no_less a b h = not_from_false _ (le-ltb a b h)

from_no_less : (a b : ℕ) → not (nat_lt a b) ≡ true → b ≤ a
from_no_less a b h = elim (cases_lt a b) [
  | inl l ↦ absurd (both_ways _ (not-true _ h) (lt-ltb a b l))
  | inr le ↦ le
]

from_less : (a b : ℕ) → not (nat_lt a b) ≡ false → a < b
from_less a b h = elim (cases_lt a b) [
  | inl l ↦ l
  | inr le ↦ absurd (both_ways _ h (no_less a b le))
]

nested : {V : Type 0} (g f s : Bool) (w : Wrapped V) → s ≡ false → (if g then (if f then w else Fault 0) else Fault 0) ≡ (if f && (s || g) then w else Fault 0)
nested g f true w e = cc
nested true true false w e = refl
nested true false false w e = refl
nested false true false w e = refl
nested false false false w e = refl

module _ (members full : List ℕ) (distinct : Distinct members) (i : ℕ) where
  -- of a Full member that is not on the path, one fewer is beside the longer path
  one_fewer : (path : List ℕ) (q : ℕ) → has_id members q ≡ true → has_id path q ≡ false → has_id full q ≡ true
      → full_outside members full (path ++ q ∷ []) + 1 ≡ full_outside members full path
  one_fewer path q on off fullq =
      let e = count-outside (λ (x : ℕ). has_id full x) members path q distinct off in
      let b : bit (has_id members q && has_id full q) ≡ 1 = ap bit (and_from _ _ on fullq) in
      omega arith

  -- what gets to a node gets there by some Full member
  by_some : (r : ℕ) (path : List ℕ) → has_id path i ≡ false → gets_to members full i (suc r) path ≡ true → 0 < full_outside members full path
  by_some r path off gets = elim (or_cases (has_id members i && has_id full i) (not (nat_lt (full_outside members full path) (suc r))) gets) [
    | inl both ↦ let p = and_parts _ _ both in let e = one_fewer path i p.0 off p.1 in omega arith
    | inr many ↦ let l = from_no_less (full_outside members full path) (suc r) many in omega arith
  ]

  -- and by each
  by_each : (r : ℕ) (path : List ℕ) (q : ℕ) → has_id members q ≡ true → has_id path q ≡ false → has_id full q ≡ true → gets_to members full i (suc r) path ≡ true
      → gets_to members full i r (path ++ q ∷ []) ≡ true
  by_each r path q on off fullq gets = elim (or_cases (has_id members i && has_id full i) (not (nat_lt (full_outside members full path) (suc r))) gets) [
    | inl both ↦ or_left (has_id members i && has_id full i) (not (nat_lt (full_outside members full (path ++ q ∷ [])) r)) both
    | inr many ↦
        let l = from_no_less (full_outside members full path) (suc r) many in
        let e = one_fewer path q on off fullq in
        or_right (has_id members i && has_id full i) (not (nat_lt (full_outside members full (path ++ q ∷ [])) r)) (no_less _ r (omega arith))
  ]

  -- what doesn't get there gets there by none
  by_none : (r : ℕ) (path : List ℕ) (q : ℕ) → has_id members q ≡ true → has_id path q ≡ false → gets_to members full i (suc r) path ≡ false
      → (has_id full q && ((q == i) || gets_to members full i r (path ++ q ∷ []))) ≡ false
  by_none r path q on off lost =
      let p = or_parts (has_id members i && has_id full i) (not (nat_lt (full_outside members full path) (suc r))) lost in
      let few = from_less (full_outside members full path) (suc r) p.1 in
      elim (cases_Bool (has_id full q)) [
        | inr idle ↦ ap (λ (b : Bool). b && ((q == i) || gets_to members full i r (path ++ q ∷ []))) idle
        | inl fullq ↦
            let e = one_fewer path q on off fullq in
            let ne : q ≢ i = λ same. both_ways _ p.0 (and_from _ _ (ap (has_id members) (sym same) ∙ on) (ap (has_id full) (sym same) ∙ fullq)) in
            let less : nat_lt (full_outside members full (path ++ q ∷ [])) r ≡ true = lt-ltb _ r (omega arith) in
            ap (λ (b : Bool). b && ((q == i) || gets_to members full i r (path ++ q ∷ []))) fullq
            ∙ ap (λ (b : Bool). b || gets_to members full i r (path ++ q ∷ [])) (ne_eqb q i ne)
            ∙ ap (λ (b : Bool). b || not (nat_lt (full_outside members full (path ++ q ∷ [])) r)) p.0
            ∙ ap not less
      ]

  module _ {V : Type 0} (eq : V → V → Bool) (exact : IsExact eq) (rounds : ℕ) (own : Wrapped V) (says : ℕ → List ℕ → Option (Wrapped V)) (untouched : IsUntouched rounds says) where
    passed_next : (path : List ℕ) (q : ℕ) → 0 < length path → length path ≤ rounds + 1
        → passed full own says (path ++ q ∷ []) ≡ (if has_id full q then wrapped (passed full own says path) else Fault 0)
    passed_next path q some short =
        passed_push full own says path q some
        ∙ ap (λ (o : Option (Wrapped V)). if has_id full q then wrapped (or_passed o (passed full own says path)) else Fault 0) (untouched q path some short)

    heard_is : (path : List ℕ) → 0 < length path → length path ≤ rounds + 1 → or_passed (says i path) (passed full own says path) ≡ passed full own says path
    heard_is path some short = ap (λ (o : Option (Wrapped V)). or_passed o (passed full own says path)) (untouched i path some short)

    -- whether the member q puts the value into the majority of a path
    passes_it : ℕ → List ℕ → ℕ → Bool
    passes_it r path q = has_id full q && ((q == i) || gets_to members full i r (path ++ q ∷ []))

    -- what it puts there
    term_is : (r : ℕ) (path : List ℕ) (q : ℕ) → 0 < length path → length path ≤ rounds
        → (q ≢ i → settled_at eq (ear (passing_world rounds members full own says) i) (path ++ q ∷ [])
        ≡ (if gets_to members full i r (path ++ q ∷ []) then passed full own says (path ++ q ∷ []) else Fault 0))
        → term_at eq (ear (passing_world rounds members full own says) i) path q ≡ where_passes (passes_it r path) (wrapped (passed full own says path)) q
    unfolding passes_it
    term_is r path q some short longer =
        let x = ear (passing_world rounds members full own says) i in
        let v : Wrapped V = passed full own says path in
        let g : Bool = gets_to members full i r (path ++ q ∷ []) in
        elim (cases_eq q i) [
          | inl same ↦
              let here : (q == i) ≡ true = eq-eqb q i same in
              let b : (has_id full q && ((q == i) || g)) ≡ has_id full i = ap (λ (s : Bool). has_id full q && (s || g)) here ∙ and-true (has_id full q) ∙ ap (has_id full) same in
              cond-true (q == i) (own_term x path) (settled_at eq x (path ++ q ∷ [])) here
              ∙ ap (λ (u : Wrapped V). if has_id full i then wrapped u else Fault 0) (heard_is path some (omega arith))
              ∙ ap (λ (c : Bool). if c then wrapped v else Fault 0) (sym b)
          | inr ne ↦
              cond-false (q == i) (own_term x path) (settled_at eq x (path ++ q ∷ [])) (ne_eqb q i ne)
              ∙ longer ne
              ∙ ap (λ (u : Wrapped V). if g then u else Fault 0) (passed_next path q some (omega arith))
              ∙ nested g (has_id full q) (q == i) (wrapped v) (ne_eqb q i ne)
        ]

    -- so a path settles
    step_is : (r : ℕ) (path : List ℕ) → has_id path i ≡ false
        → unwrapped (majority eq (map (where_passes (passes_it r path) (wrapped (passed full own says path))) (outside members path)))
        ≡ (if gets_to members full i (suc r) path then passed full own says path else Fault 0)
    unfolding passes_it
    step_is r path off =
        let v : Wrapped V = passed full own says path in
        let g : Bool = gets_to members full i (suc r) path in
        let test : ℕ → Bool = λ q. has_id full q && ((q == i) || gets_to members full i r (path ++ q ∷ [])) in
        elim (cases_Bool g) [
          | inl gets ↦
              let all = all_outside members path (λ (q : ℕ). has_id full q ≡ true → test q ≡ true)
              (λ q on free fullq. and_from _ _ fullq (or_right (q == i) _ (by_each r path q on free fullq gets)))
              in
              let many : full_outside members full path ≤ count test (outside members path) = count_le (λ (q : ℕ). has_id full q) test (outside members path) all in
              let some = by_some r path off gets in
              ap unwrapped (majority_passes exact test (wrapped v) (is_error-wrapped v) (outside members path) (omega arith))
              ∙ unwrapped-wrapped v ∙ sym (cond-true g v (Fault 0) gets)
          | inr lost ↦
              let none : count test (outside members path) ≡ 0 = count_none test (outside members path) (all_outside members path (λ (q : ℕ). test q ≡ false) (λ q on free. by_none r path q on free lost)) in
              ap unwrapped (majority_lacks exact test (wrapped v) (is_error-wrapped v) (outside members path) none)
              ∙ sym (cond-false g v (Fault 0) lost)
        ]

    settles : (r : ℕ) (path : List ℕ) → r + length path ≡ rounds + 1 → 0 < length path → has_id path i ≡ false
        → settled_at eq (ear (passing_world rounds members full own says) i) path ≡ (if gets_to members full i r path then passed full own says path else Fault 0)
    settles zero path long some off =
        settled_at_end eq (ear (passing_world rounds members full own says) i) path (omega arith)
        ∙ heard_is path some (omega arith)
        ∙ sym (cond-true (gets_to members full i 0 path) (passed full own says path) (Fault 0)
        (or_right (has_id members i && has_id full i) (not (nat_lt (full_outside members full path) 0)) (no_less (full_outside members full path) 0 (omega arith))))
    settles (suc r) path long some off =
        let x = ear (passing_world rounds members full own says) i in
        let same = all_outside members path (λ (q : ℕ). term_at eq x path q ≡ where_passes (passes_it r path) (wrapped (passed full own says path)) q)
        (λ q on free. term_is r path q some (omega arith)
        (λ ne. settles r (path ++ q ∷ []) (omega (arith, length_push path q)) (omega (arith, length_push path q)) (off_from path q i off ne)))
        in
        settled_at_later eq x path (omega arith)
        ∙ ap (λ (ts : List (Wrapped V)). unwrapped (majority eq ts)) (map_alike (term_at eq x path) (where_passes (passes_it r path) (wrapped (passed full own says path))) (outside members path) same)
        ∙ step_is r path off

    pub settles_counted : (c : ℕ) → c ≢ i → settled eq (passing_world rounds members full own says) i (c ∷ []) ≡ counted rounds members full own c i
    settles_counted c ne = settles rounds (c ∷ []) (omega arith) (omega arith) (ap (λ (b : Bool). b || false) (ne_eqb c i ne))

pub untouched_law : {V : Type 0} (eq : V → V → Bool) → IsExact eq → UntouchedLaw eq
untouched_law eq exact rounds members full own says distinct untouched c i ne = settles_counted members full distinct i eq exact rounds own says untouched c ne
