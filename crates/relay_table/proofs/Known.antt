-- Terms of which no error was wrapped often.
use Rattle.std.proofs.Common.{ℕ, zero, suc, replicate, ◌≡◌, ◌≢◌, ◌<◌, ◌≤◌, ◌+◌, ◌-◌, ◌==◌, true, List, [], ◌∷◌, length, map, take, drop, get_or, refl, sym, ap, ◌∙◌, inl, inr, arith, eq-eqb}
use Rattle.std.specs.Prelude.{Option, None, Some, slice_index}
use Rattle.std.proofs.lemmas.Bool.{cases_Bool, cases_lt, cond-true, cond-false, or_left, or_right}
use Rattle.std.proofs.lemmas.List.{get_or-take, get_or-drop, get_or-map, drop-map, take_all, length-take, length-drop, get_or_past, get_or-replicate, length-replicate}
use Rattle.node_grid.specs.NodeSet.{has_id}
use Rattle.omh_paths.specs.declared.wrapped.Wrapped.{Wrapped}
use Rattle.omh_paths.specs.declared.wrapped.Wrapped.TheVariants.{Plain, Fault}
use Rattle.relay_terms.specs.declared.term.Term.{Term}
use Rattle.relay_terms.specs.Terms.{said, term_in}
use Rattle.relay_walk.specs.declared.round.Round.{Round}
use Rattle.relay_walk.specs.Laid.{laid}
use Rattle.relay_walk.specs.LaidLaws.{laid_before, laid_in, laid_behind}
use Rattle.relay_walk.specs.Walking.{next_in, HaveNext, IsEntryAt}
use Rattle.relay_table.specs.Tabled.{AreKnown, term_of}

pub known_laid : {V : Type 0} (at : ℕ) (xs old : List (Wrapped V)) → AreKnown xs → AreKnown old → at + length xs ≤ length old → AreKnown (laid at xs old)
known_laid {V} at xs old new was room k bad = elim (cases_lt k at) [
  | inl before ↦ was k (sym (laid_before at xs old k (Fault 0) before (omega arith)) ∙ bad)
  | inr behind ↦ elim (cases_lt k (at + length xs)) [
    | inl within ↦
        let e : at + (k - at) ≡ k = omega arith in
        new (k - at) (sym (laid_in at xs old (k - at) (Fault 0) (omega arith) room) ∙ ap (λ (i : ℕ). get_or (laid at xs old) i (Fault 0)) e ∙ bad)
    | inr past ↦ was k (sym (laid_behind at xs old k (Fault 0) past room) ∙ bad)
  ]
]

known_read : {V : Type 0} (of_bytes : List ℕ → V) (entry : List ℕ) → slice_index entry 0 < 254 → term_in of_bytes entry ≢ Fault 254
known_read of_bytes entry low bad = elim (cases_Bool (slice_index entry 0 == 0)) [
  | inl plain ↦ let e = sym (cond-true (slice_index entry 0 == 0) (Plain (of_bytes (drop 1 entry))) (Fault (slice_index entry 0)) plain) ∙ bad in cc
  | inr error ↦
      let e : Fault (slice_index entry 0) ≡ Fault 254 = sym (cond-false (slice_index entry 0 == 0) (Plain (of_bytes (drop 1 entry))) (Fault (slice_index entry 0)) error) ∙ bad in
      let same : slice_index entry 0 ≡ 254 = cc in absurd (omega arith)
]

pub known_next : {V : Type 0} {N : ℕ} (of_bytes : List ℕ → V) (members : List ℕ) (round : Round N) → HaveNext members round → (q : ℕ) → has_id members q ≡ true → next_in (term_in of_bytes) round q ≢ Fault 254
known_next {V} {N} of_bytes members round more q on bad = elim (cases_Bool (has_id round.present q)) [
  | inl here ↦
      let e : IsEntryAt round.width round.room.now (slice_index round.next q) = more.each q on here in
      let entry : List ℕ = take round.width (drop (slice_index round.next q) round.room.now) in
      let tag : slice_index entry 0 ≡ slice_index round.room.now (slice_index round.next q) =
      get_or-take round.width (drop (slice_index round.next q) round.room.now) 0 0 more.wide ∙ get_or-drop (slice_index round.next q) round.room.now 0 0 ∙ ap (slice_index round.room.now) (omega arith) in
      known_read of_bytes entry (omega (arith, tag, e.tagged)) (sym (cond-true (has_id round.present q) (term_in of_bytes entry) (Fault 0) here) ∙ bad)
  | inr gone ↦
      let e : Fault 0 ≡ Fault 254 = sym (cond-false (has_id round.present q) (term_in of_bytes (take round.width (drop (slice_index round.next q) round.room.now))) (Fault 0) gone) ∙ bad in cc
]

-- those of some members
pub known_each : {V : Type 0} (f : ℕ → Wrapped V) (xs : List ℕ) → ((q : ℕ) → has_id xs q ≡ true → f q ≢ Fault 254) → AreKnown (map f xs)
known_each f [] h k bad = cc
known_each f (x ∷ xs) h zero bad = h x (or_left (x == x) (has_id xs x) (eq-eqb x x refl)) bad
known_each f (x ∷ xs) h (suc k) bad = known_each f xs (λ q on. h q (or_right (x == q) (has_id xs q) on)) k bad

-- ---- a term at a place

pub said_at : {V : Type 0} (terms : List (Term V)) (k : ℕ) (t : Term V) → t ≡ get_or terms k t → k < length terms → said t ≡ get_or (map said terms) k (Fault 0)
said_at terms k t is low = ap said is ∙ sym (get_or-map said terms k t (Fault 0) low)

pub known_at : {V : Type 0} (terms : List (Term V)) (k : ℕ) (t : Term V) → t ≡ get_or terms k t → k < length terms → AreKnown (map said terms) → said t ≢ Fault 254
known_at terms k t is low known bad = known k (sym (said_at terms k t is low) ∙ bad)

-- ---- items, which are no errors that were wrapped

pub known_item : {V : Type 0} (item : Option V) → term_of item ≢ Fault 254
known_item None bad = cc
known_item (Some v) bad = cc

pub known_one : {V : Type 0} (x : Wrapped V) → x ≢ Fault 254 → AreKnown (x ∷ [])
known_one x known zero bad = known bad
known_one x known (suc k) bad = cc

pub known_drop : {V : Type 0} (terms : List (Term V)) (n : ℕ) → AreKnown (map said terms) → AreKnown (map said (drop n terms))
known_drop terms n known k bad =
    known (n + k) (sym (ap (λ xs. get_or xs k (Fault 0)) (sym (drop-map said n terms)) ∙ get_or-drop n (map said terms) k (Fault 0)) ∙ bad)

pub known_take : {V : Type 0} (terms : List (Wrapped V)) (n : ℕ) → AreKnown terms → AreKnown (take n terms)
known_take terms n known k bad = elim (cases_lt k n) [
  | inl low ↦ known k (sym (get_or-take n terms k (Fault 0) low) ∙ bad)
  | inr past ↦ known_past (take n terms) k (omega (arith, length-take n terms, past)) bad
]
  where
    known_past : {V : Type 0} (terms : List (Wrapped V)) (k : ℕ) → length terms ≤ k → get_or terms k (Fault 0) ≢ Fault 254
    known_past terms k past bad = let e = sym (get_or_past terms k (Fault 0) past) ∙ bad in cc

-- what stands from a place on
pub rest_from : {X : Type 0} (n : ℕ) (xs : List X) → take (length xs - n) (drop n xs) ≡ drop n xs
rest_from n xs = take_all (length xs - n) (drop n xs) (omega (arith, length-drop n xs))

pub within_rest : {X : Type 0} (n many k : ℕ) (xs : List X) → n + many ≤ length xs → k < many → k < length (take (length xs - n) (drop n xs))
within_rest n many k xs room low = omega (arith, room, low, length-drop n xs, ap (λ ys. length ys) (rest_from n xs))

-- ---- terms of which nothing was heard

pub nothing_at : {V : Type 0} (m k : ℕ) → get_or (replicate {A = Wrapped V} m (Fault 0)) k (Fault 0) ≡ Fault 0
nothing_at {V} m k =
    let none : Wrapped V = Fault 0 in
    elim (cases_lt k m) [
      | inl low ↦ get_or-replicate m k none none low
      | inr past ↦ get_or_past (replicate m none) k none (omega (arith, length-replicate m none))
    ]

pub known_nothing : {V : Type 0} (m : ℕ) → AreKnown (replicate {A = Wrapped V} m (Fault 0))
known_nothing {V} m k bad = let none : Wrapped V = Fault 0 in let e : none ≡ Fault 254 = sym (nothing_at m k) ∙ bad in cc
