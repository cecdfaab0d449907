-- The table of the lines so far, with one line more, and what its free cells tell of overlaps.
use Rattle.std.proofs.Common.{◌≡◌, ◌≢◌, ℕ, suc, ◌+◌, ◌*◌, ◌/◌, ◌%◌, ◌<◌, ◌≤◌, max, zero, take, None, Some, Bool, true, false, cond, List, [], ◌∷◌, ◌++◌, length, get_or, refl, sym, ap, ◌∙◌, inl, inr, arith, eqb-true, leb-true, eq-eqb}
use Rattle.std.specs.Prelude.{◌==◌, nat_lt, slice_index}
use Rattle.std.specs.List.{list_all, list_any, position_or_len, find}
use Rattle.std.specs.Option.{option_map}
use Rattle.std.proofs.lemmas.Bool.{cases_Bool, cases_eq, and_parts, and_from, or_cases, or_left, or_right, or_parts, both_ways, le-leb, ne_eqb, false_from_ne_true, true_from_ne_false}
use Rattle.std.proofs.lemmas.List.{length_push}
use Rattle.std.proofs.lemmas.List.Folds.{position_or_len_push, list_all_at}
use Rattle.std.proofs.lemmas.Nat.{div-mul-add, mod-mul-add}
use Rattle.node_grid.specs.NodeSet.{has_id}
use Rattle.fault_classes.specs.Line.{Line, touches, shares, effect_at}
use Rattle.fault_classes.specs.Rules.{is_line}
use Rattle.fault_classes.specs.declared.blocks.Blocks.{Blocks}
use Rattle.fault_classes.specs.Cells.{mark_of, entry_of, cell_at, place_at, touches_cell, IsTable, IsMarked, IsTaken}
use Rattle.fault_classes.proofs.Ranges.{line_facts}

-- ---- places of a cell

pub cell_digits : (nodes slots p s i j : ℕ) → s < slots → i < nodes → j < nodes → (b : Line) → touches_cell nodes slots (cell_at nodes slots p s i j) b ≡ touches p s i j b
cell_digits nodes slots p s i j hs hi hj b =
    let row : ((p * nodes + i) * slots + s) * nodes + j ≡ cell_at nodes slots p s i j = refl in
    let r : cell_at nodes slots p s i j / nodes ≡ (p * nodes + i) * slots + s = div-mul-add ((p * nodes + i) * slots + s) nodes j hj in
    let to : cell_at nodes slots p s i j % nodes ≡ j = mod-mul-add ((p * nodes + i) * slots + s) nodes j hj in
    let block : ((p * nodes + i) * slots + s) / slots ≡ p * nodes + i = div-mul-add (p * nodes + i) slots s hs in
    let slot : ((p * nodes + i) * slots + s) % slots ≡ s = mod-mul-add (p * nodes + i) slots s hs in
    let from : (p * nodes + i) % nodes ≡ i = mod-mul-add p nodes i hi in
    let period : (p * nodes + i) / nodes ≡ p = div-mul-add p nodes i hi in
    rw (to, r, block, slot, from, period) refl

-- ---- entries

position_le : {X : Type 0} (test : X → Bool) (xs : List X) → position_or_len test xs ≤ length xs
position_le test [] = omega arith
position_le test (x ∷ xs) = elim (cases_Bool (test x)) [
  | inl e ↦ rw e (omega arith)
  | inr e ↦ rw e (omega (arith, position_le test xs))
]

none_position : {X : Type 0} (test : X → Bool) (xs : List X) → list_any test xs ≡ false → position_or_len test xs ≡ length xs
none_position test [] h = refl
none_position test (x ∷ xs) h =
    let p = or_parts (test x) (list_any test xs) h in
    let fails : test x ≡ false = p.0 in
    let rest : position_or_len test xs ≡ length xs = none_position test xs p.1 in
    rw fails (omega (arith, rest))

some_position : {X : Type 0} (test : X → Bool) (xs : List X) → list_any test xs ≡ true → position_or_len test xs < length xs
some_position test [] h = cc
some_position test (x ∷ xs) h = elim (cases_Bool (test x)) [
  | inl e ↦ rw e (omega arith)
  | inr e ↦
      let rest : list_any test xs ≡ true = rw e at h in
      rw e (omega (arith, some_position test xs rest))
]

entry_at : ℕ → ℕ → ℕ
entry_at place count = cond (nat_lt place count) (mark_of place) 0

entry_below : (place count : ℕ) → place < count → entry_at place count ≡ mark_of place
unfolding entry_at
entry_below place count h = let e : nat_lt place count ≡ true = grind arith in rw e refl

entry_end : (place count : ℕ) → count ≤ place → entry_at place count ≡ 0
unfolding entry_at
entry_end place count h = let e : nat_lt place count ≡ false = grind arith in rw e refl

entry_is : (test : Line → Bool) (xs : List Line) → entry_of test xs ≡ entry_at (position_or_len test xs) (length xs)
unfolding entry_at
entry_is test xs = refl

pub entry_none : (test : Line → Bool) (xs : List Line) → list_any test xs ≡ false → entry_of test xs ≡ 0
entry_none test xs h = entry_is test xs ∙ entry_end (position_or_len test xs) (length xs) (omega (arith, none_position test xs h))

entry_some : (test : Line → Bool) (xs : List Line) → list_any test xs ≡ true → entry_of test xs ≡ mark_of (position_or_len test xs)
entry_some test xs h = entry_is test xs ∙ entry_below (position_or_len test xs) (length xs) (some_position test xs h)

pub none_from_zero : (test : Line → Bool) (xs : List Line) → entry_of test xs ≡ 0 → list_any test xs ≡ false
none_from_zero test xs z = false_from_ne_true (list_any test xs) (λ some. let e : entry_of test xs ≡ mark_of (position_or_len test xs) = entry_some test xs some in omega arith)

pub some_from_entry : (test : Line → Bool) (xs : List Line) → entry_of test xs ≢ 0 → list_any test xs ≡ true
some_from_entry test xs ne = true_from_ne_false (list_any test xs) (λ none. ne (entry_none test xs none))

-- one line more
pub entry_push : (test : Line → Bool) (xs : List Line) (l : Line) (k : ℕ) → length xs ≡ k → (test l ≡ true → entry_of test xs ≡ 0)
    → entry_of test (xs ++ l ∷ []) ≡ cond (test l) (mark_of k) (entry_of test xs)
entry_push test xs l k many free = elim (cases_Bool (test l)) [
  | inl e ↦
      let none : position_or_len test xs ≡ length xs = none_position test xs (none_from_zero test xs (free e)) in
      let at : position_or_len test (xs ++ l ∷ []) ≡ k = position_or_len_push test xs l ∙ rw (none, e, eq-eqb (length xs) (length xs) refl) (omega arith) in
      entry_is test (xs ++ l ∷ []) ∙ entry_below (position_or_len test (xs ++ l ∷ [])) (length (xs ++ l ∷ [])) (omega (arith, length_push xs l))
      ∙ ap mark_of at ∙ rw e refl
  | inr e ↦ rw e (elim (cases_Bool (list_any test xs)) [
    | inl some ↦
        let low : position_or_len test xs < length xs = some_position test xs some in
        let ne : (position_or_len test xs == length xs) ≡ false = ne_eqb (position_or_len test xs) (length xs) (λ s. omega arith) in
        let at : position_or_len test (xs ++ l ∷ []) ≡ position_or_len test xs = position_or_len_push test xs l ∙ rw ne refl in
        entry_is test (xs ++ l ∷ []) ∙ entry_below (position_or_len test (xs ++ l ∷ [])) (length (xs ++ l ∷ [])) (omega (arith, length_push xs l))
        ∙ ap mark_of at ∙ sym (entry_some test xs some)
    | inr none ↦
        let full : position_or_len test xs ≡ length xs = none_position test xs none in
        let at : position_or_len test (xs ++ l ∷ []) ≡ length xs + 1 = position_or_len_push test xs l ∙ rw (full, e, eq-eqb (length xs) (length xs) refl) refl in
        entry_is test (xs ++ l ∷ []) ∙ entry_end (position_or_len test (xs ++ l ∷ [])) (length (xs ++ l ∷ [])) (omega (arith, length_push xs l))
        ∙ sym (entry_none test xs none)
  ])
]

-- ---- lines that share

pub any_more : {X : Type 0} (test other : X → Bool) (xs : List X) → ((x : X) → test x ≡ true → other x ≡ true) → list_any test xs ≡ true → list_any other xs ≡ true
any_more test other [] more h = h
any_more test other (x ∷ xs) more h = elim (or_cases (test x) (list_any test xs) h) [
  | inl e ↦ or_left (other x) (list_any other xs) (more x e)
  | inr e ↦ or_right (other x) (list_any other xs) (any_more test other xs more e)
]

common : (test : ℕ → Bool) (xs : List ℕ) → list_any test xs ≡ true → (k : ℕ) × (test k ≡ true) × (has_id xs k ≡ true)
common test [] h = cc
common test (x ∷ xs) h = elim (or_cases (test x) (list_any test xs) h) [
  | inl e ↦ (x, e, or_left (x == x) (has_id xs x) (eq-eqb x x refl))
  | inr e ↦ let r = common test xs e in (r.0, r.1, or_right (x == r.0) (has_id xs r.0) r.2)
]

at_common : (test : ℕ → Bool) (xs : List ℕ) (k : ℕ) → test k ≡ true → has_id xs k ≡ true → list_any test xs ≡ true
at_common test [] k t h = cc
at_common test (x ∷ xs) k t h = elim (or_cases (x == k) (has_id xs k) h) [
  | inl e ↦ or_left (test x) (list_any test xs) (ap test (eqb-true x k e) ∙ t)
  | inr e ↦ or_right (test x) (list_any test xs) (at_common test xs k t e)
]

-- the parts of a touch
pub record Touch (p s i j : ℕ) (l : Line) : Type 0 where
  pub from : l.from ≡ i
  pub to : has_id l.to j ≡ true
  pub slot : has_id l.slots s ≡ true
  pub after : l.first ≤ p
  pub before : p ≤ l.last

pub touch_parts : (p s i j : ℕ) (l : Line) → touches p s i j l ≡ true → Touch p s i j l
touch_parts p s i j l h =
    let a = and_parts _ _ h in
    let b = and_parts _ _ a.1 in
    let d = and_parts _ _ b.1 in
    let e = and_parts _ _ d.1 in
    record { from = eqb-true l.from i a.0; to = b.0; slot = d.0; after = leb-true l.first p e.0; before = leb-true p l.last e.1 }

pub touch_from : (p s i j : ℕ) (l : Line) → Touch p s i j l → touches p s i j l ≡ true
touch_from p s i j l t =
    and_from _ _ (eq-eqb l.from i t.from) (and_from _ _ t.to (and_from _ _ t.slot (and_from _ _ (le-leb l.first p t.after) (le-leb p l.last t.before))))

-- two lines that touch one frame share
pub share_at : (p s i j : ℕ) (a b : Line) → touches p s i j a ≡ true → touches p s i j b ≡ true → shares a b ≡ true
share_at p s i j a b ha hb =
    let x = touch_parts p s i j a ha in
    let y = touch_parts p s i j b hb in
    and_from _ _ (eq-eqb a.from b.from (x.from ∙ sym y.from))
    (and_from _ _ (at_common (has_id b.to) a.to j y.to x.to)
    (and_from _ _ (at_common (has_id b.slots) a.slots s y.slot x.slot)
    (and_from _ _ (le-leb a.first b.last (omega (arith, x.after, y.before))) (le-leb b.first a.last (omega (arith, y.after, x.before))))))

-- a frame that two lines touch
pub record Meeting (a b : Line) : Type 0 where
  pub period : ℕ
  pub slot : ℕ
  pub to : ℕ
  pub one : touches period slot a.from to a ≡ true
  pub two : touches period slot a.from to b ≡ true
  pub receives : has_id a.to to ≡ true
  pub chosen : has_id a.slots slot ≡ true

pub meet : (a b : Line) → a.first ≤ a.last → b.first ≤ b.last → shares a b ≡ true → Meeting a b
meet a b ra rb h =
    let x = and_parts _ _ h in
    let y = and_parts _ _ x.1 in
    let z = and_parts _ _ y.1 in
    let w = and_parts _ _ z.1 in
    let j = common (has_id b.to) a.to y.0 in
    let s = common (has_id b.slots) a.slots z.0 in
    let ab : a.first ≤ b.last = leb-true a.first b.last w.0 in
    let ba : b.first ≤ a.last = leb-true b.first a.last w.1 in
    let p : ℕ = max a.first b.first in
    record {
      period = p;
      slot = s.0;
      to = j.0;
      one = touch_from p s.0 a.from j.0 a (record { from = refl; to = j.2; slot = s.2; after = omega arith; before = omega arith });
      two = touch_from p s.0 a.from j.0 b (record { from = sym (eqb-true a.from b.from x.0); to = j.1; slot = s.1; after = omega arith; before = omega arith });
      receives = j.2;
      chosen = s.2;
    }

-- ---- the table with one line more

pub table_push : (nodes slots : ℕ) (blocks : Blocks) (xs : List Line) (l : Line) (k : ℕ) (old new : List ℕ) → IsTable nodes slots blocks xs old → length xs ≡ k
    → IsMarked (place_at nodes slots blocks.numbers.items) (λ c. touches_cell nodes slots c l) (mark_of k) old new → IsTable nodes slots blocks (xs ++ l ∷ []) new
table_push nodes slots blocks xs l k old new t many m = record {
  whole = m.whole ∙ t.whole;
  entries = λ c. m.cells c ∙ ap (λ v. cond (touches_cell nodes slots c l) (mark_of k) v) (t.entries c)
      ∙ sym (entry_push (touches_cell nodes slots c) xs l k many (λ e. sym (t.entries c) ∙ m.free c e));
}

pub witness : (test ok : Line → Bool) (xs : List Line) → list_any test xs ≡ true → list_all ok xs ≡ true
    → (x : Line) × (test x ≡ true) × (ok x ≡ true) × ((f : Line → Bool) → f x ≡ true → list_any f xs ≡ true)
witness test ok [] h a = cc
witness test ok (x ∷ xs) h a =
    let p = and_parts (ok x) (list_all ok xs) a in
    elim (or_cases (test x) (list_any test xs) h) [
      | inl e ↦ (x, e, p.0, λ f fx. or_left (f x) (list_any f xs) fx)
      | inr e ↦ let r = witness test ok xs e p.1 in (r.0, r.1, r.2, λ f fx. or_right (f x) (list_any f xs) (r.3 f fx))
    ]

pub all_taken : {X : Type 0} (ok : X → Bool) (xs : List X) (k : ℕ) → list_all ok xs ≡ true → list_all ok (take k xs) ≡ true
all_taken ok xs zero h = refl
all_taken ok [] (suc k) h = refl
all_taken ok (x ∷ xs) (suc k) h = let p = and_parts (ok x) (list_all ok xs) h in and_from _ _ p.0 (all_taken ok xs k p.1)

pub apart_if_marked : (nodes slots periods : ℕ) (blocks : Blocks) (xs : List Line) (l : Line) (m : ℕ) (old new : List ℕ) → IsTable nodes slots blocks xs old
    → IsMarked (place_at nodes slots blocks.numbers.items) (λ c. touches_cell nodes slots c l) m old new → is_line nodes slots periods l ≡ true → list_all (is_line nodes slots periods) xs ≡ true
    → list_any (shares l) xs ≡ false
apart_if_marked nodes slots periods blocks xs l m old new t marked ok all = false_from_ne_true (list_any (shares l) xs) (λ some.
    let w = witness (shares l) (is_line nodes slots periods) xs some all in
    let a = line_facts nodes slots periods l ok in
    let b = line_facts nodes slots periods w.0 w.2 in
    let at = meet l w.0 a.ordered b.ordered w.1 in
    let c : ℕ = cell_at nodes slots at.period at.slot l.from at.to in
    let digits : (x : Line) → touches_cell nodes slots c x ≡ touches at.period at.slot l.from at.to x =
    cell_digits nodes slots at.period at.slot l.from at.to (a.in_slots at.slot at.chosen) a.from (a.to at.to at.receives) in
    let free : slice_index old (place_at nodes slots blocks.numbers.items c) ≡ 0 = marked.free c (digits l ∙ at.one) in
    let none : list_any (touches_cell nodes slots c) xs ≡ false = none_from_zero (touches_cell nodes slots c) xs (sym (t.entries c) ∙ free) in
    both_ways (list_any (touches_cell nodes slots c) xs) none (w.3 (touches_cell nodes slots c) (digits w.0 ∙ at.two)))

pub overlaps_if_taken : (nodes slots : ℕ) (blocks : Blocks) (xs : List Line) (l : Line) (old : List ℕ) → IsTable nodes slots blocks xs old
    → IsTaken (place_at nodes slots blocks.numbers.items) (λ c. touches_cell nodes slots c l) old → list_any (shares l) xs ≡ true
overlaps_if_taken nodes slots blocks xs l old t taken =
    let c = taken.0 in
    let some : list_any (touches_cell nodes slots c) xs ≡ true = some_from_entry (touches_cell nodes slots c) xs (λ z. taken.2 (t.entries c ∙ z)) in
    any_more (touches_cell nodes slots c) (shares l) xs (λ x h. share_at _ _ _ _ l x taken.1 h) some

pub all_here : {X : Type 0} (ok : X → Bool) (xs : List X) (k : ℕ) (d : X) → k < length xs → list_all ok xs ≡ true → ok (get_or xs k d) ≡ true
all_here ok xs k d h all = true_from_ne_false (ok (get_or xs k d)) (λ fails. both_ways (list_all ok xs) (list_all_at ok xs k d h fails) all)

pub any_here : {X : Type 0} (test : X → Bool) (xs : List X) (k : ℕ) (d : X) → k < length xs → test (get_or xs k d) ≡ true → list_any test xs ≡ true
any_here test [] k d h on = absurd (omega arith)
any_here test (x ∷ xs) zero d h on = or_left (test x) (list_any test xs) on
any_here test (x ∷ xs) (suc k) d h on = or_right (test x) (list_any test xs) (any_here test xs k d (omega arith) on)

-- ---- look-ups

pub find_none : (test : Line → Bool) (xs : List Line) → list_any test xs ≡ false → find test xs ≡ None
find_none test [] h = refl
find_none test (x ∷ xs) h = let p = or_parts (test x) (list_any test xs) h in let fails : test x ≡ false = p.0 in rw fails (find_none test xs p.1)

find_some : (test : Line → Bool) (xs : List Line) (d : Line) → list_any test xs ≡ true → find test xs ≡ Some (get_or xs (position_or_len test xs) d)
find_some test [] d h = cc
find_some test (x ∷ xs) d h = elim (cases_Bool (test x)) [
  | inl e ↦ rw e refl
  | inr e ↦
      let rest : list_any test xs ≡ true = rw e at h in
      let next : 1 + position_or_len test xs ≡ suc (position_or_len test xs) = omega arith in
      rw e (find_some test xs d rest ∙ ap (λ k. Some (get_or (x ∷ xs) k d)) (sym next))
]

pub effect_none : (p s i j : ℕ) (xs : List Line) → entry_of (touches p s i j) xs ≡ 0 → effect_at xs p s i j ≡ None
effect_none p s i j xs h = ap (option_map (λ l. l.change)) (find_none (touches p s i j) xs (none_from_zero (touches p s i j) xs h))

-- the place that an entry tells
pub entry_place : (test : Line → Bool) (xs : List Line) → length xs ≤ 4096 → entry_of test xs ≢ 0 → (position_or_len test xs < length xs) × (entry_of test xs ≡ position_or_len test xs + 1)
entry_place test xs few ne =
    let some : list_any test xs ≡ true = some_from_entry test xs ne in
    let low : position_or_len test xs < length xs = some_position test xs some in
    let e : entry_of test xs ≡ mark_of (position_or_len test xs) = entry_some test xs some in
    (low, e ∙ omega arith)

pub effect_some : (p s i j : ℕ) (xs : List Line) (d : Line) → entry_of (touches p s i j) xs ≢ 0 → effect_at xs p s i j ≡ Some ((get_or xs (position_or_len (touches p s i j) xs) d).change)
effect_some p s i j xs d ne = ap (option_map (λ l. l.change)) (find_some (touches p s i j) xs d (some_from_entry (touches p s i j) xs ne))

pub same_entry : (test other : Line → Bool) (xs : List Line) → ((x : Line) → test x ≡ other x) → entry_of test xs ≡ entry_of other xs
unfolding entry_at
same_entry test other xs same = ap (λ k. entry_at k (length xs)) (places xs)
  where
    places : (ys : List Line) → position_or_len test ys ≡ position_or_len other ys
    places [] = refl
    places (y ∷ ys) = let e : test y ≡ other y = same y in let rest : position_or_len test ys ≡ position_or_len other ys = places ys in rw (e, rest) refl

-- frames with one entry are touched alike
pub same_from_entries : (p s i j h : ℕ) (xs : List Line) → length xs ≤ 4096 → entry_of (touches p s i j) xs ≡ entry_of (touches p s i h) xs → effect_at xs p s i j ≡ effect_at xs p s i h
same_from_entries p s i j h [] few e = refl
same_from_entries p s i j h (x ∷ xs) few e = elim (cases_eq (entry_of (touches p s i j) (x ∷ xs)) 0) [
  | inl z ↦ effect_none p s i j (x ∷ xs) z ∙ sym (effect_none p s i h (x ∷ xs) (sym e ∙ z))
  | inr ne ↦
      let a = entry_place (touches p s i j) (x ∷ xs) few ne in
      let b = entry_place (touches p s i h) (x ∷ xs) few (λ z. ne (e ∙ z)) in
      let same : position_or_len (touches p s i j) (x ∷ xs) ≡ position_or_len (touches p s i h) (x ∷ xs) = omega (arith, a.1, b.1, e) in
      effect_some p s i j (x ∷ xs) x ne ∙ ap (λ k. Some ((get_or (x ∷ xs) k x).change)) same ∙ sym (effect_some p s i h (x ∷ xs) x (λ z. ne (e ∙ z)))
]
