-- A loop over members that reads an entry of the frame of each.
use Rattle.std.proofs.Common.{ℕ, ◌≡◌, ◌<◌, ◌+◌, ◌*◌, ◌-◌, ◌==◌, ◌||◌, Bool, true, false, List, [], ◌∷◌, ◌++◌, length, map, take, drop, refl, sym, ap, ap₂, subst, ◌∙◌, inl, inr, arith, eq-eqb, eqb-true, append-nil}
use Rattle.std.specs.Prelude.{slice_index}
use Rattle.std.proofs.lemmas.Bool.{cases_Bool, cond-false, both_ways, or_cases, or_left, or_right}
use Rattle.std.proofs.lemmas.List.{map-append, length-append}
use Rattle.node_grid.specs.NodeSet.{has_id, IsIdSet}
use Rattle.node_grid.specs.Count.{bit, Distinct}
use Rattle.node_grid.specs.ListLaws.{has_push}
use Rattle.node_grid.specs.SetFacts.{has_middle, member-lt}
use Rattle.omh_paths.specs.declared.wrapped.Wrapped.{Wrapped}
use Rattle.omh_paths.specs.declared.wrapped.Wrapped.TheVariants.{Fault}
use Rattle.omh_paths.specs.MemberLaws.{Distinct-ids}
use Rattle.relay_walk.specs.declared.round.Round.{Round}
use Rattle.relay_walk.specs.Walking.{says_at, next_in, last_in, IsEntryAt, HaveNext, HaveLast, IsMoved}

-- ---- the member that comes next

pub record IsTurn (n : ℕ) (members ys : List ℕ) (q : ℕ) : Type 0 where
  pub low : q < n
  pub on : has_id members q ≡ true
  pub fresh : has_id ys q ≡ false
  pub short : length ys < length members

new_there : (ys : List ℕ) (q : ℕ) (rest : List ℕ) → Distinct (ys ++ q ∷ rest) → has_id ys q ≡ false
new_there [] q rest d = refl
new_there (y ∷ ys) q rest d = elim (cases_Bool (y == q)) [
  | inl same ↦ absurd (both_ways _ d.0 (ap (has_id (ys ++ q ∷ rest)) (eqb-true y q same) ∙ has_middle ys q rest))
  | inr other ↦ ap₂ (λ (a b : Bool). a || b) other (new_there ys q rest d.1)
]

pub turn : (n : ℕ) (members ys rest left : List ℕ) (q : ℕ) → IsIdSet n members → members ≡ ys ++ left → left ≡ q ∷ rest → IsTurn n members ys q
turn n members ys rest left q ids split steps =
    let all : members ≡ ys ++ q ∷ rest = split ∙ ap (λ (xs : List ℕ). ys ++ xs) steps in
    let on : has_id members q ≡ true = ap (λ (xs : List ℕ). has_id xs q) all ∙ has_middle ys q rest in
    record {
      low = member-lt n members q ids on;
      on = on;
      fresh = new_there ys q rest (subst Distinct all (Distinct-ids n members ids));
      short = let e = ap length all in let l = length-append ys (q ∷ rest) in omega arith;
    }

pub split_all : (members ys left : List ℕ) → members ≡ ys ++ left → left ≡ [] → ys ≡ members
split_all members ys left split none = sym (split ∙ ap (λ (xs : List ℕ). ys ++ xs) none ∙ append-nil ys)

pub only : (q x : ℕ) → has_id (q ∷ []) x ≡ true → q ≡ x
only q x h = elim (or_cases (q == x) false h) [ inl e ↦ eqb-true q x e | inr no_way ↦ absurd (cc) ]

pub itself : (q : ℕ) → has_id (q ∷ []) q ≡ true
itself q = or_left (q == q) false (eq-eqb q q refl)

-- two functions that agree on the members
pub map_on : {Y : Type 0} (f g : ℕ → Y) (xs : List ℕ) → ((q : ℕ) → has_id xs q ≡ true → f q ≡ g q) → map f xs ≡ map g xs
map_on f g [] h = refl
map_on f g (x ∷ xs) h = ap₂ ◌∷◌ (h x (or_left (x == x) (has_id xs x) (eq-eqb x x refl))) (map_on f g xs (λ q on. h q (or_right (x == q) (has_id xs q) on)))

pub map_more : {Y : Type 0} (f : ℕ → Y) (xs : List ℕ) (q : ℕ) (y : Y) → y ≡ f q → map f xs ++ y ∷ [] ≡ map f (xs ++ q ∷ [])
map_more {Y} f xs q y is = ap (λ (z : Y). map f xs ++ z ∷ []) is ∙ sym (map-append f xs (q ∷ []))

-- ---- frames that were read by one entry

pub moved_none : {N : ℕ} (round : Round N) → IsMoved [] round round
moved_none round = record {
  next = λ q low on. omega arith;
  begins = refl;
  room = refl;
  present = refl;
  width = refl;
  size = refl;
}

pub moved_more : {N : ℕ} (xs : List ℕ) (q : ℕ) (old now new : Round N) → IsMoved xs old now → IsMoved (q ∷ []) now new → has_id xs q ≡ false → IsMoved (xs ++ q ∷ []) old new
moved_more {N} xs q old now new was is fresh = record {
  next = λ x low on.
      let first = was.next x low on in
      let then = is.next x low (ap (λ (s : List ℕ). has_id s x) was.present ∙ on) in
      let wide = was.width in
      elim (cases_Bool (q == x)) [
        | inl same ↦
            let here : q ≡ x = eqb-true q x same in
            let a : old.width * bit (has_id xs x) ≡ 0 = ap (λ (b : Bool). old.width * bit b) (ap (has_id xs) (sym here) ∙ fresh) ∙ omega arith in
            let b : now.width * bit (has_id (q ∷ []) x) ≡ old.width = ap₂ (λ (w : ℕ) (b : Bool). w * bit (b || false)) wide same ∙ omega arith in
            let c : old.width * bit (has_id (xs ++ q ∷ []) x) ≡ old.width = ap (λ (b : Bool). old.width * bit b) (has_push xs q x ∙ or_right (has_id xs x) (q == x) same) ∙ omega arith in
            omega arith
        | inr other ↦
            let b : now.width * bit (has_id (q ∷ []) x) ≡ 0 = ap (λ (b : Bool). now.width * bit (b || false)) other ∙ omega arith in
            let c : old.width * bit (has_id (xs ++ q ∷ []) x) ≡ old.width * bit (has_id xs x) =
            ap (λ (b : Bool). old.width * bit b) (has_push xs q x ∙ ap (λ (b : Bool). has_id xs x || b) other ∙ or-none (has_id xs x)) in
            omega arith
      ];
  begins = is.begins ∙ was.begins;
  room = is.room ∙ was.room;
  present = is.present ∙ was.present;
  width = is.width ∙ was.width;
  size = is.size ∙ was.size;
}
  where
    or-none : (b : Bool) → (b || false) ≡ b
    or-none true = refl
    or-none false = refl

-- a frame that didn't come isn't read
pub moved_gone : {N : ℕ} (q : ℕ) (round : Round N) → has_id round.present q ≡ false → IsMoved (q ∷ []) round round
moved_gone {N} q round gone = record {
  next = λ x low on. elim (cases_Bool (q == x)) [
    | inl same ↦ absurd (both_ways _ gone (ap (has_id round.present) (eqb-true q x same) ∙ on))
    | inr other ↦ let b : round.width * bit (has_id (q ∷ []) x) ≡ 0 = ap (λ (b : Bool). round.width * bit (b || false)) other ∙ omega arith in omega arith
  ];
  begins = refl;
  room = refl;
  present = refl;
  width = refl;
  size = refl;
}

module _ {N : ℕ} (ys : List ℕ) (old now : Round N) (moved : IsMoved ys old now) (q : ℕ) (low : q < N) where
  unread_at : has_id ys q ≡ false → has_id old.present q ≡ true → slice_index now.next q ≡ slice_index old.next q
  unread_at fresh here = moved.next q low here ∙ ap (λ (b : Bool). slice_index old.next q + old.width * bit b) fresh ∙ omega arith

  read_at : has_id ys q ≡ true → has_id old.present q ≡ true → slice_index now.next q ≡ slice_index old.next q + old.width
  read_at on here = moved.next q low here ∙ ap (λ (b : Bool). slice_index old.next q + old.width * bit b) on ∙ omega arith

  came : has_id now.present q ≡ true → has_id old.present q ≡ true
  came here = ap (λ (s : List ℕ). has_id s q) (sym moved.present) ∙ here

  says_alike : {V : Type 0} (read : List ℕ → Wrapped V) (at was : ℕ) → (has_id old.present q ≡ true → at ≡ was)
      → says_at read now.present now.width now.room.now q at ≡ says_at read old.present old.width old.room.now q was
  says_alike {V} read at was same =
      ap (λ (p : List ℕ). says_at read p now.width now.room.now q at) moved.present
      ∙ ap₂ (λ (w : ℕ) (bytes : List ℕ). says_at read old.present w bytes q at) moved.width moved.room
      ∙ elim (cases_Bool (has_id old.present q)) [
        | inl here ↦ ap (says_at read old.present old.width old.room.now q) (same here)
        | inr gone ↦
            cond-false (has_id old.present q) (read (take old.width (drop at old.room.now))) (Fault 0) gone
            ∙ sym (cond-false (has_id old.present q) (read (take old.width (drop was old.room.now))) (Fault 0) gone)
      ]

  -- what is next of a frame that wasn't read, and what was next of one that was
  pub next_same : {V : Type 0} (read : List ℕ → Wrapped V) → has_id ys q ≡ false → next_in read now q ≡ next_in read old q
  next_same read fresh = says_alike read (slice_index now.next q) (slice_index old.next q) (unread_at fresh)

  pub last_same : {V : Type 0} (read : List ℕ → Wrapped V) → has_id ys q ≡ true → last_in read now q ≡ next_in read old q
  last_same read on = says_alike read (slice_index now.next q - now.width) (slice_index old.next q) (λ here. omega (arith, read_at on here, moved.width))

  entry_alike : (at was : ℕ) → at ≡ was → IsEntryAt old.width old.room.now was → IsEntryAt now.width now.room.now at
  entry_alike at was same e =
      let long = ap (λ (bytes : List ℕ). length bytes) moved.room in
      let tag : slice_index now.room.now at ≡ slice_index old.room.now was = ap₂ (λ (bytes : List ℕ) (k : ℕ). slice_index bytes k) moved.room same in
      record { within = omega (arith, e.within, moved.width); tagged = omega (arith, e.tagged) }

  pub more_at : (members : List ℕ) → HaveNext members old → has_id members q ≡ true → has_id ys q ≡ false → HaveNext (q ∷ []) now
  more_at members more on fresh = record {
    sized = more.sized;
    low = λ x one. subst (λ (x : ℕ). x < N) (only q x one) low;
    wide = omega (arith, more.wide, moved.width);
    each = λ x one here.
        let is : q ≡ x = only q x one in
        let present : has_id now.present q ≡ true = ap (has_id now.present) is ∙ here in
        subst (λ (x : ℕ). IsEntryAt now.width now.room.now (slice_index now.next x)) is
        (entry_alike (slice_index now.next q) (slice_index old.next q) (unread_at fresh (came present)) (more.each q on (came present)));
  }

-- after all of them were read each has an entry before its next one
pub have_last : {N : ℕ} (members : List ℕ) (old now : Round N) → HaveNext members old → IsMoved members old now → HaveLast members now
have_last {N} members old now more moved = let low = more.low in record {
  sized = more.sized;
  low = low;
  wide = omega (arith, more.wide, moved.width);
  some = λ q on here. omega (arith, read_at members old now moved q (low q on) on (came members old now moved q (low q on) here), moved.width);
  each = λ q on here.
      let was = came members old now moved q (low q on) here in
      entry_alike members old now moved q (low q on) (slice_index now.next q - now.width) (slice_index old.next q)
      (omega (arith, read_at members old now moved q (low q on) on was, moved.width)) (more.each q on was);
}

pub one_last : {N : ℕ} (members : List ℕ) (now : Round N) (q : ℕ) → HaveLast members now → has_id members q ≡ true → HaveLast (q ∷ []) now
one_last members now q h on = record {
  sized = h.sized;
  low = λ x one. h.low x (ap (has_id members) (sym (only q x one)) ∙ on);
  wide = h.wide;
  some = λ x one here. h.some x (ap (has_id members) (sym (only q x one)) ∙ on) here;
  each = λ x one here. h.each x (ap (has_id members) (sym (only q x one)) ∙ on) here;
}

-- what these say once they were read
pub lasts_are : {V : Type 0} {N : ℕ} (read : List ℕ → Wrapped V) (members : List ℕ) (old now : Round N) → IsMoved members old now → ((q : ℕ) → has_id members q ≡ true → q < N)
    → map (last_in read now) members ≡ map (next_in read old) members
lasts_are read members old now moved low = map_on (last_in read now) (next_in read old) members (λ q on. last_same members old now moved q (low q on) read on)
