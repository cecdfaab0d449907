-- Entries in the order of their slots.
use Rattle.std.proofs.Common.{ℕ, zero, suc, ◌≡◌, ◌<◌, ◌≤◌, ◌+◌, ◌==◌, ◌⊎◌, Bool, true, false, if◌then◌else◌, List, [], ◌∷◌, map, filter, get_or, drop, refl, sym, ap, ap₂, ◌∙◌, inl, inr, arith, eq-eqb, ne_eqb}
use Rattle.std.specs.Prelude.{All, not, ◌&&◌, ◌||◌, nat_lt}
use Rattle.std.proofs.lemmas.Bool.{cases_eq, cases_lt, cases_Bool, cond-true, cond-false, lt-ltb, le-ltb, true≢false, eqb-true, and_parts, not_from_true, not_from_false, false_from_ne_true, true_from_ne_false, not-true, not-false}
use Rattle.std.proofs.lemmas.List.Elements.{All-cons, All-head, All-tail, All-weaker, filter_passes}
use Rattle.std.proofs.lemmas.List.Kept.{AllPairs-cons}
use Rattle.node_alone.specs.Log.{Entry, is_at, is_before, arriving, arrivals}
use Rattle.node_alone.specs.Seen.{IsPlaced, Ascends}
use Rattle.node_alone.specs.Stepping.{from_slot}

-- ---- one entry

abbrev Earlier : ℕ → ℕ → Entry → Type 0
Earlier p t e = (e.period < p) ⊎ ((e.period ≡ p) × (e.slot < t))

abbrev pub Later : ℕ → ℕ → Entry → Type 0
Later p t e = (p < e.period) ⊎ ((e.period ≡ p) × (t ≤ e.slot))

one_of : (p t : ℕ) (e : Entry) → Earlier p t e ⊎ Later p t e
one_of p t e = elim (cases_lt e.period p) [
  | inl l ↦ inl (inl l)
  | inr g ↦ elim (cases_eq e.period p) [
    | inl same ↦ elim (cases_lt e.slot t) [ inl l ↦ inl (inr (same, l)) | inr h ↦ inr (inr (same, h)) ]
    | inr off ↦ inr (inl (omega (arith, g, off)))
  ]
]

pub before_if : (p t : ℕ) (e : Entry) → Earlier p t e → is_before p t e ≡ true
before_if p t e h = elim h [
  | inl l ↦ ap (λ b. b || ((e.period == p) && nat_lt e.slot t)) (lt-ltb e.period p l)
  | inr w ↦ ap₂ ◌||◌ (le-ltb e.period p (let q = w.0 in omega (arith, q))) (ap₂ ◌&&◌ (eq-eqb e.period p w.0) (lt-ltb e.slot t w.1))
]

pub not_before_if : (p t : ℕ) (e : Entry) → Later p t e → is_before p t e ≡ false
not_before_if p t e h = elim h [
  | inl l ↦ ap₂ ◌||◌ (le-ltb e.period p (omega (arith, l))) (ap (λ b. b && nat_lt e.slot t) (ne_eqb e.period p (λ q. omega (arith, l, q))))
  | inr w ↦ ap₂ ◌||◌ (le-ltb e.period p (let q = w.0 in omega (arith, q))) (ap₂ ◌&&◌ (eq-eqb e.period p w.0) (le-ltb e.slot t w.1))
]

pub if_not_before : (p t : ℕ) (e : Entry) → is_before p t e ≡ false → Later p t e
if_not_before p t e h = elim (one_of p t e) [ inl early ↦ absurd (true≢false (sym (before_if p t e early) ∙ h)) | inr late ↦ late ]

pub at_if : (p t : ℕ) (e : Entry) → e.period ≡ p → e.slot ≡ t → is_at p t e ≡ true
at_if p t e a b = ap₂ ◌&&◌ (eq-eqb e.period p a) (eq-eqb e.slot t b)

pub if_at : (p t : ℕ) (e : Entry) → is_at p t e ≡ true → (e.period ≡ p) × (e.slot ≡ t)
if_at p t e h = let w = and_parts (e.period == p) (e.slot == t) h in (eqb-true e.period p w.0, eqb-true e.slot t w.1)

pub not_at_if : (p t : ℕ) (e : Entry) → (e.period ≡ p → e.slot ≡ t → ⊥) → is_at p t e ≡ false
not_at_if p t e h = false_from_ne_true (is_at p t e) (λ q. let w = if_at p t e q in h w.0 w.1)

-- what is before a slot is in none from that one on
early_not_at : (p t : ℕ) (e : Entry) → is_before p t e ≡ true → is_at p t e ≡ false
early_not_at p t e h = not_at_if p t e (λ a b. true≢false (sym h ∙ not_before_if p t e (inr (a, omega (arith, b)))))

-- and is before the next slot
early_still : (p t : ℕ) (e : Entry) → is_before p t e ≡ true → is_before p (t + 1) e ≡ true
early_still p t e h = true_from_ne_false (is_before p (t + 1) e) (λ q. elim (if_not_before p (t + 1) e q) [
  | inl l ↦ true≢false (sym h ∙ not_before_if p t e (inl l))
  | inr w ↦ true≢false (sym h ∙ not_before_if p t e (inr (w.0, let z = w.1 in omega (arith, z))))
])

-- an entry of no earlier slot that isn't of this one is of a later one
pub passes : (p t : ℕ) (e : Entry) → is_before p t e ≡ false → (e.period ≡ p → e.slot ≡ t → ⊥) → is_before p (t + 1) e ≡ false
passes p t e h off = elim (if_not_before p t e h) [
  | inl l ↦ not_before_if p (t + 1) e (inl l)
  | inr w ↦ elim (cases_eq e.slot t) [
    | inl same ↦ absurd (off w.0 same)
    | inr other ↦ not_before_if p (t + 1) e (inr (w.0, let z = w.1 in omega (arith, z, other)))
  ]
]

-- and so is each entry of no earlier slot than it
pub follows : (p t : ℕ) (a b : Entry) → is_before p t a ≡ false → is_before a.period a.slot b ≡ false → is_before p t b ≡ false
follows p t a b h k = elim (if_not_before p t a h) [
  | inl l ↦ elim (if_not_before a.period a.slot b k) [
    | inl m ↦ not_before_if p t b (inl (omega (arith, l, m)))
    | inr w ↦ not_before_if p t b (inl (let z = w.0 in omega (arith, l, z)))
  ]
  | inr v ↦ elim (if_not_before a.period a.slot b k) [
    | inl m ↦ not_before_if p t b (inl (let z = v.0 in omega (arith, m, z)))
    | inr w ↦ not_before_if p t b (inr (let y = v.0 in let z = w.0 in omega (arith, y, z), let y = v.1 in let z = w.1 in omega (arith, y, z)))
  ]
]

later_not_at : (p t : ℕ) (e : Entry) → is_before p (t + 1) e ≡ false → is_at p t e ≡ false
later_not_at p t e h = not_at_if p t e (λ a b. true≢false (sym (before_if p (t + 1) e (inr (a, omega (arith, b)))) ∙ h))

-- ---- lists of them

module _ {X : Type 0} (q r : X → Bool) where
  -- what a test keeps of what another one kept, where it keeps nothing that the other drops
  filter_through : ((x : X) → r x ≡ false → q x ≡ false) → (xs : List X) → filter q (filter r xs) ≡ filter q xs
  filter_through h [] = refl
  filter_through h (x ∷ xs) = elim (cases_Bool (r x)) [
    | inl e ↦ ap (filter q) (cond-true (r x) (x ∷ filter r xs) (filter r xs) e) ∙ ap (λ ys. if q x then x ∷ ys else ys) (filter_through h xs)
    | inr e ↦ ap (filter q) (cond-false (r x) (x ∷ filter r xs) (filter r xs) e) ∙ filter_through h xs ∙ sym (cond-false (q x) (x ∷ filter q xs) (filter q xs) (h x e))
  ]

module _ {X : Type 0} (q : X → Bool) where
  filter_all : (xs : List X) → All (λ x. q x ≡ true) xs → filter q xs ≡ xs
  filter_all [] h = refl
  filter_all (x ∷ xs) h =
      cond-true (q x) (x ∷ filter q xs) (filter q xs) (All-head (λ x. q x ≡ true) x xs h) ∙ ap (λ ys. x ∷ ys) (filter_all xs (All-tail (λ x. q x ≡ true) x xs h))

  filter_none : (xs : List X) → All (λ x. q x ≡ false) xs → filter q xs ≡ []
  filter_none [] h = refl
  filter_none (x ∷ xs) h = cond-false (q x) (x ∷ filter q xs) (filter q xs) (All-head (λ x. q x ≡ false) x xs h) ∙ filter_none xs (All-tail (λ x. q x ≡ false) x xs h)

-- all entries are from the first slot on
none_before_first : (e : Entry) → not (is_before 0 0 e) ≡ true
none_before_first e = not_from_false (is_before 0 0 e) (not_before_if 0 0 e (elim (cases_eq e.period 0) [ inl z ↦ inr (z, omega arith) | inr n ↦ inl (omega (arith, n)) ]))

pub from_first : (es : List Entry) → from_slot 0 0 es ≡ es
from_first es = filter_all (λ e. not (is_before 0 0 e)) es (λ k d l. none_before_first (get_or es k d))

-- those of a slot are those of it among the ones from it on
pub at_from : (p t : ℕ) (es : List Entry) → filter (is_at p t) (from_slot p t es) ≡ filter (is_at p t) es
at_from p t es = filter_through (is_at p t) (λ e. not (is_before p t e)) (λ e h. early_not_at p t e (not-false (is_before p t e) h)) es

pub from_next : (p t : ℕ) (es : List Entry) → from_slot p (t + 1) (from_slot p t es) ≡ from_slot p (t + 1) es
from_next p t es = filter_through (λ e. not (is_before p (t + 1) e)) (λ e. not (is_before p t e)) (λ e h. not_from_true _ (early_still p t e (not-false (is_before p t e) h))) es

pub none_before : (p t : ℕ) (es : List Entry) → All (λ e. is_before p t e ≡ false) (from_slot p t es)
none_before p t es = All-weaker (λ e. not (is_before p t e) ≡ true) (λ e. is_before p t e ≡ false) (λ e h. not-true (is_before p t e) h) (from_slot p t es) (filter_passes (λ e. not (is_before p t e)) es)

-- the slots of a period are all that is of it
pub from_period : (nodes slots periods id p : ℕ) (es : List Entry) → All (IsPlaced nodes slots periods id) es → from_slot p slots es ≡ from_slot (suc p) 0 es
from_period nodes slots periods id p [] h = refl
from_period nodes slots periods id p (e ∷ es) h =
    let at = All-head (IsPlaced nodes slots periods id) e es h in
    ap₂ (λ (b : Bool) (ys : List Entry). if b then e ∷ ys else ys) (ap not (same at.slot)) (from_period nodes slots periods id p es (All-tail (IsPlaced nodes slots periods id) e es h))
  where
    same : e.slot < slots → is_before p slots e ≡ is_before (suc p) 0 e
    same l = elim (one_of p slots e) [
      | inl early ↦ before_if p slots e early ∙ sym (before_if (suc p) 0 e (elim early [ inl m ↦ inl (omega (arith, m)) | inr w ↦ inl (let z = w.0 in omega (arith, z)) ]))
      | inr late ↦ elim late [
        | inl m ↦ not_before_if p slots e (inl m) ∙ sym (not_before_if (suc p) 0 e (elim (cases_eq e.period (suc p)) [ inl z ↦ inr (z, omega arith) | inr n ↦ inl (omega (arith, m, n)) ]))
        | inr w ↦ absurd (let z = w.1 in omega (arith, z, l))
      ]
    ]

-- ---- entries that ascend

pub ascends_tail : (e : Entry) (es : List Entry) → Ascends (e ∷ es) → Ascends es
ascends_tail e es h i j d l within = h (suc i) (suc j) d (omega arith) (omega arith)

pub ascends_head : (e : Entry) (es : List Entry) → Ascends (e ∷ es) → All (λ f. is_before e.period e.slot f ≡ false) es
ascends_head e es h k d l = h zero (suc k) d (omega arith) (omega arith)

pub ascends_more : (e : Entry) (es : List Entry) → All (λ f. is_before e.period e.slot f ≡ false) es → Ascends es → Ascends (e ∷ es)
ascends_more e es = AllPairs-cons (λ a b. is_before a.period a.slot b ≡ false) e es

pub ascends_drop : (n : ℕ) (es : List Entry) → Ascends es → Ascends (drop n es)
ascends_drop zero es h = h
ascends_drop (suc n) [] h = h
ascends_drop (suc n) (e ∷ es) h = ascends_drop n es (ascends_tail e es h)

-- where the first is of a later slot, all are
pub all_later : (p t : ℕ) (e : Entry) (es : List Entry) → Ascends (e ∷ es) → is_before p (t + 1) e ≡ false → All (λ f. is_before p (t + 1) f ≡ false) (e ∷ es)
all_later p t e es h late = All-cons (λ f. is_before p (t + 1) f ≡ false) e es late
    (All-weaker (λ f. is_before e.period e.slot f ≡ false) (λ f. is_before p (t + 1) f ≡ false) (λ f k. follows p (t + 1) e f late k) es (ascends_head e es h))

pub later_stay : (p t : ℕ) (es : List Entry) → All (λ f. is_before p (t + 1) f ≡ false) es → from_slot p (t + 1) es ≡ es
later_stay p t es h = filter_all (λ e. not (is_before p (t + 1) e)) es
    (All-weaker (λ f. is_before p (t + 1) f ≡ false) (λ f. not (is_before p (t + 1) f) ≡ true) (λ f k. not_from_false (is_before p (t + 1) f) k) es h)

pub later_bring : (p t : ℕ) (es : List Entry) → All (λ f. is_before p (t + 1) f ≡ false) es → arrivals es p t ≡ []
later_bring p t es h = ap (map arriving) (filter_none (is_at p t) es (All-weaker (λ f. is_before p (t + 1) f ≡ false) (λ f. is_at p t f ≡ false) (λ f k. later_not_at p t f k) es h))

-- one entry of the slot more
pub bring_next : (p t : ℕ) (e : Entry) (es : List Entry) → e.period ≡ p → e.slot ≡ t → arrivals (e ∷ es) p t ≡ arriving e ∷ arrivals es p t
bring_next p t e es a b = ap (map arriving) (cond-true (is_at p t e) (e ∷ filter (is_at p t) es) (filter (is_at p t) es) (at_if p t e a b))

pub skip_next : (p t : ℕ) (e : Entry) (es : List Entry) → e.period ≡ p → e.slot ≡ t → from_slot p (t + 1) (e ∷ es) ≡ from_slot p (t + 1) es
skip_next p t e es a b =
    cond-false (not (is_before p (t + 1) e)) (e ∷ from_slot p (t + 1) es) (from_slot p (t + 1) es) (not_from_true _ (before_if p (t + 1) e (inr (a, omega (arith, b)))))
