-- When a node of a storm is off, and what lines and restarts there are when it isn't.
use Rattle.std.proofs.Common.{◌≡◌, ℕ, suc, ◌+◌, ◌*◌, ◌≤◌, Bool, true, false, ◌&&◌, ◌==◌, List, [], ◌∷◌, ◌++◌, None, refl, sym, ◌∙◌, inl, inr, arith, eqb-true, eq-eqb}
use Rattle.std.specs.Prelude.{nat_le}
use Rattle.std.specs.List.{find, list_any, AllByRecursion}
use Rattle.std.proofs.lemmas.Bool.{cases_lt, and_from, and_parts, or_parts, or_cases, or_from, or_left, or_right, both_ways, false_from_ne_true, leb-true, le-leb}
use Rattle.node_grid.specs.NodeSet.{has_id}
use Rattle.fault_classes.specs.Line.{Line, touches, effect_at}
use Rattle.fault_classes.specs.Plan.{is_restart_of}
use Rattle.storm.specs.declared.spell.Spell.{Spell}
use Rattle.storm.specs.Storm.{Block, lines_of, restarts_of}
use Rattle.storm.proofs.Off.{is_off_in, is_off}
use Rattle.storm.proofs.Shape.{IsSpell, IsLineOf, AreBlocks}

-- what it says of a node that it is off in a spell
record IsOff (p j : ℕ) (s : Spell) : Type 0 where
  node : s.node ≡ j
  begun : s.first ≤ p
  before_end : p ≤ s.first + 9

off_says : (p j : ℕ) (s : Spell) → is_off_in p j s ≡ true → IsOff p j s
off_says p j s h =
    let a = and_parts (s.node == j) _ h in
    let b = and_parts (nat_le s.first p) _ a.1 in
    record { node = eqb-true _ _ a.0; begun = leb-true _ _ b.0; before_end = leb-true _ _ b.1 }

off_if : (p j : ℕ) (s : Spell) → s.node ≡ j → s.first ≤ p → p ≤ s.first + 9 → is_off_in p j s ≡ true
off_if p j s e a b = and_from _ _ (eq-eqb _ _ e) (and_from _ _ (le-leb _ _ a) (le-leb _ _ b))

-- ---- no line touches a frame of a node that isn't off now or in the next period

line_misses : (k : ℕ) (s : Spell) (l : Line) (p q slot j i : ℕ) → IsSpell k s → IsLineOf s l → p ≤ q → q ≤ p + 1 → is_off_in q j s ≡ false → touches p slot j i l ≡ false
line_misses k s l p q slot j i spell is low high not_off = false_from_ne_true _ (λ h.
    let a = and_parts (l.from == j) _ h in
    let b = and_parts (has_id l.to i) _ a.1 in
    let d = and_parts (has_id l.slots slot) _ b.1 in
    let e = and_parts (nat_le l.first p) (nat_le p l.last) d.1 in
    let from : l.from ≡ j = eqb-true _ _ a.0 in
    let first : l.first ≤ p = leb-true _ _ e.0 in
    let last : p ≤ l.last = leb-true _ _ e.1 in
    both_ways _ not_off (off_if q j s (sym is.from ∙ from) (let x = is.first in omega arith) (let x = is.last in let y = spell.first in let z = spell.short in omega arith)))

none_in : (f : Line → Bool) (xs ys : List Line) → AllByRecursion (λ l. f l ≡ false) xs → find f ys ≡ None → find f (xs ++ ys) ≡ None
none_in f [] ys h e = e
none_in f (x ∷ xs) ys h e = rw h.0 (none_in f xs ys h.1 e)

each_misses : (k : ℕ) (s : Spell) (ls : List Line) (p q slot j i : ℕ) → IsSpell k s → AllByRecursion (IsLineOf s) ls → p ≤ q → q ≤ p + 1 → is_off_in q j s ≡ false
    → AllByRecursion (λ l. touches p slot j i l ≡ false) ls
each_misses k s [] p q slot j i spell h low high not_off = tt
each_misses k s (l ∷ ls) p q slot j i spell h low high not_off = (line_misses k s l p q slot j i spell h.0 low high not_off, each_misses k s ls p q slot j i spell h.1 low high not_off)

none_touches : (k : ℕ) (bs : List Block) (p q slot j i : ℕ) → AreBlocks k bs → p ≤ q → q ≤ p + 1 → is_off bs q j ≡ false → find (touches p slot j i) (lines_of bs) ≡ None
none_touches k [] p q slot j i are low high not_off = refl
none_touches k (b ∷ bs) p q slot j i are low high not_off =
    let e = or_parts (is_off_in q j b.spell) (is_off bs q j) not_off in
    none_in (touches p slot j i) b.lines (lines_of bs) (each_misses k b.spell b.lines p q slot j i are.0.spell are.0.lines.lines low high e.0)
    (none_touches (k + 1) bs p q slot j i are.1 low high e.1)

pub untouched : (k : ℕ) (bs : List Block) (p q slot j i : ℕ) → AreBlocks k bs → p ≤ q → q ≤ p + 1 → is_off bs q j ≡ false → effect_at (lines_of bs) p slot j i ≡ None
untouched k bs p q slot j i are low high not_off = rw (none_touches k bs p q slot j i are low high not_off) refl

-- ---- restarts

pub no_restart : (bs : List Block) (p j : ℕ) → is_off bs p j ≡ false → list_any (is_restart_of j p) (restarts_of bs) ≡ false
no_restart [] p j h = refl
no_restart (b ∷ bs) p j h =
    let e = or_parts (is_off_in p j b.spell) (is_off bs p j) h in
    or_from _ _ (false_from_ne_true _ (λ r.
    let a = and_parts (b.spell.node == j) (b.spell.first + 9 == p) r in
    let at : b.spell.first + 9 ≡ p = eqb-true _ _ a.1 in
    both_ways _ e.0 (off_if p j b.spell (eqb-true _ _ a.0) (omega arith) (omega arith)))) (no_restart bs p j e.1)

-- a node that is off now and isn't in the next period restarts
pub restarts_last : (bs : List Block) (p j : ℕ) → is_off bs p j ≡ true → is_off bs (suc p) j ≡ false → list_any (is_restart_of j p) (restarts_of bs) ≡ true
restarts_last [] p j off not_next = cc
restarts_last (b ∷ bs) p j off not_next =
    let e = or_parts (is_off_in (suc p) j b.spell) (is_off bs (suc p) j) not_next in
    elim (or_cases (is_off_in p j b.spell) (is_off bs p j) off) [
      | inl here ↦
          let o = off_says p j b.spell here in
          elim (cases_lt p (b.spell.first + 9)) [
            | inl less ↦ absurd (both_ways _ e.0 (off_if (suc p) j b.spell o.node (let x = o.begun in omega arith) (omega arith)))
            | inr more ↦ or_left _ _ (and_from _ _ (eq-eqb _ _ o.node) (eq-eqb _ _ (let x = o.before_end in omega arith)))
          ]
      | inr later ↦ or_right (b.spell.node == j && b.spell.first + 9 == p) _ (restarts_last bs p j later e.1)
    ]

-- ---- only one node is off at a time, and it is one of 5 to 7

pub off_high : (k : ℕ) (bs : List Block) (p j : ℕ) → AreBlocks k bs → is_off bs p j ≡ true → (5 ≤ j) × (j ≤ 7) × (16 * k + 1 ≤ p)
off_high k [] p j are off = cc
off_high k (b ∷ bs) p j are off = elim (or_cases (is_off_in p j b.spell) (is_off bs p j) off) [
  | inl here ↦
      let o = off_says p j b.spell here in
      let n = o.node in let f = o.begun in let l = are.0.spell.low in let h = are.0.spell.high in let x = are.0.spell.first in
      (omega arith, omega arith, omega arith)
  | inr later ↦ let r = off_high (k + 1) bs p j are.1 later in (r.0, r.1, (let x = r.2 in omega arith))
]

pub one_off : (k : ℕ) (bs : List Block) (p i j : ℕ) → AreBlocks k bs → is_off bs p i ≡ true → is_off bs p j ≡ true → i ≡ j
one_off k [] p i j are off too = cc
one_off k (b ∷ bs) p i j are off too =
    let short : (x : ℕ) → is_off_in p x b.spell ≡ true → p ≤ 16 * k + 10 = λ x h. let o = off_says p x b.spell h in let e = o.before_end in let f = are.0.spell.first in omega arith in
    let long : (x : ℕ) → is_off bs p x ≡ true → 16 * (k + 1) + 1 ≤ p = λ x h. (off_high (k + 1) bs p x are.1 h).2 in
    elim (or_cases (is_off_in p i b.spell) (is_off bs p i) off) [
      | inl here ↦ elim (or_cases (is_off_in p j b.spell) (is_off bs p j) too) [
        | inl here_too ↦ sym (off_says p i b.spell here).node ∙ (off_says p j b.spell here_too).node
        | inr later ↦ absurd (let a = short i here in let c = long j later in omega arith)
      ]
      | inr later ↦ elim (or_cases (is_off_in p j b.spell) (is_off bs p j) too) [
        | inl here ↦ absurd (let a = short j here in let c = long i later in omega arith)
        | inr later_too ↦ one_off (k + 1) bs p i j are.1 later later_too
      ]
    ]
