-- Whatever is drawn, the blocks of a storm are as they should be.
use Rattle.std.proofs.Common.{◌≡◌, ℕ, zero, suc, ◌+◌, ◌<◌, ◌≤◌, Bool, true, false, not, cond, ◌&&◌, ◌==◌, List, [], ◌∷◌, ◌++◌, length, refl, sym, subst, ◌⊎◌, inl, inr, arith, eqb-true, eq-eqb}
use Rattle.std.specs.List.{list_all, AllByRecursion}
use Rattle.std.proofs.lemmas.Bool.{cases_Bool, and_from, not_from_false, or_from, and_parts, or_left, or_right, both_ways, ltb-true}
use Rattle.std.specs.Prelude.{nat_lt}
use Rattle.node_grid.specs.NodeSet.{ids_below, has_id, without_id, IsIdSet}
use Rattle.node_grid.specs.Count.{Distinct}
use Rattle.node_grid.specs.ListLaws.{all_at}
use Rattle.rand_pcg.specs.Lcg.{Lcg}
use Rattle.fault_classes.specs.Change.{Change}
use Rattle.fault_classes.specs.Change.Change.{Drop, Set}
use Rattle.fault_classes.specs.Line.{Line, shares}
use Rattle.fault_classes.specs.Rules.{are_below, is_change}
use Rattle.draws.specs.Draws.{Drawing, draw}
use Rattle.storm.specs.declared.spell.Spell.{Spell}
use Rattle.storm.specs.Storm.{line_in, others, false_value, told_by, lies_drawn, told_row, each_drawn, lines_by, spell_of, block, blocks}
use Rattle.storm.proofs.Shape.{IsSpell, ascends, WritesBytes, IsLineOf, apart, AreLinesOf, IsBlock, AreBlocks}

pub draw_below : (k : ℕ) (g : Lcg) → 0 < k → (draw k g).0 < k
unfolding draw
draw_below k g some = omega arith

false_value_is : (v : ℕ) → is_change (false_value v) ≡ true
false_value_is v = refl

false_value_bytes : (v : ℕ) → WritesBytes (false_value v)
false_value_bytes v = (omega arith, (omega arith, (omega arith, (omega arith, (omega arith, (omega arith, (omega arith, (omega arith, tt))))))))

-- the receivers of a spell's lines
record AreReceivers (node : ℕ) (js : List ℕ) : Type 0 where
  below : are_below 8 js ≡ true
  others : has_id js node ≡ false
  apart : Distinct js
  ascending : ascends js ≡ true
  set : IsIdSet 8 js
  few : length js ≡ 7

receivers : (node : ℕ) → 5 ≤ node → node ≤ 7 → AreReceivers node (without_id (ids_below 8) node)
receivers (suc (suc (suc (suc (suc zero))))) l h = record { below = refl; others = refl; apart = (refl, (refl, (refl, (refl, (refl, (refl, (refl, tt))))))); ascending = refl; set = refl; few = refl }
receivers (suc (suc (suc (suc (suc (suc zero)))))) l h = record { below = refl; others = refl; apart = (refl, (refl, (refl, (refl, (refl, (refl, (refl, tt))))))); ascending = refl; set = refl; few = refl }
receivers (suc (suc (suc (suc (suc (suc (suc zero))))))) l h = record { below = refl; others = refl; apart = (refl, (refl, (refl, (refl, (refl, (refl, (refl, tt))))))); ascending = refl; set = refl; few = refl }
receivers _ l h = absurd (omega arith)

one_line : (s : Spell) (l : Line) → IsLineOf s l → AreLinesOf s (l ∷ [])
one_line s l is = record { lines = (is, tt); disjoint = refl; few = omega arith }

-- nothing, or one line, to node j
abbrev IsToward : Spell → ℕ → List Line → Type 0
IsToward s j ls = (ls ≡ []) ⊎ ((l : Line) × (ls ≡ l ∷ []) × IsLineOf s l × (l.to ≡ j ∷ []))

-- lines to some of these nodes, at most one to each
record AreToward (s : Spell) (js : List ℕ) (ls : List Line) : Type 0 where
  lines : AllByRecursion (IsLineOf s) ls
  toward : AllByRecursion (λ l. (j : ℕ) × (l.to ≡ j ∷ []) × (has_id js j ≡ true)) ls
  disjoint : apart ls ≡ true
  few : length ls ≤ length js

wider : (j : ℕ) (js : List ℕ) (ls : List Line) → AllByRecursion (λ l. (i : ℕ) × (l.to ≡ i ∷ []) × (has_id js i ≡ true)) ls
    → AllByRecursion (λ l. (i : ℕ) × (l.to ≡ i ∷ []) × (has_id (j ∷ js) i ≡ true)) ls
wider j js [] h = tt
wider j js (l ∷ ls) h = ((h.0.0, h.0.1, or_right (j == h.0.0) _ h.0.2), wider j js ls h.1)

-- a line to j shares with no line to another node
unshared : (l m : Line) (j i : ℕ) → l.to ≡ j ∷ [] → m.to ≡ i ∷ [] → (j == i) ≡ false → shares m l ≡ false
unshared l m j i e f ne = rw (e, f, ne) (no (m.from == l.from)) where
  no : (b : Bool) → (b && false) ≡ false
  no true = refl
  no false = refl

all_unshared : (j : ℕ) (js : List ℕ) (l : Line) (ls : List Line) → l.to ≡ j ∷ [] → has_id js j ≡ false
    → AllByRecursion (λ m. (i : ℕ) × (m.to ≡ i ∷ []) × (has_id js i ≡ true)) ls → list_all (λ m. not (shares m l)) ls ≡ true
all_unshared j js l [] e out h = refl
all_unshared j js l (m ∷ ls) e out h =
    let differs : (j == h.0.0) ≡ false = elim (cases_Bool (j == h.0.0)) [
      | inl same ↦ absurd (both_ways _ out (subst (λ (i : ℕ). has_id js i ≡ true) (sym (eqb-true j h.0.0 same)) h.0.2))
      | inr other ↦ other
    ] in
    and_from _ _ (not_from_false _ (unshared l m j h.0.0 e h.0.1 differs)) (all_unshared j js l ls e out h.1)

toward_more : (s : Spell) (j : ℕ) (js : List ℕ) (here rest : List Line) → has_id js j ≡ false → IsToward s j here → AreToward s js rest → AreToward s (j ∷ js) (here ++ rest)
toward_more s j js here rest out (inl e) r = rw e (record {
  lines = r.lines;
  toward = wider j js rest r.toward;
  disjoint = r.disjoint;
  few = (let f = r.few in omega arith);
})
toward_more s j js here rest out (inr h) r = rw h.1 (record {
  lines = (h.2, r.lines);
  toward = ((j, h.3, or_left (j == j) _ (eq-eqb j j refl)), wider j js rest r.toward);
  disjoint = and_from _ _ (all_unshared j js h.0 rest h.3 out r.toward) r.disjoint;
  few = (let f = r.few in omega arith);
})

each_toward : (s : Spell) (to : ℕ → Drawing (List Line)) (js : List ℕ) (g : Lcg) → Distinct js
    → ((j : ℕ) (x : Lcg) → has_id js j ≡ true → IsToward s j (to j x).0) → AreToward s js (each_drawn to js g).0
each_toward s to [] g d h = record { lines = tt; toward = tt; disjoint = refl; few = omega arith }
each_toward s to (j ∷ js) g d h =
    toward_more s j js (to j g).0 (each_drawn to js (to j g).1).0 d.0 (h j g (or_left (j == j) _ (eq-eqb j j refl)))
    (each_toward s to js (to j g).1 d.1 (λ i x on. h i x (or_right (j == i) _ on)))

single_set : (j : ℕ) → j < 8 → IsIdSet 8 (j ∷ [])
single_set zero l = refl
single_set (suc zero) l = refl
single_set (suc (suc zero)) l = refl
single_set (suc (suc (suc zero))) l = refl
single_set (suc (suc (suc (suc zero)))) l = refl
single_set (suc (suc (suc (suc (suc zero))))) l = refl
single_set (suc (suc (suc (suc (suc (suc zero)))))) l = refl
single_set (suc (suc (suc (suc (suc (suc (suc zero))))))) l = refl
single_set (suc (suc (suc (suc (suc (suc (suc (suc j)))))))) l = absurd (omega arith)

-- a line of a spell to one other node
single : (s : Spell) (j slot : ℕ) (change : Change) → are_below 8 (j ∷ []) ≡ true → has_id (j ∷ []) s.node ≡ false → are_below 8 (slot ∷ []) ≡ true → is_change change ≡ true → WritesBytes change
    → IsLineOf s (line_in s (j ∷ []) (slot ∷ []) change)
single s j slot change low other low_slot in_range bytes = record {
  from = refl;
  first = refl;
  last = refl;
  receivers = low;
  not_itself = other;
  slots = low_slot;
  change = in_range;
  ascending = refl;
  slots_ascend = refl;
  set = single_set j (ltb-true j 8 (and_parts (nat_lt j 8) _ (and_parts (nat_lt 0 1) _ low).1).0);
  slots_set = single_set slot (ltb-true slot 8 (and_parts (nat_lt slot 8) _ (and_parts (nat_lt 0 1) _ low_slot).1).0);
  bytes = bytes;
}

told_toward : (s : Spell) (j way : ℕ) (g : Lcg) → are_below 8 (j ∷ []) ≡ true → has_id (j ∷ []) s.node ≡ false → IsToward s j (told_by s j way g).0
told_toward s j way g low other =
    elim (way == 0) as (λ b. IsToward s j (cond {A = Drawing (List Line)} b (λ (x : Lcg). ([], x)) (cond {A = Drawing (List Line)} (way == 1) (λ (x : Lcg). (line_in s (j ∷ []) (5 ∷ []) Drop ∷ [], x))
    (λ (x : Lcg). (line_in s (j ∷ []) (4 ∷ []) (false_value (draw 1000 x).0) ∷ [], (draw 1000 x).1))) g).0) [
      | true ↦ inl refl
      | false ↦ elim (way == 1) as (λ b. IsToward s j (cond {A = Drawing (List Line)} b (λ (x : Lcg). (line_in s (j ∷ []) (5 ∷ []) Drop ∷ [], x))
          (λ (x : Lcg). (line_in s (j ∷ []) (4 ∷ []) (false_value (draw 1000 x).0) ∷ [], (draw 1000 x).1)) g).0) [
            | true ↦ inr (line_in s (j ∷ []) (5 ∷ []) Drop, refl, single s j 5 Drop low other refl refl tt, refl)
            | false ↦ inr (line_in s (j ∷ []) (4 ∷ []) (false_value (draw 1000 g).0), refl, single s j 4 (false_value (draw 1000 g).0) low other refl (false_value_is (draw 1000 g).0) (false_value_bytes (draw 1000 g).0), refl)
          ]
    ]

row_toward : (s : Spell) (j : ℕ) (g : Lcg) → are_below 8 (j ∷ []) ≡ true → has_id (j ∷ []) s.node ≡ false → IsToward s j (told_row s j g).0
row_toward s j g low other =
    inr (line_in s (j ∷ []) (5 ∷ []) (Set 15 ((draw 256 g).0 ∷ [])), refl, single s j 5 (Set 15 ((draw 256 g).0 ∷ [])) low other refl refl (draw_below 256 g (omega arith), tt), refl)

-- a receiver among the others
below_in : (js : List ℕ) (j : ℕ) → are_below 8 js ≡ true → has_id js j ≡ true → are_below 8 (j ∷ []) ≡ true
below_in js j low on = and_from _ _ (all_at (λ x. nat_lt x 8) js j (and_parts (nat_lt 0 (length js)) _ low).1 on) refl

not_other : (js : List ℕ) (j node : ℕ) → has_id js node ≡ false → has_id js j ≡ true → has_id (j ∷ []) node ≡ false
not_other js j node out on = elim (cases_Bool (j == node)) [
  | inl same ↦ absurd (both_ways _ out (subst (λ (i : ℕ). has_id js i ≡ true) (eqb-true j node same) on))
  | inr other ↦ or_from _ _ other refl
]

all_of : (s : Spell) (js : List ℕ) (ls : List Line) → length js ≡ 7 → AreToward s js ls → AreLinesOf s ls
all_of s js ls seven r = record { lines = r.lines; disjoint = r.disjoint; few = (let f = r.few in omega arith) }

to_others : (s : Spell) (slots : List ℕ) (change : Change) → 5 ≤ s.node → s.node ≤ 7 → are_below 8 slots ≡ true → is_change change ≡ true → ascends slots ≡ true → IsIdSet 8 slots → WritesBytes change
    → AreLinesOf s (line_in s (others s) slots change ∷ [])
to_others s slots change low high low_slots in_range ascending set bytes =
    let r = receivers s.node low high in
    one_line s _ (record { from = refl; first = refl; last = refl; receivers = r.below; not_itself = r.others; slots = low_slots; change = in_range; ascending = r.ascending; slots_ascend = ascending; set = r.set; slots_set = set; bytes = bytes })

-- the four cases
abbrev silent : Spell → Drawing (List Line)
silent s x = (line_in s (others s) (ids_below 8) Drop ∷ [], x)

abbrev lying : Spell → Drawing (List Line)
lying s x = (line_in s (others s) (4 ∷ []) (false_value (draw 1000 x).0) ∷ [], (draw 1000 x).1)

abbrev mixed : Spell → Drawing (List Line)
mixed s = each_drawn (lies_drawn s) (others s)

abbrev misreporting : Spell → Drawing (List Line)
misreporting s = each_drawn (told_row s) (others s)

lines_are : (s : Spell) (case : ℕ) (g : Lcg) → 5 ≤ s.node → s.node ≤ 7 → AreLinesOf s (lines_by s case g).0
lines_are s case g low high =
    let r = receivers s.node low high in
    elim (case == 0) as (λ b. AreLinesOf s (cond {A = Drawing (List Line)} b (silent s) (cond (case == 1) (lying s) (cond (case == 2) (mixed s) (misreporting s))) g).0) [
      | true ↦ to_others s (ids_below 8) Drop low high refl refl refl refl tt
      | false ↦ elim (case == 1) as (λ b. AreLinesOf s (cond {A = Drawing (List Line)} b (lying s) (cond (case == 2) (mixed s) (misreporting s)) g).0) [
        | true ↦ to_others s (4 ∷ []) (false_value (draw 1000 g).0) low high refl (false_value_is (draw 1000 g).0) refl refl (false_value_bytes (draw 1000 g).0)
        | false ↦ elim (case == 2) as (λ b. AreLinesOf s (cond {A = Drawing (List Line)} b (mixed s) (misreporting s) g).0) [
          | true ↦ all_of s (others s) _ r.few (each_toward s (lies_drawn s) (others s) g r.apart
              (λ j x on. told_toward s j (draw 3 x).0 (draw 3 x).1 (below_in (others s) j r.below on) (not_other (others s) j s.node r.others on)))
          | false ↦ all_of s (others s) _ r.few (each_toward s (told_row s) (others s) g r.apart
              (λ j x on. row_toward s j x (below_in (others s) j r.below on) (not_other (others s) j s.node r.others on)))
        ]
      ]
    ]

spell_is : (k f l : ℕ) → f < 3 → l < 8 → IsSpell k (spell_of k (5 + f) (1 + l))
spell_is k f l low short = record { low = omega arith; high = omega arith; first = refl; some = omega arith; short = omega arith }

pub block_is : (k : ℕ) (g : Lcg) → IsBlock k (block k g).0
block_is k g =
    let f = draw 3 g in
    let c = draw 4 f.1 in
    let l = draw 8 c.1 in
    let spell : IsSpell k (spell_of k (5 + (draw 3 g).0) (1 + (draw 8 (draw 4 (draw 3 g).1).1).0)) =
    spell_is k _ _ (draw_below 3 g (omega arith)) (draw_below 8 c.1 (omega arith)) in
    record { spell = spell; lines = lines_are (spell_of k (5 + (draw 3 g).0) (1 + (draw 8 (draw 4 (draw 3 g).1).1).0)) c.0 l.1 spell.low spell.high }

pub blocks_are : (n k : ℕ) (g : Lcg) → AreBlocks k (blocks n k g).0
blocks_are zero k g = tt
blocks_are (suc n) k g = (block_is k g, blocks_are n (k + 1) (block k g).1)

pub length-blocks : (n k : ℕ) (g : Lcg) → length (blocks n k g).0 ≡ n
length-blocks zero k g = refl
length-blocks (suc n) k g = let r = length-blocks n (k + 1) (block k g).1 in omega arith
