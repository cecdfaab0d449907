-- No rule refuses the plan of a storm.
use Rattle.std.proofs.Common.{◌≡◌, ℕ, ◌+◌, ◌*◌, ◌<◌, ◌≤◌, true, false, not, ◌==◌, List, [], ◌∷◌, ◌++◌, length, Option, None, Some, refl, sym, ap, subst, ◌∙◌, arith, length-append}
use Rattle.std.specs.Prelude.{nat_le}
use Rattle.std.specs.List.{list_any, list_all, AllByRecursion}
use Rattle.std.proofs.lemmas.Bool.{and_from, and_parts, or_left, false_from_ne_true, not_from_false, not-true, leb-true, le-leb, lt-ltb, le-ltb}
use Rattle.node_grid.specs.NodeSet.{has_id}
use Rattle.node_grid.specs.ListFacts.{any_push, all_append, every_weaker, every_append}
use Rattle.fault_classes.specs.declared.line.Restart.{Restart}
use Rattle.fault_classes.specs.Line.{Line, shares}
use Rattle.slot_plan.specs.Slots.{slot_count}
use Rattle.fault_classes.specs.Plan.{Plan}
use Rattle.fault_classes.specs.Rules.{is_line, first_bad_line, first_overlap, is_restart, comes_after, first_bad_restart, refusal_of}
use Rattle.fault_classes.specs.Facts.{none_before}
use Rattle.storm.specs.declared.spell.Spell.{Spell}
use Rattle.storm.specs.Storm.{Block, lines_of, restart_drawn, restarts_of}
use Rattle.storm.proofs.Off.{plan_by}
use Rattle.storm.proofs.Shape.{IsSpell, IsLineOf, apart, AreBlocks}

-- ---- lists

-- ---- each line is in range

no_bad_line : (nodes slots periods k : ℕ) (ls : List Line) → AllByRecursion (λ l. is_line nodes slots periods l ≡ true) ls → first_bad_line nodes slots periods k ls ≡ None
no_bad_line nodes slots periods k [] h = refl
no_bad_line nodes slots periods k (l ∷ ls) h = rw h.0 (no_bad_line nodes slots periods (k + 1) ls h.1)

pub line_in_range : (k : ℕ) (s : Spell) → k < 64 → IsSpell k s → (l : Line) → IsLineOf s l → is_line 8 8 1024 l ≡ true
line_in_range k s early spell l is =
    let from = is.from in let first = is.first in let last = is.last in let high = spell.high in let some = spell.some in let short = spell.short in
    let itself : has_id l.to l.from ≡ false = ap (has_id l.to) is.from ∙ is.not_itself in
    and_from _ _ (lt-ltb l.from 8 (omega arith)) (and_from _ _ is.receivers (and_from _ _ (not_from_false _ itself)
    (and_from _ _ (le-leb l.first l.last (omega arith)) (and_from _ _ (lt-ltb l.last 1024 (omega arith)) (and_from _ _ is.slots is.change)))))

pub lines_in_range : (k : ℕ) (bs : List Block) → k + length bs ≤ 64 → AreBlocks k bs → AllByRecursion (λ l. is_line 8 8 1024 l ≡ true) (lines_of bs)
lines_in_range k [] few are = tt
lines_in_range k (b ∷ bs) few are =
    every_append (λ l. is_line 8 8 1024 l ≡ true) b.lines (lines_of bs)
    (every_weaker (IsLineOf b.spell) (λ l. is_line 8 8 1024 l ≡ true) (line_in_range k b.spell (omega arith) are.0.spell) b.lines are.0.lines.lines)
    (lines_in_range (k + 1) bs (omega arith) are.1)

-- ---- no line shares with another

pub no_overlap : (before ls : List Line) → AllByRecursion (λ m. list_any (shares m) before ≡ false) ls → apart ls ≡ true → first_overlap before ls ≡ None
no_overlap before [] h a = refl
no_overlap before (l ∷ ls) h a =
    let p = and_parts (list_all (λ m. not (shares m l)) ls) _ a in
    rw h.0 (no_overlap (before ++ l ∷ []) ls (pushed ls h.1 p.0) p.1)
  where
    pushed : (ms : List Line) → AllByRecursion (λ m. list_any (shares m) before ≡ false) ms → list_all (λ m. not (shares m l)) ms ≡ true → AllByRecursion (λ m. list_any (shares m) (before ++ l ∷ []) ≡ false) ms
    pushed [] h e = tt
    pushed (m ∷ ms) h e = let p = and_parts (not (shares m l)) _ e in (any_push (shares m) before l h.0 (not-true _ p.0), pushed ms h.1 p.1)

apart_append : (xs ys : List Line) → AllByRecursion (λ l. list_all (λ m. not (shares m l)) ys ≡ true) xs → apart xs ≡ true → apart ys ≡ true → apart (xs ++ ys) ≡ true
apart_append [] ys cross a b = b
apart_append (x ∷ xs) ys cross a b =
    let p = and_parts (list_all (λ m. not (shares m x)) xs) _ a in
    and_from _ _ (all_append (λ m. not (shares m x)) xs ys p.0 cross.0) (apart_append xs ys cross.1 p.1 b)

late_lines : (k : ℕ) (bs : List Block) → AreBlocks k bs → AllByRecursion (λ m. 16 * k + 1 ≤ m.first) (lines_of bs)
late_lines k [] are = tt
late_lines k (b ∷ bs) are =
    every_append (λ m. 16 * k + 1 ≤ m.first) b.lines (lines_of bs)
    (every_weaker (IsLineOf b.spell) (λ m. 16 * k + 1 ≤ m.first) (λ m is. let e = is.first in let f = are.0.spell.first in omega arith) b.lines are.0.lines.lines)
    (every_weaker (λ m. 16 * (k + 1) + 1 ≤ m.first) (λ m. 16 * k + 1 ≤ m.first) (λ m h. omega arith) (lines_of bs) (late_lines (k + 1) bs are.1))

later_unshared : (l : Line) (ms : List Line) (end : ℕ) → l.last < end → AllByRecursion (λ m. end ≤ m.first) ms → list_all (λ m. not (shares m l)) ms ≡ true
later_unshared l [] end short h = refl
later_unshared l (m ∷ ms) end short h =
    let late = h.0 in
    let no : shares m l ≡ false = false_from_ne_true _ (λ e.
    let a = and_parts (m.from == l.from) _ e in
    let b = and_parts (list_any (has_id l.to) m.to) _ a.1 in
    let d = and_parts (list_any (has_id l.slots) m.slots) _ b.1 in
    let f = and_parts (nat_le m.first l.last) _ d.1 in
    let both : m.first ≤ l.last = leb-true _ _ f.0 in
    absurd (omega arith)) in
    and_from _ _ (not_from_false _ no) (later_unshared l ms end short h.1)

pub all_apart : (k : ℕ) (bs : List Block) → AreBlocks k bs → apart (lines_of bs) ≡ true
all_apart k [] are = refl
all_apart k (b ∷ bs) are =
    apart_append b.lines (lines_of bs)
    (every_weaker (IsLineOf b.spell) (λ l. list_all (λ m. not (shares m l)) (lines_of bs) ≡ true)
    (λ l is. later_unshared l (lines_of bs) (16 * (k + 1) + 1) (let e = is.last in let f = are.0.spell.short in omega arith) (late_lines (k + 1) bs are.1)) b.lines are.0.lines.lines)
    are.0.lines.disjoint (all_apart (k + 1) bs are.1)

-- ---- restarts come in order

unfoldable pub IsEarlier : ℕ → Option Restart → Type 0
IsEarlier p None = Unit {0}
IsEarlier p (Some r) = r.period < p

after_earlier : (before : Option Restart) (r : Restart) → IsEarlier r.period before → comes_after before r ≡ true
unfolding IsEarlier
after_earlier None r h = refl
after_earlier (Some q) r h = or_left _ _ (lt-ltb q.period r.period h)

pub restarts_in_order : (k place : ℕ) (before : Option Restart) (bs : List Block) → k + length bs ≤ 64 → AreBlocks k bs → IsEarlier (16 * k + 10) before → first_bad_restart 8 1024 before place (restarts_of bs) ≡ None
unfolding IsEarlier
restarts_in_order k place before [] few are early = refl
restarts_in_order k place before (b ∷ bs) few are early =
    let first = are.0.spell.first in let high = are.0.spell.high in
    let at : b.spell.first + 9 ≡ 16 * k + 10 = omega arith in
    let good : is_restart 8 1024 (restart_drawn b) ≡ true = and_from _ _ (lt-ltb b.spell.node 8 (omega arith)) (and_from _ _ (le-leb 1 (b.spell.first + 9) (omega arith)) (le-leb (b.spell.first + 9) 1023 (omega arith))) in
    let next : comes_after before (restart_drawn b) ≡ true = after_earlier before (restart_drawn b) (subst (λ (p : ℕ). IsEarlier p before) (sym at) early) in
    rw (good, next) (restarts_in_order (k + 1) (place + 1) (Some (restart_drawn b)) bs (omega arith) are.1 (omega arith))

-- ---- at most 7 lines a block

pub few_lines : (k : ℕ) (bs : List Block) → AreBlocks k bs → length (lines_of bs) ≤ 7 * length bs
few_lines k [] are = omega arith
few_lines k (b ∷ bs) are = let few = are.0.lines.few in let rest = few_lines (k + 1) bs are.1 in omega (arith, length-append b.lines (lines_of bs))

by_none : (plan : Plan) → first_bad_line plan.nodes (slot_count plan.rounds) plan.periods 0 plan.lines ≡ None → first_overlap [] plan.lines ≡ None
    → first_bad_restart plan.nodes plan.periods None 0 plan.restarts ≡ None → length plan.lines ≤ 4096 → refusal_of plan ≡ None
by_none plan a b d h = rw (a, b, d, le-ltb 4096 (length plan.lines) h) refl

pub not_refused : (bs : List Block) → length bs ≤ 64 → AreBlocks 0 bs → refusal_of (plan_by bs) ≡ None
unfolding IsEarlier
not_refused bs few are =
    by_none (plan_by bs) (no_bad_line 8 8 1024 0 (lines_of bs) (lines_in_range 0 bs (omega arith) are)) (no_overlap [] (lines_of bs) (none_before (lines_of bs)) (all_apart 0 bs are))
    (restarts_in_order 0 0 None bs (omega arith) are tt) (let few_all = few_lines 0 bs are in omega arith)
