-- No line of the bouts shares a link, a slot and a period with another one.
use Rattle.std.proofs.Common.{◌≡◌, ℕ, ◌+◌, ◌-◌, ◌^◌, ◌<◌, ◌≤◌, Bool, true, false, not, ◌&&◌, ◌==◌, List, [], ◌∷◌, ◌++◌, inl, inr, None, Some, pos, refl, sym, ap, ◌∙◌, arith}
use Rattle.std.specs.Prelude.{nat_le}
use Rattle.std.specs.List.{list_any, list_all, flat_map, AllByRecursion}
use Rattle.std.proofs.lemmas.Bool.{and_from, and_parts, or_cases, or_left, or_right, false_from_ne_true, not_from_false, not-true, leb-true, eqb-true, eq-eqb}
use Rattle.node_grid.specs.NodeSet.{has_id}
use Rattle.node_grid.specs.NodeSetLaws.{has-without_id, passes_where}
use Rattle.node_grid.specs.ListFacts.{any_push, all_append, every_append, every_weaker}
use Rattle.fault_classes.specs.Line.{Line, shares}
use Rattle.fault_classes.specs.Rules.{first_overlap}
use Rattle.fault_classes.specs.Facts.{none_before}
use Rattle.scenario.specs.Numbers.{means, meant}
use Rattle.scenario.specs.Line.{others_of}
use Rattle.drawn_scenarios.specs.declared.choices.Choices.{Choices}
use Rattle.drawn_scenarios.specs.declared.bout.Fault.{Fault}
use Rattle.drawn_scenarios.specs.declared.bout.Conduct.{Conduct}
use Rattle.drawn_scenarios.specs.declared.bout.Conduct.TheVariants.{Alike, Apart}
use Rattle.drawn_scenarios.specs.declared.bout.Bout.{Bout}
use Rattle.drawn_scenarios.specs.Lines.{picked, others, group, rest, some_of, rest_of}
use Rattle.drawn_scenarios.proofs.Picked.{others_up, length_others, number_in, picked_apart}
use Rattle.drawn_scenarios.proofs.Made.{made, made_by, made_of}
use Rattle.drawn_scenarios.proofs.Shape.{AreSome, IsConduct, IsBout, Comes, Ordered}

-- ---- lists of lines

-- no line shares with a later one
abbrev pub apart : List Line → Bool
apart [] = true
apart (l ∷ ls) = list_all (λ m. not (shares m l)) ls && apart ls

no_overlap : (before ls : List Line) → AllByRecursion (λ m. list_any (shares m) before ≡ false) ls → apart ls ≡ true → first_overlap before ls ≡ None
no_overlap before [] h a = refl
no_overlap before (l ∷ ls) h a =
    let p = and_parts (list_all (λ m. not (shares m l)) ls) _ a in
    rw h.0 (no_overlap (before ++ l ∷ []) ls (pushed ls h.1 p.0) p.1)
  where
    pushed : (ms : List Line) → AllByRecursion (λ m. list_any (shares m) before ≡ false) ms → list_all (λ m. not (shares m l)) ms ≡ true → AllByRecursion (λ m. list_any (shares m) (before ++ l ∷ []) ≡ false) ms
    pushed [] h e = tt
    pushed (m ∷ ms) h e = let p = and_parts (not (shares m l)) _ e in (any_push (shares m) before l h.0 (not-true _ p.0), pushed ms h.1 p.1)

apart_append : (xs ys : List Line) → AllByRecursion (λ l. AllByRecursion (λ m. shares m l ≡ false) ys) xs → apart xs ≡ true → apart ys ≡ true → apart (xs ++ ys) ≡ true
apart_append [] ys cross a b = b
apart_append (x ∷ xs) ys cross a b =
    let p = and_parts (list_all (λ m. not (shares m x)) xs) _ a in
    and_from _ _ (all_append (λ m. not (shares m x)) xs ys p.0 (none_shares ys cross.0)) (apart_append xs ys cross.1 p.1 b)
  where
    none_shares : (ms : List Line) → AllByRecursion (λ m. shares m x ≡ false) ms → list_all (λ m. not (shares m x)) ms ≡ true
    none_shares [] h = refl
    none_shares (m ∷ ms) h = and_from _ _ (not_from_false _ h.0) (none_shares ms h.1)

-- ---- lines of one bout

-- a line of the bout's node and periods
pub record IsLineOf (b : Bout) (l : Line) : Type 0 where
  pub from : l.from ≡ b.node
  pub first : l.first ≡ b.first
  pub last : l.last ≡ b.last

of_conduct : (c : Choices) (b : Bout) (k : Conduct) → AllByRecursion (IsLineOf b) (made_by c b k)
of_conduct c b (Alike f lie) = (record { from = refl; first = refl; last = refl }, tt)
of_conduct c b (Apart some f None lies) = (record { from = refl; first = refl; last = refl }, tt)
of_conduct c b (Apart some f (Some g) lies) = (record { from = refl; first = refl; last = refl }, (record { from = refl; first = refl; last = refl }, tt))

pub of_bout : (c : Choices) (b : Bout) → AllByRecursion (IsLineOf b) (made_of c b)
of_bout c b = of_conduct c b b.conduct

-- a member of both lists
in_both : (xs ys : List ℕ) → list_any (has_id xs) ys ≡ true → (k : ℕ) × (has_id ys k ≡ true) × (has_id xs k ≡ true)
in_both xs [] h = absurd (let e : false ≡ true = h in cc)
in_both xs (y ∷ ys) h = elim (or_cases (has_id xs y) (list_any (has_id xs) ys) h) [
  | inl here ↦ (y, or_left _ _ (eq-eqb y y refl), here)
  | inr later ↦ let r = in_both xs ys later in (r.0, or_right (y == r.0) _ r.1, r.2)
]

-- who a line to a group reaches is in the group
pub in_group : (n j mask k : ℕ) → has_id (others_of n (pos j) (group n j mask)) k ≡ true → has_id (picked mask (others n j)) k ≡ true
in_group n j mask k h =
    let there = and_parts (not (k == j)) _ (sym (has-without_id (meant n (group n j mask)) j k) ∙ h) in
    number_in (picked mask (others n j)) k (passes_where (means (group n j mask)) n k there.1)

pub not_both : (c : Choices) (b : Bout) (some k : ℕ) → b.node < c.nodes → AreSome c some
    → has_id (others_of c.nodes (pos b.node) (some_of c b some)) k ≡ true → has_id (others_of c.nodes (pos b.node) (rest_of c b some)) k ≡ true → ⊥
not_both c b some k low are one other =
    let size = length_others c.nodes b.node low in
    let all : some + rest c.nodes some + 1 ≡ 2 ^ (c.nodes - 1) = (let l = are.not_all in omega arith) in
    picked_apart some (rest c.nodes some) (others c.nodes b.node) k (others_up c.nodes b.node) (all ∙ sym (ap (λ (m : ℕ). 2 ^ m) size)) (in_group c.nodes b.node some k one) (in_group c.nodes b.node (rest c.nodes some) k other)

unshared : (c : Choices) (b : Bout) (some : ℕ) (f g : Fault) → b.node < c.nodes → AreSome c some → shares (made c b (rest_of c b some) g) (made c b (some_of c b some) f) ≡ false
unshared c b some f g low are = false_from_ne_true _ (λ e.
    let x = and_parts (b.node == b.node) _ e in
    let y = and_parts (list_any (has_id (others_of c.nodes (pos b.node) (some_of c b some))) (others_of c.nodes (pos b.node) (rest_of c b some))) _ x.1 in
    let k = in_both (others_of c.nodes (pos b.node) (some_of c b some)) (others_of c.nodes (pos b.node) (rest_of c b some)) y.0 in
    not_both c b some k.0 low are k.2 k.1)

apart_by : (c : Choices) (b : Bout) (k : Conduct) → b.node < c.nodes → IsConduct c k → apart (made_by c b k) ≡ true
apart_by c b (Alike f lie) low k = refl
apart_by c b (Apart some f None lies) low k = refl
apart_by c b (Apart some f (Some g) lies) low k = and_from _ _ (and_from _ _ (not_from_false _ (unshared c b some f g low k.0)) refl) refl

-- ---- lines of two bouts

never_shares : (b x : Bout) (l m : Line) → Comes b x → IsLineOf b l → IsLineOf x m → shares m l ≡ false
never_shares b x l m comes one other = false_from_ne_true _ (λ e.
    let u = and_parts (m.from == l.from) _ e in
    let v = and_parts (list_any (has_id l.to) m.to) _ u.1 in
    let w = and_parts (list_any (has_id l.slots) m.slots) _ v.1 in
    let y = and_parts (nat_le m.first l.last) _ w.1 in
    let same : m.from ≡ l.from = eqb-true _ _ u.0 in
    let meet : m.first ≤ l.last = leb-true _ _ y.0 in
    let a = one.from in let d = other.from in let f = one.last in let g = other.first in
    elim comes [
      | inl less ↦ absurd (omega arith)
      | inr later ↦ let late = later.1 in absurd (omega arith)
    ])

later_lines : (c : Choices) (b : Bout) (l : Line) (bs : List Bout) → IsLineOf b l → AllByRecursion (Comes b) bs → AllByRecursion (λ m. shares m l ≡ false) (flat_map (made_of c) bs)
later_lines c b l [] is comes = tt
later_lines c b l (x ∷ xs) is comes =
    every_append (λ m. shares m l ≡ false) (made_of c x) (flat_map (made_of c) xs)
    (every_weaker (IsLineOf x) (λ m. shares m l ≡ false) (λ m of. never_shares b x l m comes.0 is of) (made_of c x) (of_bout c x)) (later_lines c b l xs is comes.1)

pub all_apart : (c : Choices) (bs : List Bout) → AllByRecursion (IsBout c) bs → Ordered bs → apart (flat_map (made_of c) bs) ≡ true
all_apart c [] each ordered = refl
all_apart c (b ∷ bs) each ordered =
    apart_append (made_of c b) (flat_map (made_of c) bs)
    (every_weaker (IsLineOf b) (λ l. AllByRecursion (λ m. shares m l ≡ false) (flat_map (made_of c) bs)) (λ l of. later_lines c b l bs of ordered.0) (made_of c b) (of_bout c b))
    (apart_by c b b.conduct each.0.node each.0.conduct) (all_apart c bs each.1 ordered.1)

pub none_overlaps : (c : Choices) (bs : List Bout) → AllByRecursion (IsBout c) bs → Ordered bs → first_overlap [] (flat_map (made_of c) bs) ≡ None
none_overlaps c bs each ordered = no_overlap [] (flat_map (made_of c) bs) (none_before (flat_map (made_of c) bs)) (all_apart c bs each ordered)
