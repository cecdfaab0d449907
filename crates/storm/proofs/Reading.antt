-- A line of a storm is read back from its parts.
use Rattle.std.proofs.Common.{◌≡◌, ℕ, ◌+◌, ◌<◌, ◌≤◌, true, false, not, ◌&&◌, ◌==◌, pos, List, [], ◌∷◌, map, length, Option, Some, Result, refl, sym, ap, ap₂, ◌∙◌, inl, inr, arith, eq-eqb}
use Rattle.std.specs.Prelude.{nat_lt, nat_le, option_map}
use Rattle.std.specs.List.{list_all, filter_map, AllByRecursion}
use Rattle.std.specs.Ordering.{int_eq}
use Rattle.std.specs.Result.{result_ok}
use Rattle.std.proofs.lemmas.Bool.{and_parts, and_from, cases_eq, ne_eqb, not-true, not_from_false, leb-true, ltb-true}
use Rattle.std.proofs.lemmas.Int.{ints}
use Rattle.node_grid.specs.NodeSet.{has_id, without_id, IsIdSet}
use Rattle.node_grid.specs.NodeSetLaws.{filter_range}
use Rattle.node_grid.specs.ListFacts.{every_append, every_weaker}
use Rattle.node_grid.specs.NumberFacts.{not_above}
use Rattle.node_grid.specs.SetFacts.{without_other}
use Rattle.fault_classes.specs.Change.{Change}
use Rattle.fault_classes.specs.Change.Change.{Drop, Cut, Twice, Time, Set, Raw}
use Rattle.fault_classes.specs.Line.{Line}
use Rattle.fault_classes.specs.Rules as plan
use Rattle.scenario.specs.Facts.{bytes_at, span_is, has_number_same}
use Rattle.hex.specs.Hex.{encode_lower}
use Rattle.hex.specs.declared.error.FromHexError.{FromHexError}
use Rattle.hex.proofs.HexLemmas.{decode_of-encode_lower}
use Rattle.scenario.specs.Numbers.{is_between, is_below, is_rising, is_empty, are_some_below, means, meant}
use Rattle.scenario.specs.Line.{bytes_of, decoded, change_of_effect, others_of, is_placed, line_with, line_at}
use Rattle.storm.specs.Storm.{Block, lines_of}
use Rattle.storm.specs.Parts.{numbers_of, effect_of, fault_of}
use Rattle.storm.proofs.Shape.{IsLineOf, ascends, WritesBytes, AreBlocks}
use Rattle.storm.proofs.Planned.{line_in_range}

-- ---- lists of numbers

same_number : (x k : ℕ) → int_eq (pos x) (pos k) ≡ (x == k)
same_number x k = elim (cases_eq x k) [
  | inl e ↦ let a : int_eq (pos x) (pos k) ≡ true = grind (arith, ints) in a ∙ sym (eq-eqb x k e)
  | inr ne ↦ let a : int_eq (pos x) (pos k) ≡ false = grind (arith, ints) in a ∙ sym (ne_eqb x k ne)
]

ascends_same : (xs : List ℕ) → ascends xs ≡ true → is_rising (map pos xs) ≡ true
ascends_same [] h = refl
ascends_same (x ∷ []) h = refl
ascends_same (x ∷ y ∷ ys) h = let p = and_parts (nat_lt x y) _ h in and_from _ _ p.0 (ascends_same (y ∷ ys) p.1)

below_same : (n : ℕ) (xs : List ℕ) → list_all (λ x. nat_lt x n) xs ≡ true → list_all (is_below n) (map pos xs) ≡ true
below_same n [] h = refl
below_same n (x ∷ xs) h = let p = and_parts (nat_lt x n) _ h in and_from _ _ p.0 (below_same n xs p.1)

some_same : (xs : List ℕ) → nat_lt 0 (length xs) ≡ true → not (is_empty (map pos xs)) ≡ true
some_same [] h = let e : false ≡ true = h in cc
some_same (x ∷ xs) h = refl

numbers_are : (n : ℕ) (xs : List ℕ) → plan.are_below n xs ≡ true → ascends xs ≡ true → are_some_below n (numbers_of xs) ≡ true
numbers_are n xs below up =
    let p = and_parts (nat_lt 0 (length xs)) _ below in
    and_from _ _ (some_same xs p.0) (and_from _ _ (ascends_same xs up) (below_same n xs p.1))

meant_back : (n : ℕ) (xs : List ℕ) → IsIdSet n xs → meant n (numbers_of xs) ≡ xs
meant_back n xs set = filter_range (means (numbers_of xs)) (has_id xs) 0 n (λ k l u. has_number_same xs k) ∙ sym set

-- ---- periods

-- ---- what is changed

decoded_back : (least : ℕ) (bs : List ℕ) → AllByRecursion (λ b. b < 256) bs → (nat_le least (length bs) && nat_le (length bs) 4096) ≡ true → decoded least (encode_lower bs) ≡ Some bs
decoded_back least bs h size = ap (λ (r : Result (List ℕ) FromHexError). bytes_of least (result_ok r)) (decode_of-encode_lower bs (bytes_at bs h)) ∙ rw size refl

change_back : (c : Change) → plan.is_change c ≡ true → WritesBytes c → change_of_effect (effect_of c) ≡ Some c
change_back Drop h w = refl
change_back (Set at bytes) h w =
    let p = and_parts (nat_le at 4095) _ h in
    let there : is_between (pos 0) (pos 4095) (pos at) ≡ true = and_from _ _ (not_above 0 at (omega arith)) (not_above at 4095 (leb-true at 4095 p.0)) in
    rw there (ap (option_map (Set at)) (decoded_back 1 bytes w p.1))
change_back (Cut k) h w = absurd w
change_back Twice h w = absurd w
change_back (Time t) h w = absurd w
change_back (Raw bytes) h w = absurd w

-- ---- a line

-- what is asked of a line that is spelt as parts
pub record IsSpelt (l : Line) : Type 0 where
  pub in_range : plan.is_line 8 8 1024 l ≡ true
  pub ascending : ascends l.to ≡ true
  pub slots_ascend : ascends l.slots ≡ true
  pub set : IsIdSet 8 l.to
  pub slots_set : IsIdSet 8 l.slots
  pub bytes : WritesBytes l.change

-- the line with these receivers and slots
abbrev line_to : Line → List ℕ → List ℕ → Option Line
line_to l to slots = Some (record { from = l.from; to = to; first = l.first; last = l.last; slots = slots; change = l.change })

pub line_back : (l : Line) → IsSpelt l → line_at 8 8 1024 (fault_of l) ≡ Some l
line_back l h =
    let a = and_parts (nat_lt l.from 8) _ h.in_range in
    let b = and_parts (plan.are_below 8 l.to) _ a.1 in
    let c = and_parts (not (has_id l.to l.from)) _ b.1 in
    let d = and_parts (nat_le l.first l.last) _ c.1 in
    let e = and_parts (nat_lt l.last 1024) _ d.1 in
    let f = and_parts (plan.are_below 8 l.slots) _ e.1 in
    let apart : has_id l.to l.from ≡ false = not-true _ c.0 in
    let placed : is_placed 8 8 1024 (fault_of l) ≡ true =
    and_from _ _ (and_from _ _ (and_from _ _ (and_from _ _ a.0 (numbers_are 8 l.to b.0 h.ascending)) (not_from_false _ (has_number_same l.to l.from ∙ apart)))
    (span_is 1024 l.first l.last (leb-true _ _ d.0) (ltb-true _ _ e.0))) (numbers_are 8 l.slots f.0 h.slots_ascend) in
    let to : others_of 8 (pos l.from) (numbers_of l.to) ≡ l.to = ap (λ (xs : List ℕ). without_id xs l.from) (meant_back 8 l.to h.set) ∙ without_other l.to l.from apart in
    let slots : meant 8 (numbers_of l.slots) ≡ l.slots = meant_back 8 l.slots h.slots_set in
    rw placed (ap (option_map (line_with 8 8 (fault_of l))) (change_back l.change f.1 h.bytes) ∙ ap₂ (line_to l) to slots)

pub lines_back : (ls : List Line) → AllByRecursion IsSpelt ls → filter_map (line_at 8 8 1024) (map fault_of ls) ≡ ls
lines_back [] h = refl
lines_back (l ∷ ls) h = let here = line_back l h.0 in let rest = lines_back ls h.1 in rw here (ap (λ (ms : List Line). l ∷ ms) rest)

pub all_spelt : (k : ℕ) (bs : List Block) → k + length bs ≤ 64 → AreBlocks k bs → AllByRecursion IsSpelt (lines_of bs)
all_spelt k [] few are = tt
all_spelt k (b ∷ bs) few are =
    every_append IsSpelt b.lines (lines_of bs)
    (every_weaker (IsLineOf b.spell) IsSpelt (λ l is. record {
      in_range = line_in_range k b.spell (omega arith) are.0.spell l is;
      ascending = is.ascending;
      slots_ascend = is.slots_ascend;
      set = is.set;
      slots_set = is.slots_set;
      bytes = is.bytes;
    }) b.lines are.0.lines.lines)
    (all_spelt (k + 1) bs (omega arith) are.1)
