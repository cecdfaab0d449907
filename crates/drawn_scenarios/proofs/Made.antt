-- The fault lines that the parts of bouts are.
use Rattle.std.proofs.Common.{◌≡◌, ◌≢◌, ℕ, ◌+◌, ◌-◌, ◌*◌, ◌^◌, ◌<◌, ◌≤◌, true, false, ◌&&◌, List, [], ◌∷◌, ◌++◌, length, Option, None, Some, Result, pos, refl, sym, ap, ◌∙◌, arith, subst, length-append}
use Rattle.std.specs.Prelude.{nat_le, is_some, option_map, if◌then◌else◌}
use Rattle.std.specs.Int.{w64, to_be_bytes}
use Rattle.std.specs.List.{filter_map, flat_map, AllByRecursion}
use Rattle.std.specs.Result.{result_ok}
use Rattle.std.proofs.lemmas.Bool.{and_from, lt-ltb, not_from_false}
use Rattle.node_grid.specs.NumberFacts.{not_above}
use Rattle.scenario.specs.Facts.{span_is, bytes_at}
use Rattle.hex.specs.Hex.{encode_lower}
use Rattle.hex.specs.declared.error.FromHexError.{FromHexError}
use Rattle.hex.proofs.HexLemmas.{decode_of-encode_lower}
use Rattle.slot_plan.specs.Slots.{slot_count}
use Rattle.fault_classes.specs.Change.{Change}
use Rattle.fault_classes.specs.Change.Change.{Drop, Twice, Time, Set}
use Rattle.fault_classes.specs.Line.{Line}
use Rattle.scenario.specs.Parts.{Numbers, FaultParts}
use Rattle.scenario.specs.Parts.Numbers.{all, these}
use Rattle.scenario.specs.Numbers.{is_between, are_some_below, lists}
use Rattle.scenario.specs.Line.{bytes_of, decoded, change_of_effect, is_placed, line_with, line_at}
use Rattle.scenario.specs.Rules.{first_bad, is_fault_part}
use Rattle.drawn_scenarios.specs.declared.choices.Choices.{Choices}
use Rattle.drawn_scenarios.specs.declared.bout.Fault.{Fault}
use Rattle.drawn_scenarios.specs.declared.bout.Fault.TheVariants as fault
use Rattle.drawn_scenarios.specs.declared.bout.Conduct.{Conduct}
use Rattle.drawn_scenarios.specs.declared.bout.Conduct.TheVariants.{Alike, Apart}
use Rattle.drawn_scenarios.specs.declared.bout.Bout.{Bout}
use Rattle.drawn_scenarios.specs.Lines.{word_of, effect_of, slots_of, picked, others, group, rest, some_of, rest_of, line, lines_by, lines_of}
use Rattle.drawn_scenarios.proofs.Picked.{others_up, others_below, others_other, length_others, every_picked, up_picked, rising, all_low, not_number, some_picked, not_empty}
use Rattle.drawn_scenarios.proofs.Shape.{IsFault, AreSome, IsConduct, IsBout}

-- ---- what a fault does to a frame

abbrev pub change_of : Fault → Change
change_of fault.Silent = Drop
change_of fault.Late = Time 25
change_of fault.Twice = Twice
change_of (fault.Value channel v) = Set (14 + 8 * channel) (to_be_bytes w64 (word_of v))
change_of (fault.Accusation accused kinds) = Set (14 + 2 * accused) (0 ∷ kinds ∷ [])

decoded_back : (bs : List ℕ) → AllByRecursion (λ b. b < 256) bs → (nat_le 1 (length bs) && nat_le (length bs) 4096) ≡ true → decoded 1 (encode_lower bs) ≡ Some bs
decoded_back bs h size = ap (λ (r : Result (List ℕ) FromHexError). bytes_of 1 (result_ok r)) (decode_of-encode_lower bs (bytes_at bs h)) ∙ rw size refl

set_back : (at : ℕ) (bytes : List ℕ) → at ≤ 4095 → AllByRecursion (λ b. b < 256) bytes → (nat_le 1 (length bytes) && nat_le (length bytes) 4096) ≡ true
    → (if is_between (pos 0) (pos 4095) (pos at) then option_map (Set at) (decoded 1 (encode_lower bytes)) else None) ≡ Some (Set at bytes)
set_back at bytes low small size =
    let there : is_between (pos 0) (pos 4095) (pos at) ≡ true = and_from _ _ (not_above 0 at (omega arith)) (not_above at 4095 low) in
    rw there (ap (option_map (Set at)) (decoded_back bytes small size))

word_bytes : (v : ℕ) → AllByRecursion (λ b. b < 256) (to_be_bytes w64 v)
word_bytes v = (omega arith, (omega arith, (omega arith, (omega arith, (omega arith, (omega arith, (omega arith, (omega arith, tt))))))))

pub change_back : (c : Choices) (f : Fault) → c.nodes ≤ 16 → IsFault c f → change_of_effect (effect_of f) ≡ Some (change_of f)
change_back c fault.Silent few is = refl
change_back c fault.Late few is = refl
change_back c fault.Twice few is = refl
change_back c (fault.Value channel v) few is = set_back (14 + 8 * channel) (to_be_bytes w64 (word_of v)) (let l = is.0 in omega arith) (word_bytes (word_of v)) refl
change_back c (fault.Accusation accused kinds) few is = set_back (14 + 2 * accused) (0 ∷ kinds ∷ []) (let l = is.0 in omega arith) (omega arith, (is.1, tt)) refl

-- ---- in which slots

one_below : (n x : ℕ) → x < n → are_some_below n (these (pos x ∷ [])) ≡ true
one_below n x low = and_from _ _ refl (and_from _ _ refl (and_from _ _ (lt-ltb x n low) refl))

slots_below : (c : Choices) (f : Fault) → are_some_below (slot_count c.m) (slots_of c f) ≡ true
slots_below c fault.Silent = refl
slots_below c fault.Late = refl
slots_below c fault.Twice = refl
slots_below c (fault.Value channel v) = one_below (slot_count c.m) (c.m + 2) (omega arith)
slots_below c (fault.Accusation accused kinds) = one_below (slot_count c.m) (c.m + 3) (omega arith)

-- ---- to whom

pub record AreReceivers (c : Choices) (j : ℕ) (to : Numbers) : Type 0 where
  pub below : are_some_below c.nodes to ≡ true
  pub others : lists to (pos j) ≡ false

pub to_all : (c : Choices) (j : ℕ) → AreReceivers c j all
to_all c j = record { below = refl; others = refl }

pub to_group : (c : Choices) (j mask : ℕ) → j < c.nodes → 0 < mask → mask < 2 ^ (c.nodes - 1) → AreReceivers c j (group c.nodes j mask)
to_group c j mask low some few =
    let js = others c.nodes j in
    let size = length_others c.nodes j low in
    let one = some_picked mask js some (subst (λ (k : ℕ). mask < 2 ^ k) (sym size) few) in
    record {
      below =
          and_from _ _ (not_empty (picked mask js) one.0 one.1)
          (and_from _ _ (rising (picked mask js) (up_picked mask js (others_up c.nodes j))) (all_low c.nodes (picked mask js) (every_picked (λ y. y < c.nodes) mask js (others_below c.nodes j))));
      others = not_number (picked mask js) j (every_picked (λ y. y ≢ j) mask js (others_other c.nodes j));
    }

pub to_some : (c : Choices) (b : Bout) (some : ℕ) → b.node < c.nodes → AreSome c some → AreReceivers c b.node (some_of c b some)
to_some c b some low are = to_group c b.node some low are.some_are (let l = are.not_all in omega arith)

pub to_rest : (c : Choices) (b : Bout) (some : ℕ) → b.node < c.nodes → AreSome c some → AreReceivers c b.node (rest_of c b some)
to_rest c b some low are = to_group c b.node (rest c.nodes some) low (let l = are.not_all in omega arith) (let l = are.some_are in let m = are.not_all in omega arith)

-- ---- the lines

-- the line of a bout
abbrev pub made : Choices → Bout → Numbers → Fault → Line
made c b to f = line_with c.nodes (slot_count c.m) (line c b to f) (change_of f)

abbrev pub made_by : Choices → Bout → Conduct → List Line
made_by c b (Alike f lie) = made c b all f ∷ []
made_by c b (Apart some f None lies) = made c b (some_of c b some) f ∷ []
made_by c b (Apart some f (Some g) lies) = made c b (some_of c b some) f ∷ made c b (rest_of c b some) g ∷ []

abbrev pub made_of : Choices → Bout → List Line
made_of c b = made_by c b b.conduct

pub is_made : (c : Choices) (b : Bout) (to : Numbers) (f : Fault) → c.nodes ≤ 16 → IsBout c b → AreReceivers c b.node to → IsFault c f
    → line_at c.nodes (slot_count c.m) c.periods (line c b to f) ≡ Some (made c b to f)
is_made c b to f few is receivers fault =
    let placed : is_placed c.nodes (slot_count c.m) c.periods (line c b to f) ≡ true =
    and_from _ _ (and_from _ _ (and_from _ _ (and_from _ _ (lt-ltb b.node c.nodes is.node) receivers.below) (not_from_false _ receivers.others)) (span_is c.periods b.first b.last is.some is.last)) (slots_below c f) in
    rw placed (ap (option_map (line_with c.nodes (slot_count c.m) (line c b to f))) (change_back c f few fault))

-- the parts are these lines
abbrev pub AreMade : Choices → List FaultParts → List Line → Type 0
AreMade c [] [] = Unit {0}
AreMade c (x ∷ xs) (l ∷ ls) = (line_at c.nodes (slot_count c.m) c.periods x ≡ Some l) × AreMade c xs ls
AreMade c [] (l ∷ ls) = ⊥
AreMade c (x ∷ xs) [] = ⊥

made_append : (c : Choices) (xs ys : List FaultParts) (ls ms : List Line) → AreMade c xs ls → AreMade c ys ms → AreMade c (xs ++ ys) (ls ++ ms)
made_append c [] ys [] ms a b = b
made_append c (x ∷ xs) ys (l ∷ ls) ms a b = (a.0, made_append c xs ys ls ms a.1 b)
made_append c [] ys (l ∷ ls) ms a b = absurd a
made_append c (x ∷ xs) ys [] ms a b = absurd a

by_conduct : (c : Choices) (b : Bout) (k : Conduct) → c.nodes ≤ 16 → IsBout c b → IsConduct c k → AreMade c (lines_by c b k) (made_by c b k)
by_conduct c b (Alike f lie) few is k = (is_made c b all f few is (to_all c b.node) k.0, tt)
by_conduct c b (Apart some f None lies) few is k = (is_made c b (some_of c b some) f few is (to_some c b some is.node k.0) k.1.fault, tt)
by_conduct c b (Apart some f (Some g) lies) few is k = (
  is_made c b (some_of c b some) f few is (to_some c b some is.node k.0) k.1.fault,
  (is_made c b (rest_of c b some) g few is (to_rest c b some is.node k.0) k.1.rest, tt),
)

pub all_made : (c : Choices) (bs : List Bout) → c.nodes ≤ 16 → AllByRecursion (IsBout c) bs → AreMade c (flat_map (lines_of c) bs) (flat_map (made_of c) bs)
all_made c [] few each = tt
all_made c (b ∷ bs) few each = made_append c (lines_of c b) (flat_map (lines_of c) bs) (made_of c b) (flat_map (made_of c) bs) (by_conduct c b b.conduct few each.0 each.0.conduct) (all_made c bs few each.1)

pub lines_back : (c : Choices) (xs : List FaultParts) (ls : List Line) → AreMade c xs ls → filter_map (line_at c.nodes (slot_count c.m) c.periods) xs ≡ ls
lines_back c [] [] a = refl
lines_back c (x ∷ xs) (l ∷ ls) a = let here = a.0 in let rest = lines_back c xs ls a.1 in rw here (ap (λ (ms : List Line). l ∷ ms) rest)
lines_back c [] (l ∷ ls) a = absurd a
lines_back c (x ∷ xs) [] a = absurd a

pub none_bad : (c : Choices) (k : ℕ) (xs : List FaultParts) (ls : List Line) → AreMade c xs ls → first_bad (is_fault_part c.nodes (slot_count c.m) c.periods) k xs ≡ None
none_bad c k [] [] a = refl
none_bad c k (x ∷ xs) (l ∷ ls) a =
    let here : is_some (line_at c.nodes (slot_count c.m) c.periods x) ≡ true = ap (λ (o : Option Line). is_some o) a.0 in
    rw here (none_bad c (k + 1) xs ls a.1)
none_bad c k [] (l ∷ ls) a = absurd a
none_bad c k (x ∷ xs) [] a = absurd a

-- at most two a bout
pub few_parts : (c : Choices) (bs : List Bout) → length (flat_map (lines_of c) bs) ≤ 2 * length bs
few_parts c [] = omega arith
few_parts c (b ∷ bs) = let here = few_by b.conduct in let rest = few_parts c bs in omega (arith, length-append (lines_of c b) (flat_map (lines_of c) bs)) where
  few_by : (k : Conduct) → length (lines_by c b k) ≤ 2
  few_by (Alike f lie) = omega arith
  few_by (Apart some f None lies) = omega arith
  few_by (Apart some f (Some g) lies) = omega arith
