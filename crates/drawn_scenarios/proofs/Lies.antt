-- Who lies about its clock may lie then.
use Rattle.std.proofs.Common.{◌≡◌, ℕ, zero, suc, ◌+◌, ◌-◌, ◌*◌, ◌^◌, ◌<◌, ◌≤◌, Bool, true, false, not, cond, ◌||◌, ◌==◌, List, [], ◌∷◌, ◌++◌, map, length, inl, inr, Option, None, Some, ℤ, pos, refl, sym, ap, ap₂, subst, ◌∙◌, append_assoc, arith, eqb-true, eq-eqb, length-append}
use Rattle.std.specs.Prelude.{nat_le, nat_lt, option_map}
use Rattle.std.specs.Cmp.Lexicographic.{pointwise}
use Rattle.std.specs.Int.{w64, to_be_bytes, from_be_bytes}
use Rattle.std.specs.List.{range_with_len, list_all, find, flat_map, AllByRecursion}
use Rattle.std.proofs.lemmas.Bool.{cases_eq, and_from, and_left, and_right, and_parts, or_from, or_left, or_right, false_from_ne_true, not_from_false, ne_eqb, le-leb, lt-ltb, leb-true, both_ways}
use Rattle.std.proofs.lemmas.Nat.{from_be_bytes-to_be_bytes_8}
use Rattle.node_grid.specs.declared.class.Class.{Class}
use Rattle.node_grid.specs.declared.class.Class.TheVariants.{N, J, B, S, A}
use Rattle.node_grid.specs.Class.{is_sound, is_symmetric}
use Rattle.node_grid.specs.NodeSet.{ids_below, has_id}
use Rattle.node_grid.specs.NodeSetLaws.{has-filter, has-without_id, not_all_ids}
use Rattle.slot_plan.specs.Slots.{slot_count}
use Rattle.node_grid.specs.ListFacts.{same_list, every_append, every_weaker}
use Rattle.fault_classes.specs.declared.line.Restart.{Restart}
use Rattle.fault_classes.specs.Change.{Change, is_untouched, same_change, same_effect}
use Rattle.fault_classes.specs.Line.{Line, touches, effect_at}
use Rattle.fault_classes.specs.Plan.{Plan, plan_of, each_in_slot, is_clean, is_symmetric_at, sound_before, restarts_at, class_of}
use Rattle.fault_classes.specs.ClassLaws.{sound_is, symmetric_if}
use Rattle.scenario.specs.Parts.{Numbers, LieParts}
use Rattle.scenario.specs.Parts.Numbers.{all, these}
use Rattle.scenario.specs.Numbers.{means, meant}
use Rattle.scenario.specs.Line.{others_of, lie_in, restart_of}
use Rattle.scenario.specs.Given as given
use Rattle.scenario.specs.Rules.{first_bad, hears, is_to_all, may_tell, may_tell_in, is_lie, fits_lie, at_place, clock_refused, clock_refusal}
use Rattle.scenario.specs.Facts.{span_is}
use Rattle.drawn_scenarios.specs.declared.choices.ClockChoices.{ClockChoices}
use Rattle.drawn_scenarios.specs.declared.choices.Choices.{Choices}
use Rattle.drawn_scenarios.specs.declared.bout.Fault.{Fault}
use Rattle.drawn_scenarios.specs.declared.bout.Fault.TheVariants as fault
use Rattle.drawn_scenarios.specs.declared.bout.Conduct.{Conduct}
use Rattle.drawn_scenarios.specs.declared.bout.Conduct.TheVariants.{Alike, Apart}
use Rattle.drawn_scenarios.specs.declared.bout.Bout.{Bout}
use Rattle.drawn_scenarios.specs.Choices.{AreChoices}
use Rattle.drawn_scenarios.specs.Cluster.{clock_of}
use Rattle.drawn_scenarios.specs.Lines.{word_of, slots_of, picked, others, group, rest, some_of, rest_of, lie, lies_by, lies_of, restarts_of}
use Rattle.drawn_scenarios.specs.Drawn.{parts_of}
use Rattle.drawn_scenarios.proofs.Every.{every_both}
use Rattle.drawn_scenarios.proofs.Picked.{at_member, every_picked, others_below, others_other, length_others, number_of, some_picked}
use Rattle.drawn_scenarios.proofs.Made.{change_of, AreReceivers, to_all, to_some, to_rest, made, made_by, made_of}
use Rattle.drawn_scenarios.proofs.Overlaps.{IsLineOf, of_bout, not_both}
use Rattle.drawn_scenarios.proofs.Shape.{IsLie, IsSplit, AreSome, IsConduct, IsBout, Comes, Ordered, AreBouts}
use Rattle.drawn_scenarios.proofs.Early.{clock_stands}

-- ---- the first that passes

find_none : {X : Type 0} (t : X → Bool) (xs : List X) → AllByRecursion (λ x. t x ≡ false) xs → find t xs ≡ None
find_none t [] a = refl
find_none t (x ∷ xs) a = rw a.0 (find_none t xs a.1)

find_front : {X : Type 0} (t : X → Bool) (xs ys : List X) → AllByRecursion (λ x. t x ≡ false) xs → find t (xs ++ ys) ≡ find t ys
find_front t [] ys a = refl
find_front t (x ∷ xs) ys a = rw a.0 (find_front t xs ys a.1)

find_back : {X : Type 0} (t : X → Bool) (xs ys : List X) → AllByRecursion (λ y. t y ≡ false) ys → find t (xs ++ ys) ≡ find t xs
find_back t [] ys a = find_none t ys a
find_back t (x ∷ xs) ys a = ap (cond (t x) (Some x)) (find_back t xs ys a)

-- ---- which lines touch the frames of a bout's node in its periods

untouched_later : (b x : Bout) (l : Line) (p s i : ℕ) → Comes b x → IsLineOf b l → x.first ≤ p → touches p s x.node i l ≡ false
untouched_later b x l p s i comes of late = false_from_ne_true _ (λ e.
    let u = and_parts (l.from == x.node) _ e in
    let v = and_parts (has_id l.to i) _ u.1 in
    let w = and_parts (has_id l.slots s) _ v.1 in
    let y = and_parts (nat_le l.first p) _ w.1 in
    let same : l.from ≡ x.node = eqb-true _ _ u.0 in
    let before : p ≤ l.last = leb-true _ _ y.1 in
    let f = of.from in let g = of.last in
    elim comes [
      | inl less ↦ absurd (omega arith)
      | inr later ↦ let after = later.1 in absurd (omega arith)
    ])

untouched_before : (b x : Bout) (l : Line) (p s i : ℕ) → Comes b x → IsLineOf x l → p ≤ b.last → touches p s b.node i l ≡ false
untouched_before b x l p s i comes of early = false_from_ne_true _ (λ e.
    let u = and_parts (l.from == b.node) _ e in
    let v = and_parts (has_id l.to i) _ u.1 in
    let w = and_parts (has_id l.slots s) _ v.1 in
    let y = and_parts (nat_le l.first p) _ w.1 in
    let same : l.from ≡ b.node = eqb-true _ _ u.0 in
    let after : l.first ≤ p = leb-true _ _ y.0 in
    let f = of.from in let g = of.first in
    elim comes [
      | inl less ↦ absurd (omega arith)
      | inr later ↦ let late = later.1 in absurd (omega arith)
    ])

-- no line of these touches a frame of the bout's node in its periods
abbrev Spare : Bout → List Line → Type 0
Spare b ls = (p s i : ℕ) → b.first ≤ p → p ≤ b.last → AllByRecursion (λ l. touches p s b.node i l ≡ false) ls

-- what befalls these frames is what the bout's own lines do
pub record Owns (c : Choices) (ls : List Line) (b : Bout) : Type 0 where
  pub finds : (p s i : ℕ) → b.first ≤ p → p ≤ b.last → find (touches p s b.node i) ls ≡ find (touches p s b.node i) (made_of c b)

later_spare : (c : Choices) (b : Bout) (bs : List Bout) → AllByRecursion (Comes b) bs → Spare b (flat_map (made_of c) bs)
later_spare c b [] comes p s i low high = tt
later_spare c b (x ∷ xs) comes p s i low high =
    every_append (λ l. touches p s b.node i l ≡ false) (made_of c x) (flat_map (made_of c) xs)
    (every_weaker (IsLineOf x) (λ l. touches p s b.node i l ≡ false) (λ l of. untouched_before b x l p s i comes.0 of high) (made_of c x) (of_bout c x)) (later_spare c b xs comes.1 p s i low high)

more_spare : (c : Choices) (b : Bout) (ls : List Line) (bs : List Bout) → AllByRecursion (Comes b) bs → AllByRecursion (λ x. Spare x ls) bs → AllByRecursion (λ x. Spare x (ls ++ made_of c b)) bs
more_spare c b ls [] comes a = tt
more_spare c b ls (x ∷ xs) comes a = (
  λ p s i low high. every_append (λ l. touches p s x.node i l ≡ false) ls (made_of c b) (a.0 p s i low high)
      (every_weaker (IsLineOf b) (λ l. touches p s x.node i l ≡ false) (λ l of. untouched_later b x l p s i comes.0 of low) (made_of c b) (of_bout c b)),
  more_spare c b ls xs comes.1 a.1,
)

owned : (c : Choices) (ls : List Line) (bs : List Bout) → Ordered bs → AllByRecursion (λ b. Spare b ls) bs → AllByRecursion (Owns c (ls ++ flat_map (made_of c) bs)) bs
owned c ls [] ordered a = tt
owned c ls (b ∷ bs) ordered a = (
  record {
    finds = λ p s i low high.
        find_front (touches p s b.node i) ls (made_of c b ++ flat_map (made_of c) bs) (a.0 p s i low high)
        ∙ find_back (touches p s b.node i) (made_of c b) (flat_map (made_of c) bs) (later_spare c b bs ordered.0 p s i low high);
  },
  subst (λ (ms : List Line). AllByRecursion (Owns c ms) bs) (append_assoc ls (made_of c b) (flat_map (made_of c) bs))
      (owned c (ls ++ made_of c b) bs ordered.1 (more_spare c b ls bs ordered.0 a.1)),
)

none_first : (bs : List Bout) → AllByRecursion (λ b. Spare b []) bs
none_first [] = tt
none_first (b ∷ bs) = (λ p s i low high. tt, none_first bs)

pub all_owned : (c : Choices) (bs : List Bout) → Ordered bs → AllByRecursion (Owns c (flat_map (made_of c) bs)) bs
all_owned c bs ordered = owned c [] bs ordered (none_first bs)

-- ---- a line of the bout touches frames

touches_made : (c : Choices) (b : Bout) (to : Numbers) (f : Fault) (p s i : ℕ) → b.first ≤ p → p ≤ b.last → has_id (others_of c.nodes (pos b.node) to) i ≡ true → has_id (meant (slot_count c.m) (slots_of c f)) s ≡ true
    → touches p s b.node i (made c b to f) ≡ true
touches_made c b to f p s i low high there slot =
    and_from _ _ (eq-eqb b.node b.node refl) (and_from _ _ there (and_from _ _ slot (and_from _ _ (le-leb b.first p low) (le-leb p b.last high))))

spares_made : (c : Choices) (b : Bout) (to : Numbers) (f : Fault) (p s i : ℕ) → has_id (others_of c.nodes (pos b.node) to) i ≡ false → touches p s b.node i (made c b to f) ≡ false
spares_made c b to f p s i out = and_right (b.node == b.node) _ (and_left (has_id (others_of c.nodes (pos b.node) to) i) _ out)

-- a slot of a fault
record HasSlot (c : Choices) (f : Fault) (s : ℕ) : Type 0 where
  low : s < slot_count c.m
  there : has_id (meant (slot_count c.m) (slots_of c f)) s ≡ true

abbrev slot_of : Choices → Fault → ℕ
slot_of c (fault.Value channel v) = c.m + 2
slot_of c (fault.Accusation accused kinds) = c.m + 3
slot_of c fault.Silent = 0
slot_of c fault.Late = 0
slot_of c fault.Twice = 0

single_slot : (n s : ℕ) → s < n → has_id (meant n (these (pos s ∷ []))) s ≡ true
single_slot n s low = has-filter (means (these (pos s ∷ []))) n s low ∙ number_of (s ∷ []) s (or_left _ _ (eq-eqb s s refl))

has_slot : (c : Choices) (f : Fault) → HasSlot c f (slot_of c f)
has_slot c (fault.Value channel v) = record { low = omega arith; there = single_slot (slot_count c.m) (c.m + 2) (omega arith) }
has_slot c (fault.Accusation accused kinds) = record { low = omega arith; there = single_slot (slot_count c.m) (c.m + 3) (omega arith) }
has_slot c fault.Silent = record { low = omega arith; there = has-filter (means all) (slot_count c.m) 0 (omega arith) }
has_slot c fault.Late = record { low = omega arith; there = has-filter (means all) (slot_count c.m) 0 (omega arith) }
has_slot c fault.Twice = record { low = omega arith; there = has-filter (means all) (slot_count c.m) 0 (omega arith) }

word_fits : (v : ℕ) → word_of v < 2 ^ 64
word_fits v = omega arith

same_word : (v w : ℕ) → v < 4001 → w < 4001 → word_of v ≡ word_of w → v ≡ w
same_word v w low few e = omega arith

-- values that differ have bytes that differ
bytes_differ : (v w : ℕ) → v < 4001 → w < 4001 → (v ≡ w → ⊥) → pointwise ◌==◌ (to_be_bytes w64 (word_of v)) (to_be_bytes w64 (word_of w)) ≡ false
bytes_differ v w low few ne = false_from_ne_true _ (λ e.
    let bytes = same_list (to_be_bytes w64 (word_of v)) (to_be_bytes w64 (word_of w)) e in
    ne (same_word v w low few (sym (from_be_bytes-to_be_bytes_8 (word_of v) (word_fits v)) ∙ ap (from_be_bytes w64) bytes ∙ from_be_bytes-to_be_bytes_8 (word_of w) (word_fits w))))

-- two values that are told are told in one slot, and differ
two_told : (c : Choices) (f g : Fault) → IsSplit c (f, Some g) → HasSlot c g (slot_of c f) × (same_change (change_of f) (change_of g) ≡ false)
two_told c (fault.Value channel v) (fault.Value channel' w) is = (
  has_slot c (fault.Value channel' w),
  and_right (14 + 8 * channel == 14 + 8 * channel') _ (bytes_differ v w is.fault.1 is.rest.1 is.differs.1),
)
two_told c (fault.Value channel v) fault.Silent is = absurd is.differs
two_told c (fault.Value channel v) fault.Late is = absurd is.differs
two_told c (fault.Value channel v) fault.Twice is = absurd is.differs
two_told c (fault.Value channel v) (fault.Accusation accused kinds) is = absurd is.differs
two_told c fault.Silent g is = absurd is.differs
two_told c fault.Late g is = absurd is.differs
two_told c fault.Twice g is = absurd is.differs
two_told c (fault.Accusation accused kinds) g is = absurd is.differs

-- ---- who is reached

record IsReached (c : Choices) (j : ℕ) (to : Numbers) (i : ℕ) : Type 0 where
  low : i < c.nodes
  other : i ≡ j → ⊥
  there : has_id (others_of c.nodes (pos j) to) i ≡ true

reached : (c : Choices) (j : ℕ) (to : Numbers) (i : ℕ) → i < c.nodes → (i ≡ j → ⊥) → means to i ≡ true → IsReached c j to i
reached c j to i low other h = record {
  low = low;
  other = other;
  there = has-without_id (meant c.nodes to) j i ∙ and_from _ _ (not_from_false _ (ne_eqb i j other)) (has-filter (means to) c.nodes i low ∙ h);
}

-- there is another node
another : (c : Choices) (j : ℕ) → 3 ≤ c.nodes → (i : ℕ) × IsReached c j all i
another c zero some = (1, reached c 0 all 1 (omega arith) (λ e. absurd (omega arith)) refl)
another c (suc j) some = (0, reached c (suc j) all 0 (omega arith) (λ e. absurd (omega arith)) refl)

in_some : (c : Choices) (j mask : ℕ) → j < c.nodes → 0 < mask → mask < 2 ^ (c.nodes - 1) → (i : ℕ) × IsReached c j (group c.nodes j mask) i
in_some c j mask low some few =
    let js = others c.nodes j in
    let size = length_others c.nodes j low in
    let one = some_picked mask js some (subst (λ (k : ℕ). mask < 2 ^ k) (sym size) few) in (
      one.0,
      reached c j (group c.nodes j mask) one.0 (at_member (λ y. y < c.nodes) (picked mask js) one.0 (every_picked (λ y. y < c.nodes) mask js (others_below c.nodes j)) one.1)
          (at_member (λ y. y ≡ j → ⊥) (picked mask js) one.0 (every_picked (λ y. y ≡ j → ⊥) mask js (others_other c.nodes j)) one.1) (number_of (picked mask js) one.0 one.1),
    )

-- ---- classes

not_s : (x : Class) → (x ≡ S → ⊥) → is_symmetric x ≡ false
not_s N h = refl
not_s J h = refl
not_s B h = refl
not_s S h = absurd (h refl)
not_s A h = refl

module _ (c : Choices) (ls : List Line) (rs : List Restart) where
  abbrev plan : Plan
  plan = plan_of c.nodes c.m c.periods ls rs

  -- a node one of whose frames is touched isn't sound
  unclean : (p s j i : ℕ) (x : Change) → s < slot_count c.m → i < c.nodes → (i ≡ j → ⊥) → effect_at ls p s j i ≡ Some x → is_clean plan p j ≡ false
  unclean p s j i x slot low other e =
      not_all_ids (each_in_slot plan is_untouched p j) (slot_count c.m) s slot
      (not_all_ids (λ k. k == j || is_untouched (effect_at ls p s j k)) c.nodes i low (or_from _ _ (ne_eqb i j other) (ap is_untouched e)))

  unsound : (p j : ℕ) → j < c.nodes → is_clean plan p j ≡ false → is_sound (class_of plan p j) ≡ false
  unfolding sound_before
  unsound p j low dirty =
      sound_is plan p j low
      ∙ or_from _ _ (and_right (nat_lt j c.nodes) _ (and_right (not (restarts_at plan j p)) _ (and_left _ _ dirty)))
      (and_right (nat_lt j c.nodes) _ (and_right (restarts_at plan j p) _ (and_left _ _ dirty)))

  -- a node that treats two others differently isn't symmetric
  asymmetric_if : (p s j i h : ℕ) → s < slot_count c.m → i < c.nodes → h < c.nodes → (i ≡ j → ⊥) → (h ≡ j → ⊥) → same_effect (effect_at ls p s j i) (effect_at ls p s j h) ≡ false → is_symmetric (class_of plan p j) ≡ false
  asymmetric_if p s j i h slot low low' other other' differ =
      not_s (class_of plan p j) (λ e. both_ways _
      (not_all_ids (is_symmetric_at plan p j) (slot_count c.m) s slot
      (not_all_ids (λ k. list_all (λ g. k == j || (g == j || same_effect (effect_at ls p s j k) (effect_at ls p s j g))) (ids_below c.nodes)) c.nodes i low
      (not_all_ids (λ g. i == j || (g == j || same_effect (effect_at ls p s j i) (effect_at ls p s j g))) c.nodes h low'
      (or_from _ _ (ne_eqb i j other) (or_from _ _ (ne_eqb h j other') differ)))))
      (symmetric_if plan p j e).1)

  -- ---- lies

  all_periods : (t : ℕ → Bool) (a n : ℕ) → ((k : ℕ) → a ≤ k → k < a + n → t k ≡ true) → list_all t (range_with_len a n) ≡ true
  all_periods t a zero h = refl
  all_periods t a (suc n) h = and_from _ _ (h a (omega arith) (omega arith)) (all_periods t (a + 1) n (λ k l u. h k (omega arith) (omega arith)))

  is_told : (b : Bout) (to : Numbers) (by : ℤ) → IsBout c b → AreReceivers c b.node to → IsLie by
      → ((p : ℕ) → b.first ≤ p → p ≤ b.last → may_tell (is_to_all c.nodes (lie_in c.nodes (lie b to by))) (class_of plan p b.node) ≡ true) → is_lie plan (lie b to by) ≡ true
  is_told b to by is receivers small fair =
      let some = is.some in
      and_from _ _ (and_from _ _ (and_from _ _ (and_from _ _ (and_from _ _ (lt-ltb b.node c.nodes is.node) receivers.below) (not_from_false _ receivers.others)) (span_is c.periods b.first b.last is.some is.last)) small)
      (all_periods (may_tell_in plan (lie_in c.nodes (lie b to by))) b.first (b.last + 1 - b.first) (λ p low high. fair p low (omega arith)))

  -- all others hear what is told to all
  told_to_all : (by : ℤ) (b : Bout) → list_all (hears (lie_in c.nodes (lie b all by))) (ids_below c.nodes) ≡ true
  told_to_all by b = all_periods (hears (lie_in c.nodes (lie b all by))) 0 c.nodes (λ i low high. elim (cases_eq i b.node) [
    | inl same ↦ or_left _ _ (eq-eqb i b.node same)
    | inr other ↦ or_right (i == b.node) _ (reached c b.node all i (omega arith) other refl).there
  ])

  module _ (b : Bout) (is : IsBout c b) (owns : Owns c ls b) (some_nodes : 3 ≤ c.nodes) where
    -- what befalls a frame where the bout's own lines do this
    befalls : (p s i : ℕ) (o : Option Line) → b.first ≤ p → p ≤ b.last → find (touches p s b.node i) (made_of c b) ≡ o → effect_at ls p s b.node i ≡ option_map (λ (l : Line). l.change) o
    befalls p s i o low high e = ap (option_map (λ (l : Line). l.change)) (owns.finds p s i low high ∙ e)

    alike_lie : (f : Fault) (by : ℤ) → made_of c b ≡ made c b all f ∷ [] → IsLie by → is_lie plan (lie b all by) ≡ true
    alike_lie f by mine small = is_told b all by is (to_all c b.node) small (λ p low high.
        let slot = has_slot c f in
        let other = another c b.node some_nodes in
        let hit = touches_made c b all f p (slot_of c f) other.0 low high other.1.there slot.there in
        let found : find (touches p (slot_of c f) b.node other.0) (made_of c b) ≡ Some (made c b all f) = rw mine (rw hit refl) in
        let dirty = unclean p (slot_of c f) b.node other.0 (change_of f) slot.low other.1.low other.1.other (befalls p (slot_of c f) other.0 (Some (made c b all f)) low high found) in
        and_from _ _ (not_from_false _ (unsound p b.node is.node dirty)) (or_right (not (is_symmetric (class_of plan p b.node))) _ (told_to_all by b)))

    -- where two others are told different things, the node may tell its lies to whom it likes
    may_tell_any : (p s i h : ℕ) (x : Change) (t : Bool) → s < slot_count c.m → i < c.nodes → h < c.nodes → (i ≡ b.node → ⊥) → (h ≡ b.node → ⊥)
        → effect_at ls p s b.node i ≡ Some x → same_effect (effect_at ls p s b.node i) (effect_at ls p s b.node h) ≡ false → may_tell t (class_of plan p b.node) ≡ true
    may_tell_any p s i h x t slot low low' other other' e differ =
        and_from _ _ (not_from_false _ (unsound p b.node is.node (unclean p s b.node i x slot low other e)))
        (or_left _ _ (not_from_false _ (asymmetric_if p s b.node i h slot low low' other other' differ)))

    -- two others who are told different things in each period
    record AreDivided (p : ℕ) : Type 0 where
      slot : ℕ
      slot_low : slot < slot_count c.m
      one : ℕ
      one_low : one < c.nodes
      one_other : one ≡ b.node → ⊥
      other : ℕ
      other_low : other < c.nodes
      other_other : other ≡ b.node → ⊥
      change : Change
      hit : effect_at ls p slot b.node one ≡ Some change
      differs : same_effect (effect_at ls p slot b.node one) (effect_at ls p slot b.node other) ≡ false

    divided_tells : (t : Bool) (p : ℕ) → AreDivided p → may_tell t (class_of plan p b.node) ≡ true
    divided_tells t p d = may_tell_any p d.slot d.one d.other d.change t d.slot_low d.one_low d.other_low d.one_other d.other_other d.hit d.differs

    some_in : (some : ℕ) → AreSome c some → (i : ℕ) × IsReached c b.node (some_of c b some) i
    some_in some are = in_some c b.node some is.node are.some_are (let l = are.not_all in omega arith)

    rest_in : (some : ℕ) → AreSome c some → (i : ℕ) × IsReached c b.node (rest_of c b some) i
    rest_in some are = in_some c b.node (rest c.nodes some) is.node (let l = are.not_all in omega arith) (let l = are.some_are in let m = are.not_all in omega arith)

    -- who is among the rest isn't among some
    not_some : (some h : ℕ) → AreSome c some → IsReached c b.node (rest_of c b some) h → has_id (others_of c.nodes (pos b.node) (some_of c b some)) h ≡ false
    not_some some h are r = false_from_ne_true _ (λ e. not_both c b some h is.node are e r.there)

    divided_alone : (some : ℕ) (f : Fault) (p : ℕ) → AreSome c some → made_of c b ≡ made c b (some_of c b some) f ∷ [] → b.first ≤ p → p ≤ b.last → AreDivided p
    divided_alone some f p are mine low high =
        let s = slot_of c f in
        let slot = has_slot c f in
        let i = some_in some are in
        let h = rest_in some are in
        let hit = touches_made c b (some_of c b some) f p s i.0 low high i.1.there slot.there in
        let out = spares_made c b (some_of c b some) f p s h.0 (not_some some h.0 are h.1) in
        let at_one : effect_at ls p s b.node i.0 ≡ Some (change_of f) = befalls p s i.0 (Some (made c b (some_of c b some) f)) low high (rw mine (rw hit refl)) in
        let at_other : effect_at ls p s b.node h.0 ≡ None = befalls p s h.0 None low high (rw mine (rw out refl)) in
        record {
          slot = s;
          slot_low = slot.low;
          one = i.0;
          one_low = i.1.low;
          one_other = i.1.other;
          other = h.0;
          other_low = h.1.low;
          other_other = h.1.other;
          change = change_of f;
          hit = at_one;
          differs = ap₂ same_effect at_one at_other;
        }

    divided_both : (some : ℕ) (f g : Fault) (p : ℕ) → AreSome c some → HasSlot c g (slot_of c f) → same_change (change_of f) (change_of g) ≡ false
        → made_of c b ≡ made c b (some_of c b some) f ∷ made c b (rest_of c b some) g ∷ [] → b.first ≤ p → p ≤ b.last → AreDivided p
    divided_both some f g p are too differ mine low high =
        let s = slot_of c f in
        let slot = has_slot c f in
        let i = some_in some are in
        let h = rest_in some are in
        let hit = touches_made c b (some_of c b some) f p s i.0 low high i.1.there slot.there in
        let out = spares_made c b (some_of c b some) f p s h.0 (not_some some h.0 are h.1) in
        let hit_too = touches_made c b (rest_of c b some) g p s h.0 low high h.1.there too.there in
        let at_one : effect_at ls p s b.node i.0 ≡ Some (change_of f) = befalls p s i.0 (Some (made c b (some_of c b some) f)) low high (rw mine (rw hit refl)) in
        let at_other : effect_at ls p s b.node h.0 ≡ Some (change_of g) = befalls p s h.0 (Some (made c b (rest_of c b some) g)) low high (rw mine (rw (out, hit_too) refl)) in
        record {
          slot = s;
          slot_low = slot.low;
          one = i.0;
          one_low = i.1.low;
          one_other = i.1.other;
          other = h.0;
          other_low = h.1.low;
          other_other = h.1.other;
          change = change_of f;
          hit = at_one;
          differs = ap₂ same_effect at_one at_other ∙ differ;
        }

    apart_lies : (some : ℕ) (bys : ℤ × ℤ) → AreSome c some → IsLie bys.0 → IsLie bys.1 → ((p : ℕ) → b.first ≤ p → p ≤ b.last → AreDivided p)
        → AllByRecursion (λ l. is_lie plan l ≡ true) (lie b (some_of c b some) bys.0 ∷ lie b (rest_of c b some) bys.1 ∷ [])
    apart_lies some bys are x y d = (
      is_told b (some_of c b some) bys.0 is (to_some c b some is.node are) x (λ p low high. divided_tells (is_to_all c.nodes (lie_in c.nodes (lie b (some_of c b some) bys.0))) p (d p low high)),
      (
        is_told b (rest_of c b some) bys.1 is (to_rest c b some is.node are) y (λ p low high. divided_tells (is_to_all c.nodes (lie_in c.nodes (lie b (rest_of c b some) bys.1))) p (d p low high)),
        tt,
      ),
    )

    lies_are : (k : Conduct) → made_of c b ≡ made_by c b k → IsConduct c k → AllByRecursion (λ l. is_lie plan l ≡ true) (lies_by c b k)
    lies_are (Alike f None) mine k = tt
    lies_are (Alike f (Some by)) mine k = (alike_lie f by mine k.1, tt)
    lies_are (Apart some f o None) mine k = tt
    lies_are (Apart some f None (Some bys)) mine k = apart_lies some bys k.0 k.2.0 k.2.1 (λ p low high. divided_alone some f p k.0 mine low high)
    lies_are (Apart some f (Some g) (Some bys)) mine k =
        let d = two_told c f g k.1 in
        apart_lies some bys k.0 k.2.0 k.2.1 (λ p low high. divided_both some f g p k.0 d.0 d.1 mine low high)

  each_lies : (bs : List Bout) → 3 ≤ c.nodes → AllByRecursion (λ b. IsBout c b × Owns c ls b) bs → AllByRecursion (λ l. is_lie plan l ≡ true) (flat_map (lies_of c) bs)
  each_lies [] some a = tt
  each_lies (b ∷ bs) some a =
      every_append (λ l. is_lie plan l ≡ true) (lies_of c b) (flat_map (lies_of c) bs) (lies_are b a.0.0 a.0.1 some b.conduct refl a.0.0.conduct) (each_lies bs some a.1)

  none_bad : (k : ℕ) (ms : List LieParts) → AllByRecursion (λ l. is_lie plan l ≡ true) ms → k + length ms ≤ 4096 → first_bad (fits_lie plan) k ms ≡ None
  none_bad k [] a few = refl
  none_bad k (m ∷ ms) a few = rw (lt-ltb k 4096 (omega arith), a.0) (none_bad (k + 1) ms a.1 (omega arith))

few_lies : (c : Choices) (bs : List Bout) → length (flat_map (lies_of c) bs) ≤ 2 * length bs
few_lies c [] = omega arith
few_lies c (b ∷ bs) = let here = few_by b b.conduct in let more = few_lies c bs in omega (arith, length-append (lies_of c b) (flat_map (lies_of c) bs)) where
  few_by : (b : Bout) (k : Conduct) → length (lies_by c b k) ≤ 2
  few_by b (Alike f None) = omega arith
  few_by b (Alike f (Some by)) = omega arith
  few_by b (Apart some f o None) = omega arith
  few_by b (Apart some f o (Some bys)) = omega arith

module _ (c : Choices) (bs : List Bout) (a : AreChoices c) (are : AreBouts c bs) where
  clock_with : (rs : List Restart) (o : Option ClockChoices) → c.clock ≡ o
      → clock_refused c.nodes (plan c (flat_map (made_of c) bs) rs) (option_map (clock_of c.nodes (flat_map (lies_of c) bs)) o) ≡ None
  clock_with rs None e = refl
  clock_with rs (Some k) e =
      let few = few_lies c bs in let count = are.few in
      rw (clock_stands c.nodes k (flat_map (lies_of c) bs) (a.clock k e))
      (ap (at_place 19) (none_bad c (flat_map (made_of c) bs) rs 0 (flat_map (lies_of c) bs)
      (each_lies c (flat_map (made_of c) bs) rs bs a.some_nodes (every_both (IsBout c) (Owns c (flat_map (made_of c) bs)) bs are.each (all_owned c bs are.ordered))) (omega arith)))

  pub clock_passes : given.lines_of (parts_of c bs) ≡ flat_map (made_of c) bs → clock_refusal (parts_of c bs) ≡ None
  unfolding clock_refusal
  clock_passes lines =
      let rs = map restart_of (restarts_of c bs) in
      ap (λ (ls : List Line). clock_refused c.nodes (plan c ls rs) (option_map (clock_of c.nodes (flat_map (lies_of c) bs)) c.clock)) lines ∙ clock_with rs c.clock refl
