-- Entries that no rule refuses: their numbers, and their order.
use Rattle.std.proofs.Common.{ℕ, ◌≡◌, ◌<◌, ◌+◌, ◌∙◌, ℤ, pos, negsuc, Bool, true, false, if◌then◌else◌, List, [], ◌∷◌, ◌++◌, map, length, get_or, take, drop, refl, sym, ap, ap₂, subst, arith, Option, None, Some}
use Rattle.std.specs.Prelude.{All, not, ◌&&◌, option_map}
use Rattle.std.proofs.lemmas.Bool.{true≢false, ltb-true, and_parts, not-true}
use Rattle.std.proofs.lemmas.List.{map_push, map_more, get_or_default}
use Rattle.std.proofs.lemmas.List.Elements.{All-nil, All-cons, All-weaker}
use Rattle.node_grid.specs.NumberFacts.{differ_true}
use Rattle.scenario.specs.declared.error.ScenarioError.{ScenarioError}
use Rattle.scenario.specs.Rules.{at_place}
use Rattle.scenario.specs.Verdict.{Tells}
use Rattle.scenario.specs.Numbers.{is_below, natural}
use Rattle.node_alone.specs.Log.{Entry, is_before}
use Rattle.node_alone.specs.Parts.{EntryParts}
use Rattle.node_alone.specs.Rules.{Limits, is_entry_placed, is_entry, entry_of, first_bad_entry}
use Rattle.node_alone.specs.Seen.{part_view, entry_view, IsPlaced, Ascends}
use Rattle.node_alone.specs.declared.entry.Entry.{Entry as Kept}
use Rattle.node_alone.specs.declared.reading.EntryPart.{EntryPart}
use Rattle.scenario.proofs.Turns.{drop-here}
use Rattle.node_alone.proofs.Ordering.{follows, ascends_more}

pub below : (n : ℕ) (z : ℤ) → is_below n z ≡ true → natural z < n
below n (pos k) h = ltb-true k n h
below n (negsuc k) h = absurd (true≢false (sym h))

pub placed : (l : Limits) (e : EntryParts) → is_entry_placed l e ≡ true → IsPlaced l.nodes l.slots l.periods l.id (entry_of e)
placed l e h =
    let a = and_parts _ _ h in
    let b = and_parts _ _ a.1 in
    let c = and_parts _ _ b.1 in
    let d = and_parts _ _ c.1 in
    record { period = below l.periods e.period a.0; slot = below l.slots e.slot b.0; from = below l.nodes e.from c.0; other = differ_true (natural e.from) l.id d.0 }

-- the test of one entry, and the rest
first_good : (l : Limits) (p t k : ℕ) (e : EntryParts) (es : List EntryParts) → first_bad_entry l p t k (e ∷ es) ≡ None
    → (is_entry l e ≡ true) × (is_before p t (entry_of e) ≡ false) × (first_bad_entry l (entry_of e).period (entry_of e).slot (k + 1) es ≡ None)
first_good l p t k e es h = go (is_entry l e && not (is_before p t (entry_of e))) refl where
  rest : Option ℕ
  rest = first_bad_entry l (entry_of e).period (entry_of e).slot (k + 1) es

  go : (b : Bool) → is_entry l e && not (is_before p t (entry_of e)) ≡ b → (is_entry l e ≡ true) × (is_before p t (entry_of e) ≡ false) × (rest ≡ None)
  go true q = let w = and_parts (is_entry l e) (not (is_before p t (entry_of e))) q in (w.0, not-true (is_before p t (entry_of e)) w.1, sym (ap (λ (b : Bool). if b then rest else Some k) q) ∙ h)
  go false q = let bad : Some k ≡ None = sym (ap (λ (b : Bool). if b then rest else Some k) q) ∙ h in cc

pub all_placed : (l : Limits) (p t k : ℕ) (es : List EntryParts) → first_bad_entry l p t k es ≡ None → All (IsPlaced l.nodes l.slots l.periods l.id) (map entry_of es)
all_placed l p t k [] h = All-nil (IsPlaced l.nodes l.slots l.periods l.id)
all_placed l p t k (e ∷ es) h =
    let w = first_good l p t k e es h in
    All-cons (IsPlaced l.nodes l.slots l.periods l.id) (entry_of e) (map entry_of es) (placed l e (and_parts (is_entry_placed l e) _ w.0).0) (all_placed l (entry_of e).period (entry_of e).slot (k + 1) es w.2)

-- none is of an earlier slot than the one before all
none_early : (l : Limits) (p t k : ℕ) (es : List EntryParts) → first_bad_entry l p t k es ≡ None → All (λ e. is_before p t e ≡ false) (map entry_of es)
none_early l p t k [] h = All-nil (λ e. is_before p t e ≡ false)
none_early l p t k (e ∷ es) h =
    let w = first_good l p t k e es h in
    All-cons (λ x. is_before p t x ≡ false) (entry_of e) (map entry_of es) w.1
    (All-weaker (λ x. is_before (entry_of e).period (entry_of e).slot x ≡ false) (λ x. is_before p t x ≡ false) (λ x. follows p t (entry_of e) x w.1) (map entry_of es)
    (none_early l (entry_of e).period (entry_of e).slot (k + 1) es w.2))

pub all_ascend : (l : Limits) (p t k : ℕ) (es : List EntryParts) → first_bad_entry l p t k es ≡ None → Ascends (map entry_of es)
all_ascend l p t k [] h = λ i j d low within. absurd (omega arith)
all_ascend l p t k (e ∷ es) h =
    let w = first_good l p t k e es h in
    ascends_more (entry_of e) (map entry_of es) (none_early l (entry_of e).period (entry_of e).slot (k + 1) es w.2) (all_ascend l (entry_of e).period (entry_of e).slot (k + 1) es w.2)

-- ---- the loop over them

pub good_entry : (l : Limits) (p t k : ℕ) (e : EntryParts) (es : List EntryParts) → is_entry l e ≡ true → is_before p t (entry_of e) ≡ false
    → first_bad_entry l (entry_of e).period (entry_of e).slot (k + 1) es ≡ first_bad_entry l p t k (e ∷ es)
good_entry l p t k e es h low = sym (ap (λ (b : Bool). if b then first_bad_entry l (entry_of e).period (entry_of e).slot (k + 1) es else Some k) (ap (λ (b : Bool). b && not (is_before p t (entry_of e))) h ∙ ap not low))

pub bad_entry : (l : Limits) (p t k : ℕ) (e : EntryParts) (es : List EntryParts) → is_entry l e ≡ false → first_bad_entry l p t k (e ∷ es) ≡ Some k
bad_entry l p t k e es h = ap (λ (b : Bool). if b && not (is_before p t (entry_of e)) then first_bad_entry l (entry_of e).period (entry_of e).slot (k + 1) es else Some k) h

pub early_entry : (l : Limits) (p t k : ℕ) (e : EntryParts) (es : List EntryParts) → is_entry l e ≡ true → is_before p t (entry_of e) ≡ true → first_bad_entry l p t k (e ∷ es) ≡ Some k
early_entry l p t k e es h early = ap (λ (b : Bool). if b then first_bad_entry l (entry_of e).period (entry_of e).slot (k + 1) es else Some k) (ap (λ (b : Bool). b && not (is_before p t (entry_of e))) h ∙ ap not early)

pub no_entry : (b : Bool) (o : Option Kept) (y : Entry) → option_map entry_view o ≡ (if b then Some y else None) → ((x : Kept) → o ≡ Some x → ⊥) → b ≡ false
no_entry false o y h none = refl
no_entry true None y h none = cc
no_entry true (Some x) y h none = absurd (none x refl)

-- what stands for a part out of range
abbrev pub no_part : EntryPart
no_part = record { period = pos 0; slot = pos 0; from = pos 0; tick = pos 0; hex = record { ref_ptr = (0, 0); now = [] } }

abbrev pub part_at : List EntryPart → ℕ → EntryPart
part_at parts k = get_or parts k no_part

pub is_there : (parts : List EntryPart) (k : ℕ) → k < length parts → part_at parts k ≡ get_or parts k (part_at parts k)
is_there parts k low = get_or_default parts k no_part (part_at parts k) low

pub some_entry : (b : Bool) (x y : Entry) → Some x ≡ (if b then Some y else None) → (b ≡ true) × (x ≡ y)
some_entry true x y h = (refl, cc)
some_entry false x y h = cc

module _ (parts : List EntryPart) (k : ℕ) (part : EntryPart) (low : k < length parts) (is : part ≡ get_or parts k part) where
  here : map part_view (drop k parts) ≡ part_view part ∷ map part_view (drop (k + 1) parts)
  here = ap (map part_view) (drop-here parts k part low is)

  -- one entry more was read
  pub next_found : (found more : List Entry) (x : Entry) → more ≡ found ++ x ∷ [] → x ≡ entry_of (part_view part) → found ≡ map entry_of (map part_view (take k parts))
      → more ≡ map entry_of (map part_view (take (k + 1) parts))
  next_found found more x pushed same before =
      pushed ∙ ap₂ (λ ys y. ys ++ y ∷ []) before (same ∙ ap (λ y. entry_of (part_view y)) is)
      ∙ sym (map_push entry_of (map part_view (take k parts)) (part_view (get_or parts k part))) ∙ sym (ap (map entry_of) (map_more part_view parts k part low))

  pub next_left : (l : Limits) (p t : ℕ) (x : Kept) → is_entry l (part_view part) ≡ true → entry_view x ≡ entry_of (part_view part) → is_before p t (entry_view x) ≡ false
      → first_bad_entry l x.period x.slot (k + 1) (map part_view (drop (k + 1) parts)) ≡ first_bad_entry l p t k (map part_view (drop k parts))
  next_left l p t x good same late =
      ap (λ (y : Entry). first_bad_entry l y.period y.slot (k + 1) (map part_view (drop (k + 1) parts))) same
      ∙ good_entry l p t k (part_view part) (map part_view (drop (k + 1) parts)) good (sym (ap (is_before p t) same) ∙ late) ∙ sym (ap (first_bad_entry l p t k) here)

  -- an entry that is none
  pub bad_here : (l : Limits) (p t : ℕ) (o : Option ℕ) (e : ScenarioError) → is_entry l (part_view part) ≡ false → first_bad_entry l p t k (map part_view (drop k parts)) ≡ o → Tells (Some (17, k)) e → Tells (at_place 17 o) e
  bad_here l p t o e bad so_far told =
      subst (λ (y : Option ℕ). Tells (at_place 17 y) e) (sym (bad_entry l p t k (part_view part) (map part_view (drop (k + 1) parts)) bad) ∙ sym (ap (first_bad_entry l p t k) here) ∙ so_far) told

  -- an entry that goes back
  pub back_here : (l : Limits) (p t : ℕ) (x : Kept) (o : Option ℕ) (e : ScenarioError) → is_entry l (part_view part) ≡ true → entry_view x ≡ entry_of (part_view part) → is_before p t (entry_view x) ≡ true
      → first_bad_entry l p t k (map part_view (drop k parts)) ≡ o → Tells (Some (17, k)) e → Tells (at_place 17 o) e
  back_here l p t x o e good same early so_far told =
      subst (λ (y : Option ℕ). Tells (at_place 17 y) e)
      (sym (early_entry l p t k (part_view part) (map part_view (drop (k + 1) parts)) good (sym (ap (is_before p t) same) ∙ early)) ∙ sym (ap (first_bad_entry l p t k) here) ∙ so_far) told
