-- The numbers that the nodes in use give, one node after another.
use Rattle.std.proofs.Common.{◌≡◌, ℕ, ◌+◌, ◌<◌, true, false, ℤ, List, [], ◌∷◌, ◌++◌, Option, None, Some, refl, sym, ap, ◌∙◌}
use Rattle.std.specs.Prelude.{slice_get, slice_index_or}
use Rattle.std.specs.List.{filter_map, cons_option}
use Rattle.std.proofs.lemmas.Bool.{cond-true, cond-false}
use Rattle.std.proofs.lemmas.List.Elements.{filter_map-append}
use Rattle.node_grid.specs.NodeSet.{ids_below}
use Rattle.node_grid.specs.Class.{is_sound}
use Rattle.node_grid.specs.SetFacts.{ids_next}
use Rattle.node_steps.specs.Outcome.{Outcome}
use Rattle.cluster_periods.specs.Record.{ClockShown}
use Rattle.shown_period.specs.declared.shown.Shown.{Shown}
use Rattle.shown_period.specs.Outcomes.{outcome_at}
use Rattle.shown_period.specs.Heads.{clock_of_head}
use Rattle.shown_period.specs.Whole.{record_of}
use Rattle.shown_period.specs.WholeLaws.{shown_at}
use Rattle.run_judged.specs.Found.{class_at}
use Rattle.run_judged.specs.Apart.{widened, with_number, range_with, vote_on, vote_in, offset_of, offset_in}

range_push : (r : Option (ℤ × ℤ)) (xs : List ℤ) (v : ℤ) → range_with r (xs ++ v ∷ []) ≡ Some (widened (range_with r xs) v)
range_push r [] v = refl
range_push r (x ∷ xs) v = range_push (Some (widened r x)) xs v

pub given_more : {X : Type 0} (f : ℕ → Option X) (n : ℕ) → filter_map f (ids_below (n + 1)) ≡ filter_map f (ids_below n) ++ cons_option (f n) []
given_more f n = ap (filter_map f) (ids_next n) ∙ filter_map-append f (ids_below n) (n ∷ [])

-- a loop's range with a node's number, and past a node without one
pub ranged : (f : ℕ → Option ℤ) (n : ℕ) (r : Option (ℤ × ℤ)) (v : ℤ) → r ≡ range_with None (filter_map f (ids_below n)) → f n ≡ Some v
    → Some (widened r v) ≡ range_with None (filter_map f (ids_below (n + 1)))
ranged f n r v e is =
    ap (λ (x : Option (ℤ × ℤ)). Some (widened x v)) e ∙ sym (range_push None (filter_map f (ids_below n)) v)
    ∙ ap (range_with None) (sym (given_more f n ∙ ap (λ (o : Option ℤ). filter_map f (ids_below n) ++ cons_option o []) is))

append_nil : {X : Type 0} (xs : List X) → xs ++ [] ≡ xs
append_nil [] = refl
append_nil (x ∷ xs) = ap (λ ys. x ∷ ys) (append_nil xs)

pub passed : (f : ℕ → Option ℤ) (n : ℕ) (r : Option (ℤ × ℤ)) → r ≡ range_with None (filter_map f (ids_below n)) → f n ≡ None
    → r ≡ range_with None (filter_map f (ids_below (n + 1)))
passed f n r e is =
    e ∙ ap (range_with None) (sym (given_more f n ∙ ap (λ (o : Option ℤ). filter_map f (ids_below n) ++ cons_option o []) is ∙ append_nil (filter_map f (ids_below n))))

pub ranged_by : (f : ℕ → Option ℤ) (n : ℕ) (r : Option (ℤ × ℤ)) (o : Option ℤ) (new : Option (ℤ × ℤ)) → r ≡ range_with None (filter_map f (ids_below n)) → o ≡ f n → new ≡ with_number r o
    → new ≡ range_with None (filter_map f (ids_below (n + 1)))
ranged_by f n r None new e is now = now ∙ passed f n r e (sym is)
ranged_by f n r (Some v) new e is now = now ∙ ranged f n r v e (sym is)

-- ---- one node

pub vote_sound : {capacity : ℕ} (s : Shown capacity) (c j : ℕ) (votes : List (Option ℤ)) → j < s.head.nodes → is_sound (class_at s.head.classes j) ≡ true → (outcome_at s.made j).votes ≡ votes
    → slice_index_or votes c None ≡ vote_in (record_of s) c j
vote_sound s c j votes low on is =
    sym (cond-true (is_sound (class_at s.head.classes j)) (vote_on (slice_get (record_of s).records j) c) None on ∙ ap (λ (o : Option Outcome). vote_on o c) (shown_at s j low)
    ∙ ap (λ (xs : List (Option ℤ)). slice_index_or xs c None) is)

pub vote_unsound : {capacity : ℕ} (s : Shown capacity) (c j : ℕ) → is_sound (class_at s.head.classes j) ≡ false → None ≡ vote_in (record_of s) c j
vote_unsound s c j off = sym (cond-false (is_sound (class_at s.head.classes j)) (vote_on (slice_get (record_of s).records j) c) None off)

pub offset_sound : {capacity : ℕ} (s : Shown capacity) (j : ℕ) (clock : Option ClockShown) → is_sound (class_at s.head.classes j) ≡ true → clock_of_head s.head ≡ clock → offset_of clock j ≡ offset_in (record_of s) j
offset_sound s j clock on is =
    sym (cond-true (is_sound (class_at s.head.classes j)) (offset_of (clock_of_head s.head) j) None on ∙ ap (λ (k : Option ClockShown). offset_of k j) is)

pub offset_unsound : {capacity : ℕ} (s : Shown capacity) (j : ℕ) → is_sound (class_at s.head.classes j) ≡ false → None ≡ offset_in (record_of s) j
offset_unsound s j off = sym (cond-false (is_sound (class_at s.head.classes j)) (offset_of (clock_of_head s.head) j) None off)
