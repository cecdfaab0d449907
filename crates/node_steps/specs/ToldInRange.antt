-- What a node is told lies in the ranges of what it expects.
use Rattle.std.proofs.Common.{ℕ, ◌≡◌, ◌≤◌, ◌-◌, true, List, length, get_or, Option, None, Some, refl, sym, ap, ◌∙◌, inl, inr, arith}
use Rattle.std.specs.Prelude.{All, IfSome, slice_index_or}
use Rattle.std.proofs.lemmas.Bool.{cases_Bool, cond-true, cond-false}
use Rattle.omh_paths.specs.declared.wrapped.Wrapped.{Wrapped}
use Rattle.omh_paths.specs.declared.wrapped.Wrapped.TheVariants.{Plain, Fault}
use Rattle.node_grid.specs.NodeSet.{has_id}
use Rattle.omh_paths.specs.Paths.{path_count}
use Rattle.omh.specs.Written.{IsSmall}
use Rattle.frames.specs.Content.{Content, Expectation, IsEntry, IsClaim, IsRow, round_in, entries_due}
use Rattle.frames.specs.Content.Content.{State, Done0, DoneRelay, Data, Report0, ReportRelay, Cold}
use Rattle.frames.specs.Spelling.{IsInRange}
use Rattle.frames.specs.Reading.{reading}
use Rattle.frames.specs.ReadingLaws.{reads_only}
use Rattle.slot_plan.specs.Ticks.{is_in_window}
use Rattle.error_detect.specs.Finding.{told_of}
use Rattle.error_detect.specs.Watching.{Arrival, Watch, of_sender, told_at, told_by, told_in, nothing, one, too_long, several}
use Rattle.error_detect.specs.Facts.{told_read}
use Rattle.protocol.specs.Arrival.{arrived, body_said, claims_in, rows_in}
use Rattle.protocol.specs.View.{content}
use Rattle.relay_rules.specs.Hearing.{AreEntries, Brings}

in_range : (e : Expectation) (a : Arrival) (c : Content) → told_by e a ≡ Some c → IsInRange e c
in_range e nothing c h = absurd (cc)
in_range e (one tick bytes) c h = elim (cases_Bool (is_in_window tick)) [
  | inl y ↦ (reads_only e c bytes (told_read (reading e bytes) c (sym (cond-true (is_in_window tick) (told_of (reading e bytes)) None y) ∙ h))).0
  | inr n ↦ absurd (let none = sym (cond-false (is_in_window tick) (told_of (reading e bytes)) None n) ∙ h in cc)
]
in_range e (too_long tick) c h = absurd (cc)
in_range e several c h = absurd (cc)

pub told_in_range : (w : Watch) (e : Expectation) (j : ℕ) (c : Content) → w.expect ≡ Some e → told_at w j ≡ Some c → IsInRange (of_sender j e) c
told_in_range w e j c is h = in_range (of_sender j e) (slice_index_or w.arrived j nothing) c (ap (λ (o : Option Expectation). told_in o j (slice_index_or w.arrived j nothing)) (sym is) ∙ h)

-- an entry in range was wrapped no more than three times, in three rounds
entry_small : {V : Type 0} (P : V → Type 0) (r : ℕ) (w : Wrapped V) → r ≤ 3 → IsEntry P r w → IsSmall 3 w
entry_small P r (Plain v) few h = tt
entry_small P r (Fault k) few h = omega (arith, h.1)

entries : {V : Type 0} (P : V → Type 0) (count r : ℕ) (xs : List (Wrapped V)) → r ≤ 3 → length xs ≡ count → All (IsEntry P r) xs → AreEntries count xs
entries P count r xs few e h = record { count_is = e; small = λ k d low. entry_small P r (get_or xs k d) few (h k d low) }

due_of : (e : Expectation) (j : ℕ) → has_id e.members j ≡ true → entries_due (of_sender j e) ≡ path_count (length e.members - 1) (round_in e.m e.slot)
due_of e j on = cond-true (has_id e.members j) (path_count (length e.members - 1) (round_in e.m e.slot)) 0 on

-- a member's relay frame has an entry for each path of which it speaks
pub claims_brought : (w : Watch) (e : Expectation) → w.expect ≡ Some e → round_in e.m e.slot ≤ 3 → (j : ℕ) → has_id e.members j ≡ true
    → Brings (path_count (length e.members - 1) (round_in e.m e.slot)) (arrived claims_in None (told_at w j))
claims_brought w e is few j on = go (told_at w j) (λ c t. told_in_range w e j c is t) where
  go : (o : Option Content) → ((c : Content) → o ≡ Some c → IsInRange (of_sender j e) c) → Brings (path_count (length e.members - 1) (round_in e.m e.slot)) (arrived claims_in None o)
  go None h = tt
  go (Some (State b)) h = tt
  go (Some (Done0 t)) h = tt
  go (Some (DoneRelay xs)) h = let s = (h (DoneRelay xs) refl).sized in entries (IsClaim e.tasks) (path_count (length e.members - 1) (round_in e.m e.slot)) (round_in e.m e.slot) xs few (s.0 ∙ due_of e j on) s.1
  go (Some (Data xs)) h = tt
  go (Some (Report0 xs)) h = tt
  go (Some (ReportRelay xs)) h = tt
  go (Some Cold) h = tt

pub rows_brought : (w : Watch) (e : Expectation) → w.expect ≡ Some e → round_in e.m e.slot ≤ 3 → (j : ℕ) → has_id e.members j ≡ true
    → Brings (path_count (length e.members - 1) (round_in e.m e.slot)) (arrived rows_in None (told_at w j))
rows_brought w e is few j on = go (told_at w j) (λ c t. told_in_range w e j c is t) where
  go : (o : Option Content) → ((c : Content) → o ≡ Some c → IsInRange (of_sender j e) c) → Brings (path_count (length e.members - 1) (round_in e.m e.slot)) (arrived rows_in None o)
  go None h = tt
  go (Some (State b)) h = tt
  go (Some (Done0 t)) h = tt
  go (Some (DoneRelay xs)) h = tt
  go (Some (Data xs)) h = tt
  go (Some (Report0 xs)) h = tt
  go (Some (ReportRelay xs)) h =
      let s = (h (ReportRelay xs) refl).sized in entries (IsRow e.version e.capacity e.nodes) (path_count (length e.members - 1) (round_in e.m e.slot)) (round_in e.m e.slot) xs few (s.0 ∙ due_of e j on) s.1
  go (Some Cold) h = tt

-- a state has the length of a state
pub states_sized : (w : Watch) (e : Expectation) (n : ℕ) → w.expect ≡ Some e → e.state_len ≤ n → (j : ℕ) → IfSome (content (arrived body_said None (told_at w j))) (λ b. length b ≤ n)
states_sized w e n is few j = go (told_at w j) (λ c t. told_in_range w e j c is t) where
  go : (o : Option Content) → ((c : Content) → o ≡ Some c → IsInRange (of_sender j e) c) → IfSome (content (arrived body_said None o)) (λ b. length b ≤ n)
  go None h = tt
  go (Some (State b)) h = let l = (h (State b) refl).sized in omega arith
  go (Some (Done0 t)) h = tt
  go (Some (DoneRelay xs)) h = tt
  go (Some (Data xs)) h = tt
  go (Some (Report0 xs)) h = tt
  go (Some (ReportRelay xs)) h = tt
  go (Some Cold) h = tt
