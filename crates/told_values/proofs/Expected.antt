-- What is expected in the data slot, and what a receiver reads of frames there by it. Members make no difference.
use Rattle.std.proofs.Common.{ℕ, ◌≡◌, ◌≢◌, ◌+◌, Bool, true, false, ◌&&◌, ◌||◌, List, [], ◌∷◌, length, refl, sym, ap, ap₂, ◌∙◌, arith, eq-eqb, ne_eqb, Option, None, ℤ}
use Rattle.std.specs.Prelude.{◌==◌, if◌then◌else◌}
use Rattle.std.proofs.lemmas.Bool.{cond-true, cond-false}
use Rattle.node_grid.specs.Kinds.{malformed, cold}
use Rattle.slot_plan.specs.Ticks.{is_in_window}
use Rattle.frames.specs.Content.{Content, Expectation}
use Rattle.frames.specs.Content.Content.{State, Done0, DoneRelay, Data, Report0, ReportRelay, Cold}
use Rattle.frames.specs.Spelling.{IsInRange}
use Rattle.frames.specs.Reading.{fits, fits_sizes, answer_if, confirmed, reading}
use Rattle.frames.specs.ReadingLaws.{said_spelt}
use Rattle.frames.specs.Facts.{value_kind}
use Rattle.error_detect.specs.Finding.{Delivery, found_of, told_of, kind_of}
use Rattle.error_detect.specs.declared.finding.Finding.TheVariants.{Timing}
use Rattle.fault_classes.specs.Change.{Change}
use Rattle.fault_link.specs.Arrival.{delivered_of}
use Rattle.agreed_state.specs.Expecting.{expectation}
use Rattle.agreed_state.specs.Body.{state_len}
use Rattle.protocol.specs.Arrival.{arrived, arrival, values_in}
use Rattle.protocol.specs.Arrival.Arrival.{Bad, Good}
use Rattle.protocol.specs.Talk.{arrives, frame_by}
use Rattle.protocol.specs.View.{Setting}
use Rattle.safety.proofs.Arrivals.{arrives_clean, arrives_cold}
use Rattle.safety.proofs.Runs.{grammar}

-- what is expected of sender j in the data slot of period p, with these members and so many due channels
abbrev pub expected_in : Setting → ℕ → ℕ → List ℕ → ℕ → Expectation
expected_in s p j members due = record {
  version = s.config.version;
  capacity = s.capacity;
  nodes = s.config.nodes;
  m = s.config.m;
  period = p;
  slot = s.config.m + 2;
  sender = j;
  members = members;
  state_len = state_len s.config;
  tasks = length s.config.graph.tasks;
  due = due;
}

-- that is what the configuration gives
pub expectation_is : (s : Setting) (p j due : ℕ) → expectation s.config p (s.config.m + 2) j [] due ≡ expected_in s p j [] due
expectation_is s p j due =
    ap₂ (λ (ms : List ℕ) (k : ℕ). expected_in s p j ms k)
    (cond-false (s.config.m + 2 == 0) [] [] (ne_eqb (s.config.m + 2) 0 (λ z. omega arith)))
    (cond-true (s.config.m + 2 == s.config.m + 2) due 0 (eq-eqb (s.config.m + 2) (s.config.m + 2) refl))

-- ---- members

module _ (s : Setting) (p j : ℕ) (members : List ℕ) (due : ℕ) where
  -- no frame of another kind fits
  fits_same : (c : Content) → fits (expected_in s p j members due) c ≡ fits (expected_in s p j [] due) c
  fits_same (State x) = refl
  fits_same (Done0 x) = refl
  fits_same (DoneRelay x) =
      ap (λ (t : ℕ). ((3 == t) || (3 == 7)) && fits_sizes (expected_in s p j members due) (DoneRelay x)) (value_kind s.config.m)
      ∙ sym (ap (λ (t : ℕ). ((3 == t) || (3 == 7)) && fits_sizes (expected_in s p j [] due) (DoneRelay x)) (value_kind s.config.m))
  fits_same (Data x) = refl
  fits_same (Report0 x) = refl
  fits_same (ReportRelay x) =
      ap (λ (t : ℕ). ((6 == t) || (6 == 7)) && fits_sizes (expected_in s p j members due) (ReportRelay x)) (value_kind s.config.m)
      ∙ sym (ap (λ (t : ℕ). ((6 == t) || (6 == 7)) && fits_sizes (expected_in s p j [] due) (ReportRelay x)) (value_kind s.config.m))
  fits_same Cold = refl

  answer_same : (c : Content) (rest : Bool) → answer_if (fits (expected_in s p j members due) c && rest) c ≡ answer_if (fits (expected_in s p j [] due) c && rest) c
  answer_same c rest = ap (λ (b : Bool). answer_if (b && rest) c) (fits_same c)

  reading_same : (bytes : List ℕ) → reading (expected_in s p j members due) bytes ≡ reading (expected_in s p j [] due) bytes
  unfolding reading
  reading_same bytes = answer_same _ _

  pub arrival_same : {C : Type 0} (part : Content → Option C) (ds : List Delivery) → arrival part (expected_in s p j members due) ds ≡ arrival part (expected_in s p j [] due) ds
  arrival_same part [] = refl
  arrival_same part (d ∷ []) =
      ap (λ (o : Option Content). arrived part (kind_of (if is_in_window d.0 then found_of o else Timing)) (if is_in_window d.0 then told_of o else None)) (reading_same d.1)
  arrival_same part (d ∷ e ∷ rest) = refl

  -- values and Cold are in range with other members too
  pub range_same : (full : Bool) (xs : List ℤ) → IsInRange (expected_in s p j members due) (if full then Data xs else Cold) → IsInRange (expected_in s p j [] due) (if full then Data xs else Cold)
  range_same true xs h = record { placed = h.placed; sized = h.sized; short = h.short }
  range_same false xs h = record { placed = h.placed; sized = h.sized; short = h.short }

-- so what arrives doesn't depend on members
pub arrives_same : (s : Setting) (p j : ℕ) (ms ns : List ℕ) (a b : ℕ) (change : Option Change) (c : Content)
    → arrives values_in change (expected_in s p j ms a) (expected_in s p j ns b) c ≡ arrives values_in change (expected_in s p j [] a) (expected_in s p j [] b) c
arrives_same s p j ms ns a b change c = arrival_same s p j ns b values_in (delivered_of change (frame_by (expected_in s p j [] a) c))

-- ---- frames that no line touches, of a sender with `a` due channels to a receiver with `b`

module _ (s : Setting) (p j a b : ℕ) (xs : List ℤ) (range : IsInRange (expected_in s p j [] a) (Data xs)) where
  pub comes : a ≡ b → arrives values_in None (expected_in s p j [] a) (expected_in s p j [] b) (Data xs) ≡ Good xs
  comes same =
      arrives_clean grammar values_in None (expected_in s p j [] b) (expected_in s p j [] b) (Data xs) xs refl refl
      (record { placed = range.placed; sized = (range.sized.0 ∙ same, range.sized.1); short = range.short }) refl

  second_fails : (x y z w : Bool) → y ≡ false → ((x && (y && z)) && w) ≡ false
  second_fails true y z w h = rw h refl
  second_fails false y z w h = refl

  unread : a ≢ b → reading (expected_in s p j [] b) (frame_by (expected_in s p j [] a) (Data xs)) ≡ None
  unfolding reading
  unread ne =
      ap (confirmed (expected_in s p j [] b) (frame_by (expected_in s p j [] a) (Data xs))) (said_spelt (expected_in s p j [] a) (Data xs) range.sized)
      ∙ ap (λ (t : Bool). answer_if t (Data xs)) (second_fails _ (length xs == b) _ _ (ne_eqb (length xs) b (λ e. ne (sym range.sized.0 ∙ e))))

  pub comes_malformed : a ≢ b → arrives values_in None (expected_in s p j [] a) (expected_in s p j [] b) (Data xs) ≡ Bad malformed
  comes_malformed ne = ap (λ (o : Option Content). arrived values_in (kind_of (found_of o)) (told_of o)) (unread ne)

pub comes_cold : (s : Setting) (p j a b : ℕ) → arrives values_in None (expected_in s p j [] a) (expected_in s p j [] b) Cold ≡ Bad cold
comes_cold s p j a b = arrives_cold grammar values_in None (expected_in s p j [] a) (expected_in s p j [] b) Cold refl refl refl
