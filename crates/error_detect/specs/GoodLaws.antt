-- A frame that is found Good is of the kind that has its place in the slot, and has its sizes.
use Rattle.std.proofs.Common.{ℕ, ◌≡◌, ◌<◌, ◌==◌, ◌||◌, Bool, true, false, if◌then◌else◌, refl, sym, ap, subst, ◌∙◌, inl, inr, arith, ne_eqb, Option, None, Some}
use Rattle.std.specs.Prelude.{nat_le, ◌⊎◌, slice_index_or}
use Rattle.std.proofs.lemmas.Bool.{cond-false, lt-leb}
use Rattle.frames.specs.Content.{Content, Expectation, kind_in, State, Done0, DoneRelay, Data, Report0, ReportRelay, Cold}
use Rattle.frames.specs.Spelling.{IsInRange}
use Rattle.frames.specs.Reading.{reading}
use Rattle.frames.specs.ReadingLaws.{reads_in_range}
use Rattle.error_detect.specs.declared.finding.Finding.TheVariants.{Good, Malformed, Timing}
use Rattle.slot_plan.specs.Ticks.{is_in_window}
use Rattle.error_detect.specs.Finding.{found_of, told_of, kind_of}
use Rattle.error_detect.specs.Watching.{Arrival, nothing, one, too_long, several, of_sender, found_by, found_in, told_by, told_in, finding_at, told_at}
use Rattle.error_detect.specs.Good.{IsToldWith, GoodFits}

of_slot : (k n : ℕ) → k < 7 → (k ≡ n) ⊎ (k ≡ 7) → k ≡ n
of_slot k n l (inl e) = e
of_slot k n l (inr e) = absurd (omega arith)

-- of what was read
read_fits : (e : Expectation) (o : Option Content) → ((c : Content) → o ≡ Some c → IsInRange e c) → IsToldWith e (kind_of (found_of o)) (told_of o)
read_fits e None h = refl
read_fits e (Some (State x)) h = let r = h (State x) refl in (State x, refl, of_slot 1 (kind_in e.m e.slot) (omega arith) r.placed, r.sized)
read_fits e (Some (Done0 x)) h = let r = h (Done0 x) refl in (Done0 x, refl, of_slot 2 (kind_in e.m e.slot) (omega arith) r.placed, r.sized)
read_fits e (Some (DoneRelay x)) h = let r = h (DoneRelay x) refl in (DoneRelay x, refl, of_slot 3 (kind_in e.m e.slot) (omega arith) r.placed, r.sized)
read_fits e (Some (Data x)) h = let r = h (Data x) refl in (Data x, refl, of_slot 4 (kind_in e.m e.slot) (omega arith) r.placed, r.sized)
read_fits e (Some (Report0 x)) h = let r = h (Report0 x) refl in (Report0 x, refl, of_slot 5 (kind_in e.m e.slot) (omega arith) r.placed, r.sized)
read_fits e (Some (ReportRelay x)) h = let r = h (ReportRelay x) refl in (ReportRelay x, refl, of_slot 6 (kind_in e.m e.slot) (omega arith) r.placed, r.sized)
read_fits e (Some Cold) h = refl

-- of what arrived
arrival_fits : (e : Expectation) (a : Arrival) → IsToldWith e (kind_of (found_by e a)) (told_by e a)
arrival_fits e nothing = refl
arrival_fits e (one t b) = go (is_in_window t) where
  go : (w : Bool) → IsToldWith e (kind_of (if w then found_of (reading e b) else Timing)) (if w then told_of (reading e b) else None)
  go true = read_fits e (reading e b) (λ c r. reads_in_range e c b r)
  go false = refl
arrival_fits e (too_long t) = go (is_in_window t) where
  go : (w : Bool) → IsToldWith e (kind_of (if w then Malformed else Timing)) None
  go true = refl
  go false = refl
arrival_fits e several = refl

pub good_fits : GoodFits
good_fits w e j is low ne =
    let a : Arrival = slice_index_or w.arrived j nothing in
    let other : ((j == w.me) || nat_le w.nodes j) ≡ false = ap (λ (b : Bool). b || nat_le w.nodes j) (ne_eqb j w.me ne) ∙ lt-leb w.nodes j low in
    let found : finding_at w j ≡ found_by (of_sender j e) a = cond-false _ Good (found_in w.expect j a) other ∙ ap (λ o. found_in o j a) is in
    let told : told_at w j ≡ told_by (of_sender j e) a = ap (λ o. told_in o j a) is in
    subst (λ (x : Option Content). IsToldWith (of_sender j e) (kind_of (finding_at w j)) x) (sym told)
    (subst (λ (k : Option ℕ). IsToldWith (of_sender j e) k (told_by (of_sender j e) a)) (sym (ap kind_of found)) (arrival_fits (of_sender j e) a))
