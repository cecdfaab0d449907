-- What is found of a frame by what befalls it.
use Rattle.std.proofs.Common.{ℕ, ◌≡◌, ◌<◌, ◌≤◌, ◌+◌, ◌-◌, true, false, List, [], ◌∷◌, length, take, refl, sym, ap, ap₂, ◌∙◌, arith, eqb-true, Option, Some, None, Vec, Global}
use Rattle.std.proofs.lemmas.Bool.{cond-true, cond-false}
use Rattle.std.proofs.lemmas.List.{take_all}
use Rattle.slot_plan.specs.Ticks.{is_in_window}
use Rattle.node_grid.specs.Kinds.{malformed, timing, cold}
use Rattle.frames.specs.Content.{Content, Expectation, State, Done0, DoneRelay, Data, Report0, ReportRelay, Cold, is_cold}
use Rattle.frames.specs.Spelling.{spelling, body_spelling, head_of, IsInRange}
use Rattle.frames.specs.Reading.{reading}
use Rattle.frames.specs.ReadingLaws.{has_no_front, body_length}
use Rattle.error_detect.specs.Finding.{finding, told, found_of, told_of, kind_of}
use Rattle.error_detect.specs.declared.finding.Finding.{Finding}
use Rattle.error_detect.specs.declared.finding.Finding.TheVariants as found
use Rattle.fault_classes.specs.declared.effect.Effect.{Effect}
use Rattle.fault_classes.specs.declared.effect.Effect.TheVariants as code
use Rattle.fault_classes.specs.Change.{Change, change_of}
use Rattle.frames.specs.declared.frame.Head.{Head}
use Rattle.frames.specs.Writing.{pasted}
use Rattle.frames.specs.PieceLaws.{take-pasted}
use Rattle.fault_classes.specs.Change.Change.{Drop, Cut, Twice, Time, Set, Raw}
use Rattle.protocol.specs.Arrival.{arrival, arrived}
use Rattle.protocol.specs.Arrival.Arrival.{Bad, Good}
use Rattle.protocol.specs.Talk.{arrives, frame_by}
use Rattle.touched_frames.specs.Arrived.{arrived_as, needs_bytes, replaced, part_of, IsSentAs, PartsLaw}

-- ---- parts

parted : {C : Type 0} (part : Content → Option C) (k : Option ℕ) (o : Option Content) → arrived part k o ≡ part_of part (arrived Some k o)
parted part (Some k) o = refl
parted part None None = refl
parted part None (Some c) = refl

pub parts_law : {C : Type 0} → PartsLaw C
parts_law part e ds = parted part (kind_of (finding e ds)) (told e ds)

-- ---- what is read

pub read_cold : arrived_as (Some Cold) ≡ Bad cold
read_cold = refl

pub read_good : (c : Content) → is_cold c ≡ false → arrived_as (Some c) ≡ Good c
read_good (State bytes) h = refl
read_good (Done0 task) h = refl
read_good (DoneRelay entries) h = refl
read_good (Data numbers) h = refl
read_good (Report0 masks) h = refl
read_good (ReportRelay entries) h = refl
read_good Cold h = cc

pub cold_is : (c : Content) → is_cold c ≡ true → c ≡ Cold
cold_is (State bytes) h = cc
cold_is (Done0 task) h = cc
cold_is (DoneRelay entries) h = cc
cold_is (Data numbers) h = cc
cold_is (Report0 masks) h = cc
cold_is (ReportRelay entries) h = cc
cold_is Cold h = refl

-- one delivery in time is read
pub in_time : (e : Expectation) (t : ℕ) (bytes : List ℕ) → is_in_window t ≡ true → arrival Some e ((t, bytes) ∷ []) ≡ arrived_as (reading e bytes)
in_time e t bytes h =
    ap₂ (λ (f : Finding) (o : Option Content). arrived Some (kind_of f) o)
    (cond-true (is_in_window t) (found_of (reading e bytes)) found.Timing h)
    (cond-true (is_in_window t) (told_of (reading e bytes)) None h)

-- one delivery at another tick isn't
pub off_time : (e : Expectation) (t : ℕ) (bytes : List ℕ) → is_in_window t ≡ false → arrival Some e ((t, bytes) ∷ []) ≡ Bad timing
off_time e t bytes h =
    ap₂ (λ (f : Finding) (o : Option Content). arrived Some (kind_of f) o)
    (cond-false (is_in_window t) (found_of (reading e bytes)) found.Timing h)
    (cond-false (is_in_window t) (told_of (reading e bytes)) None h)

-- a frame of which bytes are missing is none
pub cut_short : (sender receiver : Expectation) (c : Content) (k : ℕ) → 0 < k → IsInRange sender c → arrives Some (Some (Cut k)) sender receiver c ≡ Bad malformed
cut_short sender receiver c k some range =
    let frame : List ℕ = frame_by sender c in
    let long : length frame ≡ 14 + length (body_spelling sender.nodes c) = body_length sender.nodes (head_of sender) c in
    ap arrived_as (has_no_front receiver sender c (length frame - k) range (omega arith))

-- ---- what depends on the bytes

pub by_bytes : (change : Change) (sender receiver : Expectation) (c : Content) (bytes frame : List ℕ) → needs_bytes change ≡ true → frame ≡ frame_by sender c → bytes ≡ replaced change frame
    → ((raw : List ℕ) → change ≡ Raw raw → ⊥) → arrived_as (reading receiver bytes) ≡ arrives Some (Some change) sender receiver c
by_bytes Drop sender receiver c bytes frame needs sent is other = cc
by_bytes (Cut k) sender receiver c bytes frame needs sent is other =
    let none : k ≡ 0 = eqb-true k 0 needs in
    let whole : take (length (frame_by sender c) - k) (frame_by sender c) ≡ frame_by sender c = take_all (length (frame_by sender c) - k) (frame_by sender c) (omega arith) in
    ap (λ (b : List ℕ). arrived_as (reading receiver b)) (is ∙ sent ∙ sym whole)
by_bytes Twice sender receiver c bytes frame needs sent is other = cc
by_bytes (Time t) sender receiver c bytes frame needs sent is other =
    ap (λ (b : List ℕ). arrived_as (reading receiver b)) (is ∙ sent) ∙ sym (in_time receiver t (frame_by sender c) needs)
by_bytes (Set at new) sender receiver c bytes frame needs sent is other =
    ap (λ (b : List ℕ). arrived_as (reading receiver b)) (is ∙ ap (replaced (Set at new)) sent)
by_bytes (Raw raw) sender receiver c bytes frame needs sent is other = absurd (other raw refl)

pub not_raw : (e : Effect) → ((x : Vec ℕ Global) → e ≡ code.Raw x → ⊥) → (raw : List ℕ) → change_of e ≡ Raw raw → ⊥
not_raw code.Drop other raw h = cc
not_raw (code.Cut k) other raw h = cc
not_raw code.Twice other raw h = cc
not_raw (code.Time t) other raw h = cc
not_raw (code.Set at bytes) other raw h = cc
not_raw (code.Raw bytes) other raw h = other bytes refl

-- the frame that was spelt in front of other bytes
pub spelt : (sender : Expectation) (nodes len : ℕ) (head : Head) (c : Content) (old out : List ℕ) → IsSentAs sender nodes head c → length (spelling nodes head c) ≤ length old → out ≡ pasted 0 (spelling nodes head c) old
    → len ≡ length (spelling nodes head c) → take len out ≡ frame_by sender c
spelt sender nodes len head c old out sent room puts is =
    let whole : List ℕ = spelling nodes head c in
    let n : length whole ≡ 0 + length whole = omega arith in
    ap₂ take (is ∙ n) puts ∙ take-pasted 0 whole old (omega (arith, room))
    ∙ ap (λ (n : ℕ). spelling n head c) (sym sent.nodes_are) ∙ ap (λ (h : Head). spelling sender.nodes h c) (sym sent.head_is)
