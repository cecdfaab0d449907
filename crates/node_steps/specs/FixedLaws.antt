-- What the slots of a period leave of a node as it is.
use Rattle.std.proofs.Common.{ℕ, zero, suc, ◌≡◌, ◌+◌, ◌*◌, ◌==◌, Bool, true, false, if◌then◌else◌, List, [], ◌∷◌, refl, ap, ap₂, ◌∙◌, Option, None, Some}
use Rattle.std.specs.Prelude.{nat_le}
use Rattle.error_detect.specs.Watching.{Watch, delivered}
use Rattle.error_detect.specs.Multiset.{Arriving, all_delivered}
use Rattle.agreed_state.specs.Agreed.{AgreedView}
use Rattle.node_steps.specs.Parts.{NodeView}
use Rattle.node_steps.specs.Steps.{after_slot, slot_taken, shut, taken, after_sync, synced, with_sync, after_done, after_data, after_report, done_noted, done_heard, claims_known, finished}
use Rattle.node_steps.specs.Period.{slots_run}
use Rattle.node_steps.specs.Sending.{Fixed, fixed}

-- what never changes, and the period
pub record Lasting (N : ℕ) : Type 0 where
  pub of_node : Fixed N
  pub period : ℕ

abbrev pub lasting : {N : ℕ} → NodeView N → Lasting N
lasting v = record { of_node = fixed v; period = v.phase.period }

-- what taking a slot leaves: that, and the slot, which is still open
pub record Place (N : ℕ) : Type 0 where
  pub lasts : Lasting N
  pub slot : ℕ
  pub still : Bool

abbrev pub place : {N : ℕ} → NodeView N → Place N
place v = record { lasts = lasting v; slot = v.phase.slot; still = v.phase.is_open }

-- either of two that look the same looks the same
if_alike : {X Y : Type 0} (f : X → Y) (c : Y) (b : Bool) (x y : X) → f x ≡ c → f y ≡ c → f (if b then x else y) ≡ c
if_alike f c true x y h k = h
if_alike f c false x y h k = k

synced_place : {N : ℕ} (v : NodeView N) (o : Option AgreedView) → place (synced v o) ≡ place v
synced_place v None = refl
synced_place v (Some a) = refl

taken_place : {N : ℕ} (v : NodeView N) (o : Option AgreedView) → place (taken v o) ≡ place v
taken_place v None = refl
taken_place {N} v (Some a) =
    if_alike {X = NodeView N} place (place v) (nat_le v.phase.slot (v.config.m + 1)) (after_done v a) _
    (if_alike {X = NodeView N} place (place v) (v.phase.slot == v.config.m + 1) (claims_known (done_noted v) (done_heard v) a) (record (done_noted v) { done = done_heard v }) refl refl)
    (if_alike {X = NodeView N} place (place v) (v.phase.slot == v.config.m + 2) (after_data v a) (after_report v) refl refl)

pub slot_place : {N : ℕ} (v : NodeView N) → place (slot_taken (shut v)) ≡ place v
slot_place {N} v = if_alike {X = NodeView N} place (place v) (v.phase.slot == 0) (after_sync (shut v)) (taken (shut v) v.phase.before) (synced_place (with_sync (shut v)) _) (taken_place (shut v) v.phase.before)

pub finished_lasts : {N : ℕ} (v : NodeView N) (o : Option AgreedView) → lasting (finished v o) ≡ lasting v
finished_lasts v None = refl
finished_lasts v (Some a) = refl

after_lasts : {N : ℕ} (v : NodeView N) → lasting (after_slot v) ≡ lasting v
after_lasts {N} v =
    let w : NodeView N = slot_taken (shut v) in
    if_alike {X = NodeView N} lasting (lasting w) (w.phase.slot == 2 * w.config.m + 3) _ _ (finished_lasts w w.phase.before) refl
    ∙ ap (λ (p : Place N). p.lasts) (slot_place v)

pub after_fixed : {N : ℕ} (v : NodeView N) → fixed (after_slot v) ≡ fixed v
after_fixed {N} v = ap (λ (l : Lasting N). l.of_node) (after_lasts v)

-- ---- what deliveries leave

pub delivered_keeps : (w : Watch) (es : List Arriving) → ((all_delivered w es).me ≡ w.me) × ((all_delivered w es).nodes ≡ w.nodes) × ((all_delivered w es).expect ≡ w.expect)
delivered_keeps w [] = (refl, refl, refl)
delivered_keeps w (d ∷ es) = delivered_keeps (delivered w d.from d.tick d.bytes) es

pub room_kept : (w : Watch) (es : List Arriving) → (all_delivered w es).frame_max ≡ w.frame_max
room_kept w [] = refl
room_kept w (d ∷ es) = room_kept (delivered w d.from d.tick d.bytes) es

watch_lasts : {N : ℕ} (v : NodeView N) (ds : List Arriving) → lasting (record v { arrived = all_delivered v.arrived ds }) ≡ lasting v
watch_lasts {N} v ds =
    let k = delivered_keeps v.arrived ds in
    ap (λ (n : ℕ). record (lasting v) { of_node = record (fixed v) { watch_nodes = n; watch_me = (all_delivered v.arrived ds).me; room = (all_delivered v.arrived ds).frame_max } }) k.1
    ∙ ap₂ (λ (i r : ℕ). record (lasting v) { of_node = record (fixed v) { watch_me = i; room = r } }) k.0 (room_kept v.arrived ds)

slots_last : {N : ℕ} (ds : ℕ → List Arriving) (t : ℕ) (v : NodeView N) → lasting (slots_run ds t v) ≡ lasting v
slots_last ds zero v = refl
slots_last {N} ds (suc t) v =
    let w : NodeView N = slots_run ds t v in
    after_lasts (record w { arrived = all_delivered w.arrived (ds t) }) ∙ watch_lasts w (ds t) ∙ slots_last ds t v

-- Law: so do so many slots
pub slots_fixed : {N : ℕ} (ds : ℕ → List Arriving) (t : ℕ) (v : NodeView N) → fixed (slots_run ds t v) ≡ fixed v
slots_fixed {N} ds t v = ap (λ (l : Lasting N). l.of_node) (slots_last ds t v)

pub slots_period : {N : ℕ} (ds : ℕ → List Arriving) (t : ℕ) (v : NodeView N) → (slots_run ds t v).phase.period ≡ v.phase.period
slots_period {N} ds t v = ap (λ (l : Lasting N). l.period) (slots_last ds t v)
