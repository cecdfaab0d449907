-- What each call makes of a node's parts.
use Rattle.std.specs.Prelude.{ℕ, ◌+◌, ◌-◌, ◌*◌, Bool, true, false, ◌&&◌, ◌||◌, ◌==◌, nat_eq, nat_le, List, [], map, length, replicate, Option, None, Some, is_some, if◌then◌else◌}
use Rattle.std.specs.Cmp.Lexicographic.{pointwise}
use Rattle.node_grid.specs.Kinds.{state, claim, overrun, deviate, equivocate}
use Rattle.omh_paths.specs.declared.wrapped.Wrapped.{Wrapped}
use Rattle.omh_paths.specs.declared.wrapped.Wrapped.TheVariants.{Plain, Fault}
use Rattle.omh.specs.Heard.{Hearing, ear_of, nothing_heard, forgotten}
use Rattle.frames.specs.Content.{Content, Expectation}
use Rattle.frames.specs.Content.Content.{State as StateFrame, Done0, DoneRelay, Data, Report0, ReportRelay, Cold as ColdFrame}
use Rattle.frames.specs.Spelling.{spelling}
use Rattle.error_detect.specs.Watching.{fresh, opened, closed, delivered}
use Rattle.list_scheduler.specs.Schedule.{verdict}
use Rattle.error_reports.specs.Charge.{accuses}
use Rattle.agreed_state.specs.declared.config.Inputs.{Inputs}
use Rattle.agreed_state.specs.Agreed.{AgreedView, agreed_after}
use Rattle.agreed_state.specs.Body.{body}
use Rattle.agreed_state.specs.Expecting.{expectation}
use Rattle.protocol.specs.Arrival.{is_bad, body_said, values_in, claim_form, row_form}
use Rattle.protocol.specs.FurtherKinds.{convicts_member}
use Rattle.protocol.specs.View.{nothing, adopted_by, own_claim, as_claim, due_channels, own_values, own_in, votes_on, deviates, other_body, row_by, empty_row, channel_room, cold_view}
use Rattle.protocol.specs.View.Mode.{Full, Joining, Cold}
use Rattle.protocol.specs.Run.{members_in}
use Rattle.node_steps.specs.Parts.{NodeView}
use Rattle.relay_rules.specs.Hearing.{after_round}
use Rattle.relay_rules.specs.Relaying.{relays}
use Rattle.relay_rules.specs.Settling.{settled_in}
use Rattle.noting.specs.Findings.{has_of, bad_in, good_in}
use Rattle.data_slot.specs.Values.{only_values}
use Rattle.protocol.specs.Configured.{setting_of}

-- ---- what a node expects, and what it says

abbrev pub expected_in : {N : ℕ} → NodeView N → ℕ → Expectation
expected_in v slot = expectation v.config v.phase.period slot v.phase.me (members_in v.phase.before) (length v.found.due)

-- ---- the slots

-- notes with these besides
abbrev pub noting : {N : ℕ} → NodeView N → (ℕ → ℕ → Bool) → List ℕ → List ℕ
noting v more notes = row_by (setting_of v.config) v.phase.me (λ j k. accuses notes j k || more j k)

abbrev pub with_notes : {N : ℕ} → NodeView N → (ℕ → ℕ → Bool) → NodeView N
with_notes v more = record v { found = record v.found { notes = noting v more v.found.notes } }

abbrev pub with_late : {N : ℕ} → NodeView N → (ℕ → ℕ → Bool) → NodeView N
with_late v more = record v { found = record v.found { late = noting v more v.found.late } }

-- a table of which nothing was heard
abbrev pub started : {V : Type 0} → Hearing V → List ℕ → ℕ → Bool → Wrapped V → Hearing V
started h members me full own = record h { members = members; me = me; full = full; own = own; heard = nothing_heard members me h.rounds }

-- the sync slot: another state is noted, and a node without a state adopts one
abbrev pub synced : {N : ℕ} → NodeView N → Option AgreedView → NodeView N
synced v None = record v { phase = record v.phase { before = None } }
synced v (Some a) =
    let w = with_notes v (λ j k. is_bad (has_of body_said v.arrived j) k || (other_body (body v.config a) (has_of body_said v.arrived j) && k == state)) in
    record w {
      phase = record v.phase { before = Some a };
      done = started v.done a.standing.members v.phase.me v.phase.full (Plain (own_claim v.phase.me v.phase.inputs a));
    }

abbrev pub with_sync : {N : ℕ} → NodeView N → NodeView N
with_sync v = record v { found = record v.found { sync = good_in v.config.nodes v.phase.me (has_of body_said v.arrived) } }

abbrev pub after_sync : {N : ℕ} → NodeView N → NodeView N
after_sync v = synced (with_sync v) (if v.phase.full then v.kept.state else adopted_by (setting_of v.config) v.phase.me (has_of body_said v.arrived))

-- whether node j is convicted by what was heard of an item
abbrev pub by_conviction : {V : Type 0} → (V → V → Bool) → Hearing V → ℕ → ℕ → Bool
by_conviction eq h j k = convicts_member eq (ear_of h) j && k == equivocate

-- the claims are settled by what was heard of them, which is let go: verdicts, convictions, due channels and own values
abbrev pub claims_known : {N : ℕ} → NodeView N → Hearing ℕ → AgreedView → NodeView N
claims_known {N} v h a =
    let s = setting_of v.config in
    let claims = map as_claim (settled_in nat_eq N h) in
    let w = with_notes v (λ j k. let x = verdict v.config.graph a.standing.members a.copies claims j in (x.claim && k == claim) || (x.overrun && k == overrun)) in
    let u = with_notes w (by_conviction nat_eq h) in
    record u { done = forgotten h; found = record u.found { claims = claims; due = due_channels s a claims; own = own_values s v.phase.me v.phase.period v.phase.inputs v.kept } }

-- what a done slot says against others
abbrev pub done_noted : {N : ℕ} → NodeView N → NodeView N
done_noted v = with_notes v (bad_in claim_form (v.phase.slot - 1) v.arrived)

-- what was heard of claims after a done slot
abbrev pub done_heard : {N : ℕ} → NodeView N → Hearing ℕ
done_heard v = after_round claim_form v.config.nodes v.arrived (v.phase.slot - 1) v.done

-- a done slot
abbrev pub after_done : {N : ℕ} → NodeView N → AgreedView → NodeView N
after_done v a =
    if v.phase.slot == v.config.m + 1 then claims_known (done_noted v) (done_heard v) a else record (done_noted v) { done = done_heard v }

-- the data slot: votes, and the node's own row, which is its item in the report slots
abbrev pub after_data : {N : ℕ} → NodeView N → AgreedView → NodeView N
after_data v a =
    let s = setting_of v.config in
    let votes = votes_on s v.phase.me v.phase.full a v.found.claims v.found.due v.found.own (only_values v.arrived) in
    let w = with_notes v (λ j k. is_bad (has_of values_in v.arrived j) k || (deviates s v.found.due votes (only_values v.arrived) j && k == deviate)) in
    let row = if v.phase.full then w.found.notes else empty_row s in
    record w { found = record w.found { notes = row; votes = votes }; rows = started v.rows a.standing.members v.phase.me v.phase.full (Plain row) }

-- what a report slot says against others
abbrev pub report_noted : {N : ℕ} → NodeView N → NodeView N
report_noted v = with_late v (bad_in row_form (v.phase.slot - (v.config.m + 3)) v.arrived)

-- what was heard of rows after a report slot
abbrev pub report_heard : {N : ℕ} → NodeView N → Hearing (List ℕ)
report_heard v = after_round row_form v.config.nodes v.arrived (v.phase.slot - (v.config.m + 3)) v.rows

-- a report slot
abbrev pub after_report : {N : ℕ} → NodeView N → NodeView N
after_report v = record (report_noted v) { rows = report_heard v }

-- the end of a period: the rows are settled by what was heard of them, which is let go
abbrev pub ended : {N : ℕ} → NodeView N → Hearing (List ℕ) → AgreedView → NodeView N
ended {N} v h a =
    let rows = settled_in (pointwise ◌==◌) N h in
    let after = agreed_after N v.config v.phase.period a v.found.claims rows in
    record v {
      kept = record { state = Some after; carried = noting v (by_conviction (pointwise ◌==◌) h) v.found.late; votes = v.found.votes; owns = v.found.own };
      rows = forgotten h;
      outcome = record {
        mode = if v.phase.full then Full else Joining;
        agreed = Some after;
        members = a.standing.members;
        done = v.found.claims;
        rows = rows;
        due = v.found.due;
        votes = v.found.votes;
        found = v.found.notes;
        sync = v.found.sync;
      };
    }

-- the end of a period of a node that stayed Cold
abbrev pub ended_cold : {N : ℕ} → NodeView N → NodeView N
ended_cold {N} v =
    let c = cold_view (setting_of v.config) v.phase.me (only_values v.arrived) in
    record v {
      kept = c.kept;
      outcome = record { mode = Cold; agreed = None; members = []; done = c.done; rows = c.rows; due = []; votes = c.votes; found = c.found; sync = v.found.sync };
    }

-- the slot is closed
abbrev pub shut : {N : ℕ} → NodeView N → NodeView N
shut v = record v { arrived = closed v.arrived }

-- what a slot's end makes of a node that goes through the period with this state
abbrev pub taken : {N : ℕ} → NodeView N → Option AgreedView → NodeView N
taken v None = v
taken v (Some a) =
    if nat_le v.phase.slot (v.config.m + 1) then after_done v a
    else (if v.phase.slot == v.config.m + 2 then after_data v a else after_report v)

abbrev pub slot_taken : {N : ℕ} → NodeView N → NodeView N
slot_taken v = if v.phase.slot == 0 then after_sync v else taken v v.phase.before

abbrev pub finished : {N : ℕ} → NodeView N → Option AgreedView → NodeView N
finished v None = ended_cold v
finished v (Some a) = ended v v.rows a

-- with this slot open
abbrev pub slot_open : {N : ℕ} → NodeView N → ℕ → NodeView N
slot_open v slot = record v { phase = record v.phase { slot = slot }; arrived = opened v.arrived (expected_in v slot) }

-- the period is over: no slot is open, and nothing is left of what arrived
abbrev pub period_over : {N : ℕ} → NodeView N → NodeView N
period_over v = record v { phase = record v.phase { is_open = false }; arrived = fresh v.arrived.nodes v.arrived.me v.arrived.frame_max }

-- the next slot is open, or none where that was the last
abbrev pub next_open : {N : ℕ} → NodeView N → NodeView N
next_open v =
    if v.phase.slot == 2 * v.config.m + 3 then period_over (finished v v.phase.before)
    else record v { phase = record v.phase { slot = v.phase.slot + 1 }; arrived = opened v.arrived (expected_in v (v.phase.slot + 1)) }

abbrev pub after_slot : {N : ℕ} → NodeView N → NodeView N
after_slot v = next_open (slot_taken (shut v))

-- ---- the other calls

abbrev pub begun : {N : ℕ} → NodeView N → ℕ → Inputs → NodeView N
begun {N} v period inputs =
    let s = setting_of v.config in
    let w = record v {
      phase = record { me = v.phase.me; period = period; slot = 0; is_open = true; inputs = inputs; full = is_some v.kept.state; before = v.kept.state };
      found = record { sync = []; notes = v.kept.carried; late = empty_row s; claims = replicate N (Fault 0); due = []; own = replicate channel_room None; votes = replicate channel_room None };
    } in
    record w { arrived = opened v.arrived (expected_in w 0) }

abbrev pub restarted : {N : ℕ} → NodeView N → NodeView N
restarted v = record v { kept = nothing (setting_of v.config) }

abbrev pub given_frame : {N : ℕ} → NodeView N → ℕ → ℕ → List ℕ → NodeView N
given_frame v from tick bytes = record v { arrived = delivered v.arrived from tick bytes }

-- ---- what a node says in the open slot

abbrev pub own_in_slot : {N : ℕ} → NodeView N → AgreedView → Content
own_in_slot v a =
    if v.phase.slot == 0 then StateFrame (body v.config a)
    else (if v.phase.slot == 1 then Done0 (own_claim v.phase.me v.phase.inputs a)
    else (if nat_le v.phase.slot (v.config.m + 1) then DoneRelay (relays v.done (v.phase.slot - 1))
    else (if v.phase.slot == v.config.m + 2 then Data (map (own_in v.found.own) v.found.due)
    else (if v.phase.slot == v.config.m + 3 then Report0 v.found.notes
    else ReportRelay (relays v.rows (v.phase.slot - (v.config.m + 3)))))))

abbrev pub said_by : {N : ℕ} → NodeView N → Option AgreedView → Content
said_by v None = ColdFrame
said_by v (Some a) = if v.phase.full then own_in_slot v a else ColdFrame

-- the frame of the open slot
abbrev pub frame_of : {N : ℕ} → NodeView N → List ℕ
frame_of v = spelling v.config.nodes (record { version = v.config.version; period = v.phase.period; sender = v.phase.me; slot = v.phase.slot }) (said_by v v.phase.before)
