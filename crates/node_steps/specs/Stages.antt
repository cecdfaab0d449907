-- A node at each stage of a period, in the words of the protocol: given what it goes in with, and what it has of all frames of the
-- period, of which each stage names those of the slots closed before it.
use Rattle.std.specs.Prelude.{ℕ, zero, suc, ◌+◌, ℤ, Bool, true, false, ◌||◌, ◌&&◌, ◌==◌, nat_eq, List, Option, Some, is_some, if◌then◌else◌}
use Rattle.node_grid.specs.Kinds.{state, claim, overrun, deviate, equivocate}
use Rattle.omh_paths.specs.declared.wrapped.Wrapped.{Wrapped}
use Rattle.omh.specs.Heard.{Hearing}
use Rattle.error_detect.specs.Watching.{Watch}
use Rattle.list_scheduler.specs.Schedule.{verdict}
use Rattle.error_reports.specs.Charge.{accuses}
use Rattle.agreed_state.specs.declared.config.Config.{Config}
use Rattle.agreed_state.specs.declared.config.Inputs.{Inputs}
use Rattle.agreed_state.specs.Agreed.{AgreedView}
use Rattle.agreed_state.specs.Body.{body}
use Rattle.protocol.specs.Arrival.{is_bad}
use Rattle.protocol.specs.Heard.{Rounds, rounds_bad}
use Rattle.protocol.specs.Settled.{ear_of}
use Rattle.protocol.specs.FurtherKinds.{convicts_member}
use Rattle.protocol.specs.View.{Kept, Received, View, own_claim, claims_settled, due_channels, own_values, votes_on, deviates, other_body, row_by, empty_row, noted, synced_by}
use Rattle.protocol.specs.Run.{members_in}
use Rattle.node_steps.specs.Outcome.{Outcome}
use Rattle.node_steps.specs.Parts.{Found, NodeView}
use Rattle.protocol.specs.Configured.{setting_of}
use Rattle.node_steps.specs.At.{table_at}

-- whether one of the first n frames of an item from node j has this kind of error
abbrev pub rounds_closed : {V : Type 0} → ℕ → Rounds V → ℕ → ℕ → Bool
rounds_closed zero x j b = false
rounds_closed (suc r) x j b = rounds_bad r x j b

-- the kinds by a verdict
abbrev pub by_verdict : {N : ℕ} → Config N → AgreedView → List (Wrapped ℕ) → ℕ → ℕ → Bool
by_verdict config a claims j b = let v = verdict config.graph a.standing.members a.copies claims j in (v.claim && b == claim) || (v.overrun && b == overrun)

module _ {N : ℕ} (config : Config N) (i p : ℕ) (g : Inputs) (k : Kept) (x : Received) where
  -- the node with its slot t open
  abbrev pub stage : ℕ → Option AgreedView → Hearing ℕ → Hearing (List ℕ) → Found → Watch → Outcome → NodeView N
  stage t b d r f w o = record {
    config = config;
    phase = record { me = i; period = p; slot = t; is_open = true; inputs = g; full = is_some k.state; before = b };
    kept = k;
    done = d;
    rows = r;
    found = f;
    arrived = w;
    outcome = o;
  }

  -- what it found in the sync slot, where it stays Cold
  abbrev pub found_cold : Found → Found
  found_cold f = record f { sync = synced_by (setting_of config) i x }

  -- going through the period with state a
  module _ (a : AgreedView) where
    abbrev pub notes_sync : ℕ → ℕ → Bool
    notes_sync j b = accuses k.carried j b || (is_bad (x.sync j) b || (other_body (body config a) (x.sync j) && b == state))

    abbrev pub notes_done : ℕ → ℕ → ℕ → Bool
    notes_done r j b = notes_sync j b || rounds_closed r x.done j b

    abbrev pub claims_of : List (Wrapped ℕ)
    claims_of = claims_settled (setting_of config) i (is_some k.state) a g x

    abbrev pub due_of : List ℕ
    due_of = due_channels (setting_of config) a claims_of

    abbrev pub own_of : List (Option ℤ)
    own_of = own_values (setting_of config) i p g k

    abbrev pub votes_of : List (Option ℤ)
    votes_of = votes_on (setting_of config) i (is_some k.state) a claims_of due_of own_of x

    abbrev pub notes_verdicts : ℕ → ℕ → Bool
    notes_verdicts j b = notes_done (suc config.m) j b || by_verdict config a claims_of j b

    -- whether node j is convicted over the claims
    abbrev pub convicts_over_claims : ℕ → Bool
    convicts_over_claims j = convicts_member nat_eq (ear_of config.m i (is_some k.state) a.standing.members x.done) j

    abbrev pub notes_claims : ℕ → ℕ → Bool
    notes_claims j b = notes_verdicts j b || (convicts_over_claims j && b == equivocate)

    abbrev pub notes_data : ℕ → ℕ → Bool
    notes_data j b = notes_claims j b || (is_bad (x.values j) b || (deviates (setting_of config) due_of votes_of x j && b == deviate))

    abbrev pub row_of : List ℕ
    row_of = if is_some k.state then row_by (setting_of config) i (noted (setting_of config) i a k claims_of due_of votes_of x) else empty_row (setting_of config)

    abbrev pub done_table : ℕ → Hearing ℕ
    done_table r = table_at config.nodes config.m a.standing.members i (is_some k.state) (own_claim i g a) r x.done

    abbrev pub row_table : ℕ → Hearing (List ℕ)
    row_table r = table_at config.nodes config.m a.standing.members i (is_some k.state) row_of r x.report

    -- what it found before round r of claims, before the data slot, and before round r of rows
    abbrev pub found_done : ℕ → Found → Found
    found_done r f = record f { sync = synced_by (setting_of config) i x; notes = row_by (setting_of config) i (notes_done r) }

    abbrev pub found_data : Found → Found
    found_data f = record { sync = synced_by (setting_of config) i x; notes = row_by (setting_of config) i notes_claims; late = f.late; claims = claims_of; due = due_of; own = own_of; votes = f.votes }

    abbrev pub found_report : ℕ → Found
    found_report r = record { sync = synced_by (setting_of config) i x; notes = row_of; late = row_by (setting_of config) i (rounds_closed r x.report); claims = claims_of; due = due_of; own = own_of; votes = votes_of }

    abbrev pub in_done : ℕ → Hearing (List ℕ) → Found → Watch → Outcome → NodeView N
    in_done r rows f w o = stage (suc r) (Some a) (done_table r) rows (found_done r f) w o

    abbrev pub in_data : Hearing (List ℕ) → Found → Watch → Outcome → NodeView N
    in_data rows f w o = stage (config.m + 2) (Some a) (done_table 0) rows (found_data f) w o

    abbrev pub in_report : ℕ → Watch → Outcome → NodeView N
    in_report r w o = stage (config.m + 3 + r) (Some a) (done_table 0) (row_table r) (found_report r) w o

-- the record of a period's view
abbrev pub outcome_of : View → Outcome
outcome_of w = record { mode = w.mode; agreed = w.kept.state; members = members_in w.before; done = w.done; rows = w.rows; due = w.due; votes = w.votes; found = w.found; sync = w.sync }
