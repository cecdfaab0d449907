-- What a node believes in each period, by its own log. Nothing of it names another node's state.
use Rattle.std.specs.Prelude.{ℕ, ◌+◌, List, [], length, Option}
use Rattle.node_grid.specs.Kinds.{missing}
use Rattle.frames.specs.Content.{Content}
use Rattle.fault_classes.specs.Plan.{restarts_at}
use Rattle.protocol.specs.Steps.{after_steps}
use Rattle.protocol.specs.Arrival.{Arrival, arrival, body_said, claim_in, claims_in, values_in, row_in, rows_in}
use Rattle.protocol.specs.Arrival.Arrival.{Bad}
use Rattle.protocol.specs.Heard.{paths_of, with_entries}
use Rattle.protocol.specs.View.{Setting, Kept, first_kept, Received, View, view_from, opened}
use Rattle.protocol.specs.Run.{members_in, silence, expectation}
use Rattle.scenario.specs.Scenario.{inputs_of, system_of}
use Rattle.node_alone.specs.Log.{RecordView, entries_at}

-- period p of the node, which goes into it with k
module _ {N : ℕ} (log : RecordView N) (p : ℕ) (k : Kept) where
  abbrev pub setting : Setting
  setting = (system_of log.scenario).setting

  abbrev pub rounds : ℕ
  rounds = log.scenario.config.m

  -- what it has of a node's frame of a slot, by what it expects there and what its log has
  abbrev pub in_slot : {C : Type 0} → (Content → Option C) → ℕ → List ℕ → ℕ → ℕ → Arrival C
  in_slot part slot members due j = arrival part (expectation (system_of log.scenario) p slot j members due) (entries_at log.entries p slot j)

  -- the period as far as it has these frames
  abbrev pub logged_view : Received → View
  logged_view x = view_from setting log.id p (inputs_of log.scenario log.id p) k x k.state

  -- slot 0: the states
  abbrev pub logged_to_sync : Received
  logged_to_sync = record { sync = in_slot body_said 0 [] 0; done = silence; values = λ j. Bad missing; report = silence }

  abbrev pub members : List ℕ
  members = members_in (logged_view logged_to_sync).before

  -- slots 1 to m + 1: the claims
  abbrev pub logged_to_done : Received
  logged_to_done = record logged_to_sync {
    done = record {
      first = in_slot claim_in 1 members 0;
      relay = λ r j. with_entries (paths_of members r j) (in_slot claims_in (1 + r) members 0 j);
    };
  }

  -- slot m + 2: the values of the due channels
  abbrev pub logged_to_values : Received
  logged_to_values = record logged_to_done { values = in_slot values_in (rounds + 2) members (length (logged_view logged_to_done).due) }

  -- slots m + 3 to 2m + 3: the rows
  abbrev pub received : Received
  received = record logged_to_values {
    report = record {
      first = in_slot row_in (rounds + 3) members 0;
      relay = λ r j. with_entries (paths_of members r j) (in_slot rows_in (rounds + 3 + r) members 0 j);
    };
  }

  abbrev pub period_alone : View
  period_alone = logged_view received

-- what a node goes into a period with, which kept this: a restart of the node forgets all
abbrev pub opened_alone : {N : ℕ} → RecordView N → ℕ → Kept → Kept
opened_alone log p k = opened (system_of log.scenario).setting (restarts_at log.scenario.plan log.id p) k

-- what it keeps after period p, where it kept this before it
abbrev pub keeps_alone_after : {N : ℕ} → RecordView N → ℕ → Kept → Kept
keeps_alone_after log p before = (period_alone log p (opened_alone log p before)).kept

-- what it keeps from the periods before p
unfoldable pub kept_alone : {N : ℕ} → RecordView N → ℕ → Kept
kept_alone log p = after_steps (keeps_alone_after log) p (first_kept (system_of log.scenario).setting)

abbrev pub begins_alone : {N : ℕ} → RecordView N → ℕ → Kept
begins_alone log p = opened_alone log p (kept_alone log p)

-- the view of the log in period p
abbrev pub view_alone : {N : ℕ} → RecordView N → ℕ → View
view_alone log p = period_alone log p (begins_alone log p)
