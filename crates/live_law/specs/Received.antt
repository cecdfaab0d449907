-- What a node has of the frames of a period by what is delivered to it in each slot, and its view of the period. Nothing of it names
-- another node's state, or what befell a frame on its way.
use Rattle.std.specs.Prelude.{ℕ, ◌+◌, List, [], length, Option}
use Rattle.node_grid.specs.Kinds.{missing}
use Rattle.frames.specs.Content.{Content}
use Rattle.error_detect.specs.Watching.{of_sender}
use Rattle.error_detect.specs.Multiset.{Arriving, from_sender}
use Rattle.agreed_state.specs.declared.config.Config.{Config}
use Rattle.agreed_state.specs.declared.config.Inputs.{Inputs}
use Rattle.protocol.specs.Arrival.{Arrival, arrival, body_said, claim_in, claims_in, values_in, row_in, rows_in}
use Rattle.protocol.specs.Arrival.Arrival.{Bad}
use Rattle.protocol.specs.Heard.{paths_of, with_entries}
use Rattle.protocol.specs.View.{Kept, Received, View, view_from}
use Rattle.protocol.specs.Run.{members_in, silence}
use Rattle.protocol.specs.Configured.{setting_of}
use Rattle.node_steps.specs.Period.{expect_at}

-- before the first frame
abbrev pub nothing_had : Received
nothing_had = record { sync = λ j. Bad missing; done = silence; values = λ j. Bad missing; report = silence }

-- period p of node i, which is given g and goes into it with k, where this is delivered to it in each slot
module _ {N : ℕ} (config : Config N) (i p : ℕ) (g : Inputs) (k : Kept) (ds : ℕ → List Arriving) where
  -- what it has of node j's frame of a slot, by what it expects there and what came from that node
  abbrev pub in_slot : {C : Type 0} → (Content → Option C) → ℕ → List ℕ → ℕ → ℕ → Arrival C
  in_slot part t members due j = arrival part (of_sender j (expect_at config i p g k nothing_had t members due)) (from_sender j (ds t))

  -- the period as far as it has these frames
  abbrev pub view_by : Received → View
  view_by x = view_from (setting_of config) i p g k x k.state

  -- slot 0: the states
  abbrev pub had_to_sync : Received
  had_to_sync = record nothing_had { sync = in_slot body_said 0 [] 0 }

  abbrev pub members : List ℕ
  members = members_in (view_by had_to_sync).before

  -- slots 1 to m + 1: the claims
  abbrev pub had_to_done : Received
  had_to_done = record had_to_sync {
    done = record {
      first = in_slot claim_in 1 members 0;
      relay = λ r j. with_entries (paths_of members r j) (in_slot claims_in (1 + r) members 0 j);
    };
  }

  -- slot m + 2: the values of the due channels
  abbrev pub had_to_values : Received
  had_to_values = record had_to_done { values = in_slot values_in (config.m + 2) members (length (view_by had_to_done).due) }

  -- slots m + 3 to 2m + 3: the rows
  abbrev pub received : Received
  received = record had_to_values {
    report = record {
      first = in_slot row_in (config.m + 3) members 0;
      relay = λ r j. with_entries (paths_of members r j) (in_slot rows_in (config.m + 3 + r) members 0 j);
    };
  }

  -- and the whole of it
  abbrev pub view_delivered : View
  view_delivered = view_by received
