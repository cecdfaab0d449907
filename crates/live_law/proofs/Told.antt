-- What is delivered to a node in the slots of a period is what the protocol says that it has of the frames.
use Rattle.std.proofs.Common.{ℕ, suc, ◌≡◌, ◌+◌, List, length, refl, sym, ap, ap₂, ◌∙◌, arith, Option, None, Some}
use Rattle.node_grid.specs.Capacity.{IsCapacity}
use Rattle.frames.specs.Bound.{IsGreatest}
use Rattle.error_detect.specs.Watching.{of_sender}
use Rattle.error_detect.specs.Multiset.{Arriving, from_sender}
use Rattle.agreed_state.specs.declared.config.Config.{Config}
use Rattle.agreed_state.specs.declared.config.Inputs.{Inputs}
use Rattle.agreed_state.specs.Config.{IsConfig}
use Rattle.agreed_state.specs.Agreed.{AgreedView}
use Rattle.agreed_state.specs.Body.{state_len}
use Rattle.protocol.specs.Arrival.{arrival, claim_in, claims_in, values_in, row_in, rows_in}
use Rattle.protocol.specs.Heard.{paths_of, with_entries}
use Rattle.protocol.specs.View.{Kept, Received, goes_with}
use Rattle.protocol.specs.ViewLaws.{due_same, goes_before, goes_due, IsValid, goes_valid}
use Rattle.protocol.specs.Run.{members_in}
use Rattle.protocol.specs.Configured.{setting_of}
use Rattle.node_steps.specs.Stages.{due_of}
use Rattle.node_steps.specs.Period.{expect_at, goes, Told}
use Rattle.node_steps.specs.Sending.{IsServed}
use Rattle.live_law.specs.Received.{had_to_sync, members, had_to_done, received, view_by}

module _ {N : ℕ} (config : Config N) (i p : ℕ) (g : Inputs) (k : Kept) where
  -- ---- what is given of a period

  -- where the deliveries say x
  pub served_by : IsCapacity N → IsConfig N config → (room : ℕ) → IsGreatest config.nodes config.m (state_len config) 8 room → (x : Received) (ds : ℕ → List Arriving) → Told config i p g k x ds → IsValid (setting_of config) k.state
      → IsServed config i p g k x room ds
  served_by capacity is room greatest x ds told valid = record {
    few = is.few_nodes;
    few_channels = is.few_channels;
    told = told;
    rooms = λ t ms due ids small j c r. greatest.within (of_sender j (expect_at config i p g k x t ms due)) c
        (record { nodes_is = refl; m_is = refl; state_len_is = refl; few_due = small; members = ids }) r;
    members = λ a e. (goes_valid (setting_of config) capacity is i x k.state valid a e).standing.set;
  }

  -- ---- what any deliveries say

  module _ (ds : ℕ → List Arriving) where
    abbrev x : Received
    x = received config i p g k ds

    abbrev ms : List ℕ
    ms = members config i p g k ds

    goes_same : (o : Option AgreedView) → goes_with (setting_of config) i x o ≡ goes_with (setting_of config) i (had_to_sync config i p g k ds) o
    goes_same (Some a) = refl
    goes_same None = refl

    members_are : (a : AgreedView) → goes config i p g k x ≡ Some a → ms ≡ a.standing.members
    members_are a e = ap members_in (goes_before (setting_of config) i p g k (had_to_sync config i p g k ds) k.state ∙ sym (goes_same k.state) ∙ e)

    due_are : (a : AgreedView) → goes config i p g k x ≡ Some a → (view_by config i p g k ds (had_to_done config i p g k ds)).due ≡ due_of config i p g k x a
    due_are a e = sym (due_same (setting_of config) i p g k (had_to_done config i p g k ds) x.values x.report k.state).0 ∙ goes_due (setting_of config) i p g k x k.state a e

    pub told : Told config i p g k x ds
    told = record {
      sync = record { each = λ j low ne. refl };
      first = λ a e. record {
        each = λ j low ne. ap (λ (ms : List ℕ). arrival claim_in (of_sender j (expect_at config i p g k x 1 ms 0)) (from_sender j (ds 1))) (members_are a e);
      };
      relay = λ a e r some few. record {
        each = λ j low ne. ap₂ (λ (ms : List ℕ) (t : ℕ). with_entries (paths_of ms r j) (arrival claims_in (of_sender j (expect_at config i p g k x t ms 0)) (from_sender j (ds t)))) (members_are a e) (let q : 1 + r ≡ suc r = omega arith in q);
      };
      values = λ a e. record {
        each = λ j low ne. ap₂ (λ (ms due : List ℕ). arrival values_in (of_sender j (expect_at config i p g k x (config.m + 2) ms (length due))) (from_sender j (ds (config.m + 2)))) (members_are a e) (due_are a e);
      };
      row = λ a e. record {
        each = λ j low ne. ap (λ (ms : List ℕ). arrival row_in (of_sender j (expect_at config i p g k x (config.m + 3) ms 0)) (from_sender j (ds (config.m + 3)))) (members_are a e);
      };
      rows = λ a e r some few. record {
        each = λ j low ne. ap (λ (ms : List ℕ). with_entries (paths_of ms r j) (arrival rows_in (of_sender j (expect_at config i p g k x (config.m + 3 + r) ms 0)) (from_sender j (ds (config.m + 3 + r))))) (members_are a e);
      };
    }
