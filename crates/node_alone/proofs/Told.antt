-- The node by itself: what its log gives of a period, and where that leads it.
use Rattle.std.proofs.Common.{ℕ, zero, suc, ◌≡◌, ◌≤◌, ◌+◌, List, length, refl, sym, ap, ap₂, subst, ◌∙◌, arith, Option, None, Some}
use Rattle.std.proofs.lemmas.Option.{same_Some}
use Rattle.node_grid.specs.Capacity.{IsCapacity}
use Rattle.node_grid.specs.NodeSet.{IsIdSet}
use Rattle.error_detect.specs.Watching.{HasRoom}
use Rattle.error_detect.specs.Multiset.{Arriving}
use Rattle.fault_classes.specs.Plan.{restarts_at}
use Rattle.agreed_state.specs.declared.config.Config.{Config}
use Rattle.agreed_state.specs.declared.config.Inputs.{Inputs}
use Rattle.agreed_state.specs.Config.{IsConfig}
use Rattle.agreed_state.specs.Agreed.{AgreedView, IsAgreed}
use Rattle.agreed_state.specs.AgreedLaws.{first-agreed}
use Rattle.protocol.specs.Arrival.{arrival, claim_in, claims_in, values_in, row_in, rows_in}
use Rattle.protocol.specs.Heard.{paths_of, with_entries}
use Rattle.protocol.specs.View.{Kept, Received, goes_with}
use Rattle.protocol.specs.ViewLaws.{due_same, goes_before, goes_due, IsValid, opened_valid, goes_valid, kept_valid}
use Rattle.protocol.specs.Run.{System, members_in, expectation}
use Rattle.protocol.specs.Configured.{setting_of}
use Rattle.node_steps.specs.Stages.{due_of}
use Rattle.node_steps.specs.Period.{expect_at, goes, Told}
use Rattle.node_steps.specs.Sending.{IsServed}
use Rattle.scenario.specs.Scenario.{inputs_of, system_of}
use Rattle.node_alone.specs.Log.{RecordView, arrivals, entries_at}
use Rattle.node_alone.specs.View.{logged_to_sync, members, logged_to_done, received, logged_view, kept_alone, begins_alone}

-- ---- what is given of a period

module _ {N : ℕ} (config : Config N) (capacity : IsCapacity N) (is : IsConfig N config) where
  -- room for each frame that is expected
  abbrev pub HasRooms : ℕ → ℕ → ℕ → Inputs → Kept → Received → Type 0
  HasRooms room i p g k x = (t : ℕ) (ms : List ℕ) (due : ℕ) → IsIdSet config.nodes ms → due ≤ 8 → HasRoom room (expect_at config i p g k x t ms due)

  pub served_by : (i p : ℕ) (g : Inputs) (k : Kept) (x : Received) (room : ℕ) (ds : ℕ → List Arriving) → HasRooms room i p g k x → Told config i p g k x ds → IsValid (setting_of config) k.state → IsServed config i p g k x room ds
  served_by i p g k x room ds rooms told valid = record {
    few = is.few_nodes;
    few_channels = is.few_channels;
    told = told;
    rooms = rooms;
    members = λ a e. (goes_valid (setting_of config) capacity is i x k.state valid a e).standing.set;
  }

-- ---- what a log gives

module _ {N : ℕ} (log : RecordView N) where
  abbrev config : Config N
  config = log.scenario.config

  abbrev sys : System
  sys = system_of log.scenario

  module _ (p : ℕ) (k : Kept) where
    abbrev g : Inputs
    g = inputs_of log.scenario log.id p

    abbrev x : Received
    x = received log p k

    goes_same : (o : Option AgreedView) → goes_with (setting_of config) log.id x o ≡ goes_with (setting_of config) log.id (logged_to_sync log p k) o
    goes_same (Some a) = refl
    goes_same None = refl

    members_are : (a : AgreedView) → goes config log.id p g k x ≡ Some a → members log p k ≡ a.standing.members
    members_are a e = ap members_in (goes_before (setting_of config) log.id p g k (logged_to_sync log p k) k.state ∙ sym (goes_same k.state) ∙ e)

    due_are : (a : AgreedView) → goes config log.id p g k x ≡ Some a → (logged_view log p k (logged_to_done log p k)).due ≡ due_of config log.id p g k x a
    due_are a e = sym (due_same (setting_of config) log.id p g k (logged_to_done log p k) x.values x.report k.state).0 ∙ goes_due (setting_of config) log.id p g k x k.state a e

    pub told : Told config log.id p g k x (arrivals log.entries p)
    told = record {
      sync = record { each = λ j low ne. refl };
      first = λ a e. record {
        each = λ j low ne. ap (λ (ms : List ℕ). arrival claim_in (expectation sys p 1 j ms 0) (entries_at log.entries p 1 j)) (members_are a e);
      };
      relay = λ a e r some few. record {
        each = λ j low ne. ap₂ (λ (ms : List ℕ) (t : ℕ). with_entries (paths_of ms r j) (arrival claims_in (expectation sys p t j ms 0) (entries_at log.entries p t j))) (members_are a e) (let q : 1 + r ≡ suc r = omega arith in q);
      };
      values = λ a e. record {
        each = λ j low ne. ap₂ (λ (ms due : List ℕ). arrival values_in (expectation sys p (config.m + 2) j ms (length due)) (entries_at log.entries p (config.m + 2) j)) (members_are a e) (due_are a e);
      };
      row = λ a e. record {
        each = λ j low ne. ap (λ (ms : List ℕ). arrival row_in (expectation sys p (config.m + 3) j ms 0) (entries_at log.entries p (config.m + 3) j)) (members_are a e);
      };
      rows = λ a e r some few. record {
        each = λ j low ne. ap (λ (ms : List ℕ). with_entries (paths_of ms r j) (arrival rows_in (expectation sys p (config.m + 3 + r) j ms 0) (entries_at log.entries p (config.m + 3 + r) j))) (members_are a e);
      };
    }

  module _ (capacity : IsCapacity N) (is : IsConfig N config) where
    valid_kept : (p : ℕ) → IsValid (setting_of config) (kept_alone log p).state
    unfolding kept_alone
    valid_kept zero a e = subst (IsAgreed N config) (same_Some _ a e) (first-agreed N config is)
    valid_kept (suc p) a e =
        kept_valid (setting_of config) capacity is log.id p (inputs_of log.scenario log.id p) (begins_alone log p) (received log p (begins_alone log p)) (begins_alone log p).state
        (opened_valid (setting_of config) (restarts_at log.scenario.plan log.id p) (kept_alone log p) (valid_kept p)) a e

    pub valid_begins : (p : ℕ) → IsValid (setting_of config) (begins_alone log p).state
    valid_begins p = opened_valid (setting_of config) (restarts_at log.scenario.plan log.id p) (kept_alone log p) (valid_kept p)
