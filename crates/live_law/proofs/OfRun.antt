-- A node that is delivered what a run delivers goes through its period as the run says.
use Rattle.std.proofs.Common.{ℕ, suc, ◌≡◌, ◌≢◌, ◌<◌, ◌+◌, ◌*◌, List, [], length, sym, ap, ap₂, ◌∙◌, arith, Some}
use Rattle.node_grid.specs.Capacity.{IsCapacity}
use Rattle.frames.specs.Spelling.{spelling}
use Rattle.error_detect.specs.Finding.{Delivery}
use Rattle.error_detect.specs.Multiset.{Arriving, from_sender}
use Rattle.fault_classes.specs.Plan.{restarts_at}
use Rattle.agreed_state.specs.declared.config.Config.{Config}
use Rattle.agreed_state.specs.declared.config.Inputs.{Inputs}
use Rattle.agreed_state.specs.Config.{IsConfig}
use Rattle.agreed_state.specs.Agreed.{AgreedView}
use Rattle.protocol.specs.Arrival.{arrival, body_said, claim_in, claims_in, values_in, row_in, rows_in}
use Rattle.protocol.specs.Heard.{paths_of, with_entries}
use Rattle.protocol.specs.View.{Kept, Received}
use Rattle.protocol.specs.ViewLaws.{goes_before, goes_due, kept_valid}
use Rattle.protocol.specs.Cluster.{kept, begins, view}
use Rattle.protocol.specs.Run.{System, members_in, expectation, run, sent, deliveries}
use Rattle.protocol.specs.Configured.{setting_of}
use Rattle.safety.specs.Talk.{DeliveryLaw, SayingLaw}
use Rattle.node_steps.specs.Parts.{NodeView}
use Rattle.node_steps.specs.Steps.{begun, frame_of}
use Rattle.node_steps.specs.Stages.{due_of}
use Rattle.node_steps.specs.Period.{slots_run, goes, Told}
use Rattle.node_steps.specs.Sending.{GoesThrough, PeriodLaw}
use Rattle.scenario.specs.Scenario.{ScenarioView}
use Rattle.live_law.specs.Periods.{IsBetween, Next}
use Rattle.live_law.specs.Run.{system_given, IsDelivered}
use Rattle.live_law.proofs.Told.{served_by}

-- what a run makes of period p for node i: whether it restarts, what it is given, and this in each slot
abbrev pub next_of : System → ℕ → ℕ → (ℕ → List Arriving) → Next
next_of sys i p ds = record { period = p; restarts = restarts_at sys.plan i p; inputs = sys.inputs i p; slots = ds }

module _ {N : ℕ} (sc : ScenarioView N) (inputs : ℕ → ℕ → Inputs) (capacity : IsCapacity N) (is : IsConfig N sc.config) (law : PeriodLaw) (delivery : DeliveryLaw) (saying : SayingLaw) (i p : ℕ) where
  abbrev config : Config N
  config = sc.config

  abbrev sys : System
  sys = system_given sc inputs

  abbrev k : Kept
  k = begins (run sys) i p

  abbrev x : Received
  x = (run sys).received i p

  module _ (ds : ℕ → List Arriving) (comes : IsDelivered sys i p ds) where
    come : (t j : ℕ) → t < 2 * config.m + 4 → j < config.nodes → j ≢ i → deliveries sys p t j i ≡ from_sender j (ds t)
    come t j slot low ne = sym (comes.each t j slot low ne)

    members_are : (a : AgreedView) → goes config i p (inputs i p) k x ≡ Some a → members_in (view (run sys) i p).before ≡ a.standing.members
    members_are a e = ap members_in (goes_before (setting_of config) i p (inputs i p) k x k.state ∙ e)

    told_by_run : Told config i p (inputs i p) k x ds
    told_by_run =
        let d = delivery sys p i in
        record {
          sync = record { each = λ j low ne. d.sync j ∙ ap (arrival body_said (expectation sys p 0 j [] 0)) (come 0 j (omega arith) low ne) };
          first = λ a e. record {
            each = λ j low ne. d.claim j ∙ ap₂ (λ (ms : List ℕ) (y : List Delivery). arrival claim_in (expectation sys p 1 j ms 0) y) (members_are a e) (come 1 j (omega arith) low ne);
          };
          relay = λ a e r some few. record {
            each = λ j low ne. d.claims r j some few
                ∙ ap₂ (λ (ms : List ℕ) (t : ℕ). with_entries (paths_of ms r j) (arrival claims_in (expectation sys p t j ms 0) (deliveries sys p t j i))) (members_are a e) (let q : 1 + r ≡ suc r = omega arith in q)
                ∙ ap (λ (y : List Delivery). with_entries (paths_of a.standing.members r j) (arrival claims_in (expectation sys p (suc r) j a.standing.members 0) y)) (come (suc r) j (omega (arith, few)) low ne);
          };
          values = λ a e. record {
            each = λ j low ne. d.values j
                ∙ ap₂ (λ (ms due : List ℕ). arrival values_in (expectation sys p (config.m + 2) j ms (length due)) (deliveries sys p (config.m + 2) j i)) (members_are a e) (goes_due (setting_of config) i p (inputs i p) k x k.state a e)
                ∙ ap (arrival values_in (expectation sys p (config.m + 2) j a.standing.members (length (due_of config i p (inputs i p) k x a)))) (come (config.m + 2) j (omega arith) low ne);
          };
          row = λ a e. record {
            each = λ j low ne. d.row j ∙ ap₂ (λ (ms : List ℕ) (y : List Delivery). arrival row_in (expectation sys p (config.m + 3) j ms 0) y) (members_are a e) (come (config.m + 3) j (omega arith) low ne);
          };
          rows = λ a e r some few. record {
            each = λ j low ne. d.rows r j some few
                ∙ ap₂ (λ (ms : List ℕ) (y : List Delivery). with_entries (paths_of ms r j) (arrival rows_in (expectation sys p (config.m + 3 + r) j ms 0) y)) (members_are a e) (come (config.m + 3 + r) j (omega (arith, few)) low ne);
          };
        }

    -- a node that goes into the period with what the run says
    module _ (v : NodeView N) (at : IsBetween config i k v) where
      pub through_run : GoesThrough config i p (inputs i p) k x ds v
      through_run = law N config i p (inputs i p) k x at.room ds v (served_by config i p (inputs i p) k capacity is at.room at.greatest x ds told_by_run at.valid) at.same at.keeps

      pub says_sent : (t : ℕ) → t < 2 * config.m + 4 → frame_of (slots_run ds t (begun v p (inputs i p))) ≡ sent sys p t i
      says_sent t low = through_run.frames t low ∙ ap (spelling config.nodes (record { version = config.version; period = p; sender = i; slot = t })) (sym (saying sys p i t low))

      pub between_runs : IsBetween config i (kept (run sys) i (suc p)) (slots_run ds (2 * config.m + 4) (begun v p (inputs i p)))
      unfolding kept
      between_runs = record {
        room = at.room;
        greatest = at.greatest;
        same = through_run.stays (2 * config.m + 4) ∙ at.same;
        keeps = through_run.over.kept;
        valid = kept_valid (setting_of config) capacity is i p (inputs i p) k x k.state at.valid;
        shut = through_run.over.shut;
      }
