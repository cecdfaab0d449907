-- Each node by itself: what it is delivered in a period of the run, and where that leads it.
use Rattle.std.proofs.Common.{ℕ, zero, suc, ◌≡◌, ◌≢◌, ◌<◌, ◌≤◌, ◌+◌, ◌*◌, Bool, true, false, if◌then◌else◌, List, [], length, refl, sym, ap, ap₂, subst, ◌∙◌, arith, Some}
use Rattle.std.proofs.lemmas.Option.{same_Some}
use Rattle.node_grid.specs.Capacity.{IsCapacity}
use Rattle.frames.specs.Spelling.{spelling}
use Rattle.frames.specs.Bound.{IsGreatest}
use Rattle.error_detect.specs.Finding.{Delivery}
use Rattle.error_detect.specs.Watching.{of_sender}
use Rattle.error_detect.specs.Multiset.{Arriving, from_sender}
use Rattle.fault_classes.specs.Plan.{Plan, restarts_at}
use Rattle.agreed_state.specs.declared.config.Config.{Config}
use Rattle.agreed_state.specs.declared.config.Inputs.{Inputs}
use Rattle.agreed_state.specs.Config.{IsConfig}
use Rattle.agreed_state.specs.Agreed.{AgreedView, IsAgreed}
use Rattle.agreed_state.specs.AgreedLaws.{first-agreed}
use Rattle.agreed_state.specs.Body.{state_len}
use Rattle.protocol.specs.Arrival.{arrival, body_said, claim_in, claims_in, values_in, row_in, rows_in}
use Rattle.protocol.specs.Heard.{paths_of, with_entries}
use Rattle.protocol.specs.View.{Setting, Kept, nothing, Received, opened}
use Rattle.protocol.specs.Cluster.{kept, begins, view}
use Rattle.protocol.specs.Run.{System, members_in, expectation, run, sent, deliveries}
use Rattle.safety.specs.Talk.{DeliveryLaw, SayingLaw}
use Rattle.node_steps.specs.Parts.{NodeView}
use Rattle.protocol.specs.ViewLaws.{goes_before, goes_due, IsValid, opened_valid, goes_valid, kept_valid}
use Rattle.protocol.specs.Configured.{setting_of}
use Rattle.node_steps.specs.Steps.{begun, restarted, frame_of}
use Rattle.node_steps.specs.Stages.{due_of}
use Rattle.node_steps.specs.Period.{slots_run, expect_at, goes, Told}
use Rattle.node_steps.specs.Sending.{Fixed, fixed, fixed_of, IsServed, GoesThrough, PeriodLaw}
use Rattle.scenario.specs.Scenario.{ScenarioView, inputs_of, system_of}
use Rattle.cluster_periods.specs.Slots.{arrivals}
use Rattle.cluster_periods.specs.Periods.{IsBefore}
use Rattle.cluster_periods.proofs.Arriving.{from_each}

-- ---- each node by itself

module _ {N : ℕ} (sc : ScenarioView N) where
  abbrev config : Config N
  config = sc.config

  abbrev plan : Plan
  plan = sc.plan

  abbrev inputs : ℕ → ℕ → Inputs
  inputs = inputs_of sc

  abbrev order : ℕ
  order = sc.order

  abbrev sys : System
  sys = system_of sc

  abbrev s : Setting
  s = setting_of config

  -- ---- states

  module _ (capacity : IsCapacity N) (is : IsConfig N config) where
    valid_kept : (i p : ℕ) → IsValid s (kept (run sys) i p).state
    unfolding kept
    valid_kept i zero a e = subst (IsAgreed N config) (same_Some _ a e) (first-agreed N config is)
    valid_kept i (suc p) a e = kept_valid s capacity is i p (inputs i p) (begins (run sys) i p) ((run sys).received i p) (begins (run sys) i p).state (opened_valid s (restarts_at plan i p) (kept (run sys) i p) (valid_kept i p)) a e

    pub valid_begins : (i p : ℕ) → IsValid s (begins (run sys) i p).state
    valid_begins i p = opened_valid s (restarts_at plan i p) (kept (run sys) i p) (valid_kept i p)

    -- ---- what is given of a node's period

    module _ (room : ℕ) (within : sc.order ≤ sc.config.nodes) (greatest : IsGreatest config.nodes config.m (state_len config) 8 room) (delivery : DeliveryLaw) (p : ℕ) where
      -- what is delivered to it in each slot
      abbrev pub ds : ℕ → ℕ → List Arriving
      ds i t = arrivals plan order config.nodes p t (sent sys p t) i

      abbrev k : ℕ → Kept
      k i = begins (run sys) i p

      abbrev x : ℕ → Received
      x i = (run sys).received i p

      comes : (t i j : ℕ) → j < config.nodes → j ≢ i → deliveries sys p t j i ≡ from_sender j (ds i t)
      comes t i j low ne = sym (from_each plan p t (sent sys p t) i j order config.nodes within low ne)

      members_are : (i : ℕ) (a : AgreedView) → goes config i p (inputs i p) (k i) (x i) ≡ Some a → members_in (view (run sys) i p).before ≡ a.standing.members
      members_are i a e = ap members_in (goes_before s i p (inputs i p) (k i) (x i) (k i).state ∙ e)

      told : (i : ℕ) → Told config i p (inputs i p) (k i) (x i) (ds i)
      told i =
          let d = delivery sys p i in
          record {
            sync = record { each = λ j low ne. d.sync j ∙ ap (arrival body_said (expectation sys p 0 j [] 0)) (comes 0 i j low ne) };
            first = λ a e. record {
              each = λ j low ne. d.claim j ∙ ap₂ (λ (ms : List ℕ) (y : List Delivery). arrival claim_in (expectation sys p 1 j ms 0) y) (members_are i a e) (comes 1 i j low ne);
            };
            relay = λ a e r some few. record {
              each = λ j low ne. d.claims r j some few
                  ∙ ap₂ (λ (ms : List ℕ) (t : ℕ). with_entries (paths_of ms r j) (arrival claims_in (expectation sys p t j ms 0) (deliveries sys p t j i))) (members_are i a e) (let q : 1 + r ≡ suc r = omega arith in q)
                  ∙ ap (λ (y : List Delivery). with_entries (paths_of a.standing.members r j) (arrival claims_in (expectation sys p (suc r) j a.standing.members 0) y)) (comes (suc r) i j low ne);
            };
            values = λ a e. record {
              each = λ j low ne. d.values j
                  ∙ ap₂ (λ (ms due : List ℕ). arrival values_in (expectation sys p (config.m + 2) j ms (length due)) (deliveries sys p (config.m + 2) j i)) (members_are i a e) (goes_due s i p (inputs i p) (k i) (x i) (k i).state a e)
                  ∙ ap (arrival values_in (expectation sys p (config.m + 2) j a.standing.members (length (due_of config i p (inputs i p) (k i) (x i) a)))) (comes (config.m + 2) i j low ne);
            };
            row = λ a e. record {
              each = λ j low ne. d.row j ∙ ap₂ (λ (ms : List ℕ) (y : List Delivery). arrival row_in (expectation sys p (config.m + 3) j ms 0) y) (members_are i a e) (comes (config.m + 3) i j low ne);
            };
            rows = λ a e r some few. record {
              each = λ j low ne. d.rows r j some few
                  ∙ ap₂ (λ (ms : List ℕ) (y : List Delivery). with_entries (paths_of ms r j) (arrival rows_in (expectation sys p (config.m + 3 + r) j ms 0) y)) (members_are i a e) (comes (config.m + 3 + r) i j low ne);
            };
          }

      pub served_there : (i : ℕ) → IsServed config i p (inputs i p) (k i) (x i) room (ds i)
      served_there i = record {
        few = is.few_nodes;
        few_channels = is.few_channels;
        told = told i;
        rooms = λ t ms due ids small j c r. greatest.within (of_sender j (expect_at config i p (inputs i p) (k i) (x i) t ms due)) c
            (record { nodes_is = refl; m_is = refl; state_len_is = refl; few_due = small; members = ids }) r;
        members = λ a e. (goes_valid s capacity is i (x i) (k i).state (opened_valid s (restarts_at plan i p) (kept (run sys) i p) (valid_kept i p)) a e).standing.set;
      }

      module _ (law : PeriodLaw) where
        goes_on : (i : ℕ) (v : NodeView N) → fixed v ≡ fixed_of config room i → v.kept ≡ k i → GoesThrough config i p (inputs i p) (k i) (x i) (ds i) v
        goes_on i v same keeps = law N config i p (inputs i p) (k i) (x i) room (ds i) v (served_there i) same keeps

        -- its frames are those that are sent
        frames_are : (saying : SayingLaw) (i t : ℕ) (v : NodeView N) → fixed v ≡ fixed_of config room i → v.kept ≡ k i → t < 2 * config.m + 4 → frame_of (slots_run (ds i) t (begun v p (inputs i p))) ≡ sent sys p t i
        frames_are saying i t v same keeps low =
            (goes_on i v same keeps).frames t low ∙ ap (spelling config.nodes (record { version = config.version; period = p; sender = i; slot = t })) (sym (saying sys p i t low))

    -- ---- period by period

    module _ (room : ℕ) (within : sc.order ≤ sc.config.nodes) (greatest : IsGreatest config.nodes config.m (state_len config) 8 room) (delivery : DeliveryLaw) (law : PeriodLaw) where
      -- a node before a period
      abbrev Before : ℕ → ℕ → NodeView N → Type 0
      Before i p v = IsBefore sc room i p v

      -- and as the period begins
      abbrev pub woken : ℕ → ℕ → NodeView N → NodeView N
      woken i p v = if restarts_at plan i p then restarted v else v

      woken_same : (b : Bool) (v : NodeView N) → fixed (if b then restarted v else v) ≡ fixed v
      woken_same true v = refl
      woken_same false v = refl

      woken_keeps : (b : Bool) (v : NodeView N) (y : Kept) → v.config ≡ config → v.kept ≡ y → (if b then restarted v else v).kept ≡ opened s b y
      woken_keeps true v y c e = ap (λ (z : Config N). nothing (setting_of z)) c
      woken_keeps false v y c e = e

      pub woken_is : (i p : ℕ) (v : NodeView N) → Before i p v → (fixed (woken i p v) ≡ fixed_of config room i) × ((woken i p v).kept ≡ begins (run sys) i p)
      woken_is i p v h = (
        woken_same (restarts_at plan i p) v ∙ h.same,
        woken_keeps (restarts_at plan i p) v (kept (run sys) i p) (ap (λ (y : Fixed N). y.config) h.same) h.keeps,
      )

      module _ (p : ℕ) (vs : ℕ → NodeView N) (before : (i : ℕ) → i < config.nodes → Before i p (vs i)) where
        pub frames_there : (saying : SayingLaw) (t i : ℕ) → t < 2 * config.m + 4 → i < config.nodes → frame_of (slots_run (ds room within greatest delivery p i) t (begun (woken i p (vs i)) p (inputs i p))) ≡ sent sys p t i
        frames_there saying t i low l =
            let w = woken_is i p (vs i) (before i l) in
            frames_are room within greatest delivery p law saying i t (woken i p (vs i)) w.0 w.1 low

        pub through_there : (i : ℕ) → i < config.nodes → GoesThrough config i p (inputs i p) (begins (run sys) i p) ((run sys).received i p) (ds room within greatest delivery p i) (woken i p (vs i))
        through_there i l = let w = woken_is i p (vs i) (before i l) in goes_on room within greatest delivery p law i (woken i p (vs i)) w.0 w.1
