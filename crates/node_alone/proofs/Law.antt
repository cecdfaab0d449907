-- A log whose entries are what a run delivers has the run's view: one node, stepped through them, ends with both.
use Rattle.std.proofs.Common.{ℕ, zero, suc, ◌≡◌, ◌≢◌, ◌<◌, ◌≤◌, ◌+◌, ◌*◌, ◌^◌, List, [], length, refl, sym, ap, ap₂, subst, ◌∙◌, arith, Some}
use Rattle.std.proofs.lemmas.List.{length-append}
use Rattle.frames.specs.Content.{kind}
use Rattle.frames.specs.Spelling.{header_spelling, body_spelling, head_of}
use Rattle.error_detect.specs.Finding.{Delivery}
use Rattle.error_detect.specs.Watching.{of_sender}
use Rattle.error_detect.specs.Multiset.{Arriving}
use Rattle.fault_classes.specs.Plan.{restarts_at}
use Rattle.agreed_state.specs.declared.config.Config.{Config}
use Rattle.agreed_state.specs.declared.config.Inputs.{Inputs}
use Rattle.agreed_state.specs.Agreed.{AgreedView}
use Rattle.protocol.specs.Arrival.{arrival, body_said, claim_in, claims_in, values_in, row_in, rows_in}
use Rattle.protocol.specs.Heard.{paths_of, with_entries}
use Rattle.protocol.specs.View.{Kept, Received, opened}
use Rattle.protocol.specs.Cluster.{kept, begins, view}
use Rattle.protocol.specs.Run.{System, members_in, expectation, run, deliveries}
use Rattle.safety.specs.Talk.{DeliveryLaw}
use Rattle.node_steps.specs.Fresh.{newly_open}
use Rattle.node_steps.specs.Parts.{NodeView}
use Rattle.protocol.specs.Configured.{setting_of}
use Rattle.node_steps.specs.Steps.{begun}
use Rattle.node_steps.specs.Stages.{due_of, outcome_of}
use Rattle.node_steps.specs.Period.{slots_run, expect_at, goes, Told, IsOver}
use Rattle.node_steps.specs.Sending.{PeriodLaw}
use Rattle.scenario.specs.Scenario.{inputs_of, system_of, IsScenario}
use Rattle.node_alone.specs.Log.{RecordView, arrivals, entries_at}
use Rattle.node_alone.specs.View.{received, kept_alone, begins_alone, view_alone}
use Rattle.node_alone.specs.Laws.{IsOfRun, IsRunPeriod, AloneLaw}
use Rattle.protocol.specs.ViewLaws.{goes_before, goes_due, IsValid}
use Rattle.node_alone.proofs.Told.{told, served_by, HasRooms, valid_begins}

module _ {N : ℕ} (log : RecordView N) (is : IsScenario log.scenario) (of_run : IsOfRun log) (law : PeriodLaw) (delivery : DeliveryLaw) where
  abbrev config : Config N
  config = log.scenario.config

  abbrev sys : System
  sys = system_of log.scenario

  abbrev i : ℕ
  i = log.id

  -- more room than any frame needs: its length is told by 32 bits
  abbrev room : ℕ
  room = 14 + 2 ^ 32

  rooms : (p : ℕ) (g : Inputs) (k : Kept) (x : Received) → HasRooms config is.system.capacity is.system.config room i p g k x
  rooms p g k x t ms due ids small j c r =
      let e = of_sender j (expect_at config i p g k x t ms due) in
      omega (arith, length-append (header_spelling (head_of e) (kind c) (length (body_spelling e.nodes c))) (body_spelling e.nodes c), r.short)

  module _ (p : ℕ) (more : p < log.scenario.periods) where
    abbrev g : Inputs
    g = inputs_of log.scenario i p

    abbrev ds : ℕ → List Arriving
    ds = arrivals log.entries p

    abbrev k : Kept
    k = begins (run sys) i p

    abbrev x : Received
    x = (run sys).received i p

    comes : (t j : ℕ) → t < 2 * config.m + 4 → j < config.nodes → j ≢ i → deliveries sys p t j i ≡ entries_at log.entries p t j
    comes t j slot low ne = sym (of_run.each p t j more slot low ne)

    members_are : (a : AgreedView) → goes config i p g k x ≡ Some a → members_in (view (run sys) i p).before ≡ a.standing.members
    members_are a e = ap members_in (goes_before (setting_of config) i p g k x k.state ∙ e)

    told_by_run : Told config i p g k x ds
    told_by_run =
        let d = delivery sys p i in
        record {
          sync = record { each = λ j low ne. d.sync j ∙ ap (arrival body_said (expectation sys p 0 j [] 0)) (comes 0 j (omega arith) low ne) };
          first = λ a e. record {
            each = λ j low ne. d.claim j ∙ ap₂ (λ (ms : List ℕ) (y : List Delivery). arrival claim_in (expectation sys p 1 j ms 0) y) (members_are a e) (comes 1 j (omega arith) low ne);
          };
          relay = λ a e r some few. record {
            each = λ j low ne. d.claims r j some few
                ∙ ap₂ (λ (ms : List ℕ) (t : ℕ). with_entries (paths_of ms r j) (arrival claims_in (expectation sys p t j ms 0) (deliveries sys p t j i))) (members_are a e) (let q : 1 + r ≡ suc r = omega arith in q)
                ∙ ap (λ (y : List Delivery). with_entries (paths_of a.standing.members r j) (arrival claims_in (expectation sys p (suc r) j a.standing.members 0) y)) (comes (suc r) j (omega (arith, few)) low ne);
          };
          values = λ a e. record {
            each = λ j low ne. d.values j
                ∙ ap₂ (λ (ms due : List ℕ). arrival values_in (expectation sys p (config.m + 2) j ms (length due)) (deliveries sys p (config.m + 2) j i)) (members_are a e) (goes_due (setting_of config) i p g k x k.state a e)
                ∙ ap (arrival values_in (expectation sys p (config.m + 2) j a.standing.members (length (due_of config i p g k x a)))) (comes (config.m + 2) j (omega arith) low ne);
          };
          row = λ a e. record {
            each = λ j low ne. d.row j ∙ ap₂ (λ (ms : List ℕ) (y : List Delivery). arrival row_in (expectation sys p (config.m + 3) j ms 0) y) (members_are a e) (comes (config.m + 3) j (omega arith) low ne);
          };
          rows = λ a e r some few. record {
            each = λ j low ne. d.rows r j some few
                ∙ ap₂ (λ (ms : List ℕ) (y : List Delivery). with_entries (paths_of ms r j) (arrival rows_in (expectation sys p (config.m + 3 + r) j ms 0) y)) (members_are a e) (comes (config.m + 3 + r) j (omega (arith, few)) low ne);
          };
        }

    -- a node that keeps this, stepped through the entries
    abbrev node : Kept → NodeView N
    node y = record (newly_open config i room) { kept = y }

    abbrev end : Kept → NodeView N
    end y = slots_run ds (2 * config.m + 4) (begun (node y) p g)

    by_log : IsOver (end (begins_alone log p)) (view_alone log p)
    by_log =
        (law N config i p g (begins_alone log p) (received log p (begins_alone log p)) room ds (node (begins_alone log p))
        (served_by config is.system.capacity is.system.config i p g (begins_alone log p) (received log p (begins_alone log p)) room ds (rooms p g (begins_alone log p) (received log p (begins_alone log p))) (told log p (begins_alone log p))
        (valid_begins log is.system.capacity is.system.config p)) refl refl).over

    by_run : IsValid (setting_of config) k.state → IsOver (end k) (view (run sys) i p)
    by_run valid = (law N config i p g k x room ds (node k) (served_by config is.system.capacity is.system.config i p g k x room ds (rooms p g k x) told_by_run valid) refl refl).over

    same_after : begins_alone log p ≡ k → ((view_alone log p).kept ≡ (view (run sys) i p).kept) × (outcome_of (view_alone log p) ≡ outcome_of (view (run sys) i p))
    same_after e =
        let there = by_run (subst (λ (y : Kept). IsValid (setting_of config) y.state) e (valid_begins log is.system.capacity is.system.config p)) in (
          sym by_log.kept ∙ ap (λ (y : Kept). (end y).kept) e ∙ there.kept,
          sym by_log.outcome ∙ ap (λ (y : Kept). (end y).outcome) e ∙ there.outcome,
        )

  same_begins : (p : ℕ) → kept_alone log p ≡ kept (run sys) i p → begins_alone log p ≡ begins (run sys) i p
  same_begins p e = ap (opened (setting_of config) (restarts_at log.scenario.plan i p)) e

  same_kept : (p : ℕ) → p ≤ log.scenario.periods → kept_alone log p ≡ kept (run sys) i p
  unfolding kept_alone kept
  same_kept zero low = refl
  same_kept (suc p) low = (same_after p (omega (arith, low)) (same_begins p (same_kept p (omega (arith, low))))).0

  pub is_run_period : (p : ℕ) → p < log.scenario.periods → IsRunPeriod log p
  is_run_period p low =
      let before = same_kept p (omega (arith, low)) in
      let after = same_after p low (same_begins p before) in
      record { before = before; after = after.0; outcome = after.1 }

pub alone_law : PeriodLaw → DeliveryLaw → AloneLaw
alone_law law delivery N log is of_run p low = is_run_period log is of_run law delivery p low
