-- What is written of a period is its printed text.
use Rattle.std.proofs.Common.{◌≡◌, ℕ, ◌<◌, ◌≤◌, true, List, Option, refl, sym, ap, subst, ◌∙◌, arith, Result, Ok, Err}
use Rattle.std.specs.Prelude.{OnOk, IsErrOf, MatchResult}
use Rattle.std.specs.Io.KnownBytes.{Appends}
use Rattle.span_io.specs.Causes.{Writes, AppendsPrefix, Rose}
use Rattle.fault_classes.specs.Plan.{Plan}
use Rattle.scenario.specs.Scenario.{ScenarioView, system_of, IsScenario}
use Rattle.cluster_periods.specs.Record.{PeriodView, period_record}
use Rattle.agreed_state.specs.declared.config.Config.{Config}
use Rattle.node_steps.specs.Outcome.{Outcome}
use Rattle.node_steps.specs.Stages.{outcome_of}
use Rattle.run_text.specs.PeriodText.{alone_text}
use Rattle.run_text.specs.TraceText.{IsPlanOf, period_text}
use Rattle.cluster_record.proofs.Planned.{planned_periods, planned_rounds, planned_nodes}
use Rattle.node_alone.specs.Log.{RecordView}
use Rattle.node_alone.specs.Stepping.{AloneView}
use Rattle.node_alone.specs.View.{view_alone}
use Rattle.top_call.specs.declared.form.Form.{Form}
use Rattle.top_call.specs.declared.form.Form.TheVariants.{Replay, Trace, Check}
use Rattle.top_call.specs.declared.replay.ReplayError.{ReplayError}
use Rattle.top_call.specs.declared.replay.ReplayError.TheVariants.{WriteFault, NoMemory}
use Rattle.top_call.specs.Run.{has_frames, printed}
use Rattle.top_call.specs.Alone.{log_printed}

-- the one form with frames
pub is_trace : (form : Form) → has_frames form ≡ true → Trace ≡ form
is_trace Trace e = refl
is_trace Replay e = cc
is_trace Check e = cc

-- what is printed with frames of a period's record
pub traced_is : {N : ℕ} (sc run : ScenarioView N) (plan : Plan) (t : PeriodView) (p : ℕ)
    → run ≡ sc → plan ≡ sc.plan → t ≡ period_record (system_of run) run.clock p → period_text plan true t ≡ printed Trace sc p
unfolding printed
traced_is {N} sc run plan t p same lent is =
    ap (period_text plan true) (is ∙ ap (λ (s : ScenarioView N). period_record (system_of s) s.clock p) same)
    ∙ ap (λ (q : Plan). period_text q true (period_record (system_of sc) sc.clock p)) lent

-- what a record keeps of its period: its nodes, rounds and number, and that the scenario's plan is made for it
module _ {N : ℕ} (sc run : ScenarioView N) (t : PeriodView) (p : ℕ) (same : run ≡ sc) (is : IsScenario sc) (h : t ≡ period_record (system_of run) run.clock p) where
  kept : (t.nodes ≡ sc.config.nodes) × (t.m ≡ sc.config.m) × (t.period ≡ p)
  kept = (
    ap (λ (v : PeriodView). v.nodes) h ∙ ap (λ (s : ScenarioView N). s.config.nodes) same,
    ap (λ (v : PeriodView). v.m) h ∙ ap (λ (s : ScenarioView N). s.config.m) same,
    ap (λ (v : PeriodView). v.period) h,
  )

  pub shown_planned : (plan : Plan) → plan ≡ sc.plan → p < run.periods → IsPlanOf plan t
  shown_planned plan lent more = record {
    nodes = planned_nodes lent is ∙ sym kept.0;
    rounds = planned_rounds lent is ∙ sym kept.1;
    periods = omega (arith, more, kept.2, planned_periods lent is, ap (λ (s : ScenarioView N). s.periods) same);
  }

-- what is Ok is no error
pub is_ok : {T E : Type 0} (x : T) (e : E) → ◌≡◌ {A = Result T E} (Ok x) (Err e) → ⊥
is_ok x e h = cc

-- and want of memory is no fault of the sink
pub other_error : {T : Type 0} → ◌≡◌ {A = Result T ReplayError} (Err WriteFault) (Err NoMemory) → ⊥
other_error {T = T} h = cc

-- a run that is answered as its text was written
module _ {E : Type 0} {old new : Option (List ℕ)} {before now : ℕ} {text : List ℕ} where
  pub told_whole : (w : Result (Unit {0}) E) (r : Result (Unit {0}) ReplayError) → Writes old new before now text w → MatchResult w (λ done. r ≡ Ok done) (λ fault. r ≡ Err WriteFault) → OnOk r (Appends old new text)
  told_whole (Ok x) r h e = subst (λ (s : Result (Unit {0}) ReplayError). OnOk s (Appends old new text)) (sym e) h.whole
  told_whole (Err x) r h e = subst (λ (s : Result (Unit {0}) ReplayError). OnOk s (Appends old new text)) (sym e) tt

  pub told_faultless : (w : Result (Unit {0}) E) (r : Result (Unit {0}) ReplayError) → Writes old new before now text w → MatchResult w (λ done. r ≡ Ok done) (λ fault. r ≡ Err WriteFault) → OnOk r (now ≡ before)
  told_faultless (Ok x) r h e = subst (λ (s : Result (Unit {0}) ReplayError). OnOk s (now ≡ before)) (sym e) h.faultless
  told_faultless (Err x) r h e = subst (λ (s : Result (Unit {0}) ReplayError). OnOk s (now ≡ before)) (sym e) tt

  pub told_fault : (w : Result (Unit {0}) E) (r : Result (Unit {0}) ReplayError) → Writes old new before now text w → MatchResult w (λ done. r ≡ Ok done) (λ fault. r ≡ Err WriteFault)
      → IsErrOf r WriteFault → AppendsPrefix old new text × Rose before now
  told_fault (Ok x) r h e is = absurd (is_ok x WriteFault (sym e ∙ is))
  told_fault (Err x) r h e is = (h.prefix, h.failed)

-- and not for want of memory
pub told_memory : {E P : Type 0} (w : Result (Unit {0}) E) (r : Result (Unit {0}) ReplayError) → MatchResult w (λ done. r ≡ Ok done) (λ fault. r ≡ Err WriteFault) → IsErrOf r NoMemory → P
told_memory (Ok x) r e is = absurd (is_ok x NoMemory (sym e ∙ is))
told_memory (Err x) r e is = absurd (other_error (sym e ∙ is))

-- what is written of a period of a log
pub log_printed_is : {N : ℕ} (log : RecordView N) (alone : AloneView N) (p : ℕ) (config : Config N) (id : ℕ) (shown : Outcome)
    → alone ≡ record { input = log; run = p } → config ≡ log.scenario.config → id ≡ log.id → shown ≡ outcome_of (view_alone alone.input alone.run)
    → alone_text p id config.nodes config.policy.retire shown ≡ log_printed log p
unfolding log_printed
log_printed_is log alone p config id shown same c i s = rw (s, c, i, same) refl
