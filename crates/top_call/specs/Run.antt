-- What is printed of the run of an accepted scenario, and what is safe of it.
use Rattle.std.specs.Prelude.{◌≡◌, ℕ, Bool, true, false, ◌↔◌, List, ◌++◌, Option, Result, OnOk, IsErrOf}
use Rattle.std.specs.List.{flat_map}
use Rattle.std.specs.Io.KnownBytes.{Appends, Keeps}
use Rattle.node_grid.specs.NodeSet.{ids_below}
use Rattle.span_io.specs.Causes.{Rose, AppendsPrefix}
use Rattle.fault_classes.specs.Plan.{Plan}
use Rattle.protocol.specs.Run.{run, classes}
use Rattle.protocol.specs.Safe.{Claim}
use Rattle.scenario.specs.Scenario.{ScenarioView, system_of}
use Rattle.cluster_periods.specs.Record.{PeriodView, period_record}
use Rattle.cluster_periods.specs.Laws.{Promises}
use Rattle.run_text.specs.PeriodText.{head_text, end_text}
use Rattle.run_text.specs.TraceText.{period_text}
use Rattle.top_call.specs.declared.form.Form.{Form}
use Rattle.top_call.specs.declared.form.Form.TheVariants.{Replay, Trace, Check}
use Rattle.top_call.specs.declared.replay.ReplayError.{ReplayError}
use Rattle.top_call.specs.declared.replay.ReplayError.TheVariants.{WriteFault, NoMemory}

-- what each form prints of a period
abbrev pub shown_text : Form → Plan → PeriodView → List ℕ
shown_text Replay plan t = period_text plan false t
shown_text Trace plan t = period_text plan true t
shown_text Check plan t = head_text t

-- whether a form prints frames
abbrev pub has_frames : Form → Bool
has_frames Replay = false
has_frames Trace = true
has_frames Check = false

-- the printed text of period p of a scenario's run
unfoldable pub printed : {N : ℕ} → Form → ScenarioView N → ℕ → List ℕ
printed form sc p = shown_text form sc.plan (period_record (system_of sc) sc.clock p)

-- the printed text of the run: its periods in order, and the end
abbrev pub run_text : {N : ℕ} → Form → ScenarioView N → List ℕ
run_text form sc = flat_map (printed form sc) (ids_below sc.periods) ++ end_text sc.periods

-- the form of a replay with or without the frames
abbrev pub traced : Bool → Form
traced true = Trace
traced false = Replay

-- each claimed period of a scenario's run keeps what is promised of it: that it is safe, whom its sound nodes convict, and how near the
-- votes of copies and the clocks are; and the line of a period tells exactly whether the period is claimed
pub record IsSafeRun {N : ℕ} (sc : ScenarioView N) : Type 0 where
  pub promised : (p : ℕ) → Claim (run (system_of sc)) (classes (system_of sc)) p → Promises sc p
  pub told : (p : ℕ) → (period_record (system_of sc) sc.clock p).claim ≡ true ↔ Claim (run (system_of sc)) (classes (system_of sc)) p

-- The run is safe, and its text was written; or a prefix of the text was written, where the count of faults rose; or there was no
-- memory, and nothing was written.
pub record IsRun {N : ℕ} (form : Form) (sc : ScenarioView N) (old new : Option (List ℕ)) (before now : ℕ) (result : Result (Unit {0}) ReplayError) : Type 0 where
  pub safe : IsSafeRun sc
  pub written : OnOk result (Appends old new (run_text form sc))
  pub faultless : OnOk result (now ≡ before)
  pub write_fault : IsErrOf result WriteFault → AppendsPrefix old new (run_text form sc) × Rose before now
  pub no_memory : IsErrOf result NoMemory → Keeps old new × (now ≡ before)
