-- What is printed of one node alone, by its log.
use Rattle.std.specs.Prelude.{◌≡◌, ℕ, List, ◌++◌, Option, Result, OnOk, IsErrOf}
use Rattle.std.specs.List.{flat_map}
use Rattle.std.specs.Io.KnownBytes.{Appends, Keeps}
use Rattle.node_grid.specs.NodeSet.{ids_below}
use Rattle.span_io.specs.Causes.{Rose, AppendsPrefix}
use Rattle.node_steps.specs.Stages.{outcome_of}
use Rattle.run_text.specs.PeriodText.{end_text, alone_text}
use Rattle.node_alone.specs.Log.{RecordView}
use Rattle.node_alone.specs.View.{view_alone}
use Rattle.top_call.specs.declared.replay.ReplayError.{ReplayError}
use Rattle.top_call.specs.declared.replay.ReplayError.TheVariants.{WriteFault, NoMemory}

-- the printed text of period p of a log
unfoldable pub log_printed : {N : ℕ} → RecordView N → ℕ → List ℕ
log_printed log p = alone_text p log.id log.scenario.config.nodes log.scenario.config.policy.retire (outcome_of (view_alone log p))

-- the printed text of a log: its periods in order, and the end
abbrev pub log_text : {N : ℕ} → RecordView N → List ℕ
log_text log = flat_map (log_printed log) (ids_below log.scenario.periods) ++ end_text log.scenario.periods

-- The text of the log was written; or a prefix of it, where the count of faults rose; or there was no memory, and nothing was written.
pub record IsLogRun {N : ℕ} (log : RecordView N) (old new : Option (List ℕ)) (before now : ℕ) (result : Result (Unit {0}) ReplayError) : Type 0 where
  pub written : OnOk result (Appends old new (log_text log))
  pub faultless : OnOk result (now ≡ before)
  pub write_fault : IsErrOf result WriteFault → AppendsPrefix old new (log_text log) × Rose before now
  pub no_memory : IsErrOf result NoMemory → Keeps old new × (now ≡ before)
