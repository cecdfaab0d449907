-- What is accepted is a log; and where a log is that of a run, its view is that of the run.
use Rattle.std.specs.Prelude.{◌≡◌, ◌≢◌, ◌<◌, ◌+◌, ◌*◌, ℕ}
use Rattle.serde_json.specs.Data.{Data}
use Rattle.node_grid.specs.Capacity.{IsCapacity}
use Rattle.protocol.specs.Cluster.{kept, view}
use Rattle.protocol.specs.Run.{run, deliveries}
use Rattle.node_steps.specs.Stages.{outcome_of}
use Rattle.scenario.specs.Scenario.{system_of, IsScenario}
use Rattle.node_alone.specs.Log.{RecordView, entries_at}
use Rattle.node_alone.specs.Rules.{IsAcceptedRecord}
use Rattle.node_alone.specs.Seen.{IsRecord}
use Rattle.node_alone.specs.View.{kept_alone, view_alone}

-- what is accepted of a JSON value is the log of one of the nodes of a scenario
abbrev pub AcceptedRecordLaw : Type 0
AcceptedRecordLaw = (capacity id : ℕ) (d : Data) (log : RecordView capacity) → IsCapacity capacity → IsAcceptedRecord id d log → IsRecord log

-- the entries are what the run of the scenario delivers to the node
pub record IsOfRun {N : ℕ} (log : RecordView N) : Type 0 where
  pub each : (p t j : ℕ) → p < log.scenario.periods → t < 2 * log.scenario.config.m + 4 → j < log.scenario.config.nodes → j ≢ log.id
      → entries_at log.entries p t j ≡ deliveries (system_of log.scenario) p t j log.id

-- a period of the log is that of the run: what the node went into it with, what it leaves, and what it records
pub record IsRunPeriod {N : ℕ} (log : RecordView N) (p : ℕ) : Type 0 where
  pub before : kept_alone log p ≡ kept (run (system_of log.scenario)) log.id p
  pub after : (view_alone log p).kept ≡ (view (run (system_of log.scenario)) log.id p).kept
  pub outcome : outcome_of (view_alone log p) ≡ outcome_of (view (run (system_of log.scenario)) log.id p)

-- Law: each period of such a log is that of the run
abbrev pub AloneLaw : Type 0
AloneLaw = (N : ℕ) (log : RecordView N) → IsScenario log.scenario → IsOfRun log → (p : ℕ) → p < log.scenario.periods → IsRunPeriod log p
