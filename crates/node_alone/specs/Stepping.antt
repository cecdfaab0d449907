-- A node that is stepped through its log: how it stands, and what a period makes of it.
use Rattle.std.specs.Prelude.{◌≡◌, ◌≢◌, ◌<◌, ℕ, suc, false, true, not, All, List, drop, filter, if◌then◌else◌}
use Rattle.frames.specs.Bound.{IsGreatest}
use Rattle.error_detect.specs.Multiset.{Arriving, all_delivered}
use Rattle.fault_classes.specs.Plan.{restarts_at}
use Rattle.agreed_state.specs.Body.{state_len}
use Rattle.node_steps.specs.Outcome.{Outcome}
use Rattle.node_steps.specs.Parts.{NodeView}
use Rattle.node_steps.specs.Steps.{begun, restarted}
use Rattle.node_steps.specs.Stages.{outcome_of}
use Rattle.node_steps.specs.Period.{slots_run}
use Rattle.node_steps.specs.Sending.{fixed, fixed_of}
use Rattle.scenario.specs.Scenario.{inputs_of}
use Rattle.node_alone.specs.Log.{Entry, RecordView, is_before, arrivals}
use Rattle.node_alone.specs.View.{kept_alone, view_alone}
use Rattle.node_alone.specs.Seen.{IsRecord}

-- a log, and how many of its periods were run
pub record AloneView (N : ℕ) : Type 0 where
  pub input : RecordView N
  pub run : ℕ

-- a node after these deliveries
abbrev pub handed : {N : ℕ} → NodeView N → List Arriving → NodeView N
handed v ds = record v { arrived = all_delivered v.arrived ds }

-- an entry from another node
pub record IsFromOther (nodes me : ℕ) (e : Entry) : Type 0 where
  pub from : e.from < nodes
  pub other : e.from ≢ me

-- a node in an open slot, which can be delivered these entries
pub record IsReady {N : ℕ} (v : NodeView N) (es : List Entry) : Type 0 where
  pub is_open : v.phase.is_open ≡ true
  pub others : All (IsFromOther v.config.nodes v.phase.me) es

-- the node restarts where it does, and begins the period
abbrev pub woken : {N : ℕ} → RecordView N → ℕ → NodeView N → NodeView N
woken log p v = if restarts_at log.scenario.plan log.id p then restarted v else v

abbrev pub begun_alone : {N : ℕ} → RecordView N → ℕ → NodeView N → NodeView N
begun_alone log p v = begun (woken log p v) p (inputs_of log.scenario log.id p)

-- so many slots of the period
abbrev pub slots_alone : {N : ℕ} → RecordView N → ℕ → ℕ → NodeView N → NodeView N
slots_alone log p t v = slots_run (arrivals log.entries p) t (begun_alone log p v)

-- the entries from this slot on
abbrev pub from_slot : ℕ → ℕ → List Entry → List Entry
from_slot p t es = filter (λ e. not (is_before p t e)) es

-- the node before period p
pub record IsAloneAt {N : ℕ} (log : RecordView N) (p : ℕ) (v : NodeView N) : Type 0 where
  pub room : ℕ
  pub greatest : IsGreatest log.scenario.config.nodes log.scenario.config.m (state_len log.scenario.config) 8 room
  pub same : fixed v ≡ fixed_of log.scenario.config room log.id
  pub keeps : v.kept ≡ kept_alone log p
  pub shut : v.phase.is_open ≡ false

-- the node, how many entries it was delivered, and what is shown, after p periods
pub record IsStepped {N : ℕ} (log : RecordView N) (p next : ℕ) (v : NodeView N) (o : Outcome) : Type 0 where
  pub input : IsRecord log
  pub node : IsAloneAt log p v
  pub rest : drop next log.entries ≡ from_slot p 0 log.entries
  pub last : (q : ℕ) → p ≡ suc q → o ≡ outcome_of (view_alone log q)
