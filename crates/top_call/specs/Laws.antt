-- What holds of the runs that the program prints, over the definitions alone.
use Rattle.std.specs.Prelude.{◌≡◌, ℕ, ◌<◌, ◌≤◌, List, [], ◌++◌, Option, None, Some, codes, decimal, slice_get, slice_index_or}
use Rattle.std.specs.List.{flat_map}
use Rattle.serde_json.specs.Data.{Data}
use Rattle.node_grid.specs.NodeSet.{ids_below}
use Rattle.node_grid.specs.declared.class.Class.TheVariants.{N}
use Rattle.node_steps.specs.Outcome.{Outcome}
use Rattle.scenario.specs.Scenario.{ScenarioView, IsScenario, system_of}
use Rattle.scenario_reading.specs.Verdict.{IsAcceptedValue}
use Rattle.cluster_periods.specs.Record.{PeriodView, period_record}
use Rattle.run_text.specs.Text.{class_text}
use Rattle.run_text.specs.NodeText.{node_text}
use Rattle.run_text.specs.PeriodText.{nodes_text, end_text}
use Rattle.node_alone.specs.Log.{RecordView}
use Rattle.node_alone.specs.Laws.{IsOfRun}
use Rattle.top_call.specs.declared.form.Form.{Form}
use Rattle.top_call.specs.Run.{run_text, IsSafeRun}
use Rattle.top_call.specs.Alone.{log_text}
use Rattle.top_call.specs.Answers.{capacity, IsAcceptedText, IsAcceptedLog}

-- each claimed period of a scenario keeps what is promised, and its line tells whether it is claimed
abbrev pub SafeRunLaw : Type 0
SafeRunLaw = (capacity : ℕ) (sc : ScenarioView capacity) → IsScenario sc → IsSafeRun sc

-- so do those of bytes that are an accepted scenario
abbrev pub AcceptedRunLaw : Type 0
AcceptedRunLaw = (bytes : List ℕ) (sc : ScenarioView capacity) → IsAcceptedText bytes sc → IsSafeRun sc

-- the node whose frames are delivered first changes no text
abbrev pub OrderLaw : Type 0
OrderLaw = (capacity : ℕ) (form : Form) (sc : ScenarioView capacity) (order : ℕ) → run_text form (record sc { order = order }) ≡ run_text form sc

-- two scenarios, over any capacities, whose runs have the same text in each form
abbrev pub HaveOneText : {capacity other : ℕ} → ScenarioView capacity → ScenarioView other → Type 0
HaveOneText a b = (form : Form) → run_text form a ≡ run_text form b

-- a JSON value of a scenario of at most 8 nodes is accepted with room for 8 nodes where it is with room for 16, and has one text
pub record OneTextLaw : Type 0 where
  pub more_room : (d : Data) (small : ScenarioView 8) → IsAcceptedValue d small → (large : ScenarioView 16) × IsAcceptedValue d large × HaveOneText small large
  pub less_room : (d : Data) (large : ScenarioView 16) → IsAcceptedValue d large → large.config.nodes ≤ 8 → (small : ScenarioView 8) × IsAcceptedValue d small × HaveOneText small large

-- what is accepted with room for 8 nodes is accepted with room for 16, with one text, and its run there is safe
abbrev pub FewNodesLaw : Type 0
FewNodesLaw = (d : Data) (small : ScenarioView 8) → IsAcceptedValue d small → (large : ScenarioView 16) × IsAcceptedValue d large × HaveOneText small large × IsSafeRun large

-- ---- the log of a node, and the run that it is a log of

-- the lines of node i, where it has a record, with this text in place of its class
abbrev pub lines_with : PeriodView → ℕ → List ℕ → Option Outcome → List ℕ
lines_with t i class None = []
lines_with t i class (Some r) = node_text t.nodes t.retire i class r

abbrev pub lines_of : PeriodView → List ℕ → ℕ → List ℕ
lines_of t class i = lines_with t i class (slice_get t.records i)

-- what is printed of a period of a scenario's run
abbrev pub replayed : {capacity : ℕ} → ScenarioView capacity → ℕ → PeriodView
replayed sc p = period_record (system_of sc) sc.clock p

-- a replay prints of each node these lines with its class; the log's text has those of its node, with no class, and before them the period
pub record IsNodeOfReplay {capacity : ℕ} (log : RecordView capacity) : Type 0 where
  pub each : (p : ℕ) → nodes_text (replayed log.scenario p)
      ≡ flat_map (λ i. lines_of (replayed log.scenario p) (class_text (slice_index_or (replayed log.scenario p).classes i N)) i) (ids_below log.scenario.config.nodes)
  pub text : log_text log
      ≡ flat_map (λ p. codes "period " ++ decimal p ++ codes "\n" ++ lines_of (replayed log.scenario p) (codes "-") log.id) (ids_below log.scenario.periods)
      ++ end_text log.scenario.periods

-- where the entries of a node's log are what the run of its scenario delivers to the node
abbrev pub AloneTextLaw : Type 0
AloneTextLaw = (capacity : ℕ) (log : RecordView capacity) → IsScenario log.scenario → IsOfRun log → log.id < log.scenario.config.nodes → IsNodeOfReplay log

-- and where the log is that of bytes that are accepted
abbrev pub AcceptedLogLaw : Type 0
AcceptedLogLaw = (bytes : List ℕ) (id : ℕ) (log : RecordView capacity) → IsAcceptedLog bytes id log → IsOfRun log → IsNodeOfReplay log
