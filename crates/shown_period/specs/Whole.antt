-- What is shown of a period, seen as its record.
use Rattle.std.specs.Prelude.{◌≡◌, ◌<◌, ℕ, [], slice_index}
use Rattle.protocol.specs.Cluster.{view}
use Rattle.protocol.specs.Run.{run}
use Rattle.node_steps.specs.Outcome.{Outcome}
use Rattle.node_steps.specs.Stages.{outcome_of}
use Rattle.scenario.specs.Scenario.{ScenarioView, system_of}
use Rattle.cluster_periods.specs.Record.{PeriodView}
use Rattle.shared_states.specs.declared.belief.Belief.{Belief}
use Rattle.shared_states.specs.Sharing.{first_states}
use Rattle.shown_period.specs.declared.made.Made.{Made}
use Rattle.shown_period.specs.declared.shown.Shown.{Shown}
use Rattle.shown_period.specs.Outcomes.{outcome_at, outcomes, HasBeliefs}
use Rattle.shown_period.specs.Heads.{IsBefore, clock_of_head}

-- the record of a period, without its frames
abbrev pub record_of : {N : ℕ} → Shown N → PeriodView
record_of s = record {
  period = s.head.period;
  nodes = s.head.nodes;
  m = s.head.m;
  retire = s.head.retire;
  reference = s.head.reference;
  members = s.head.members;
  budget = s.head.budget;
  within = s.head.within;
  claim = s.head.claim;
  classes = s.head.classes;
  records = outcomes s.made s.head.nodes;
  sent = [];
  clock = clock_of_head s.head;
}

-- before the first period of a scenario
pub record IsFirst {N : ℕ} (sc : ScenarioView N) (s : Shown N) : Type 0 where
  pub before : IsBefore sc 0 s.head
  pub states : s.made.states ≡ first_states N sc.config
  pub beliefs : HasBeliefs s.made

-- what the nodes in use made of period p of the run
abbrev pub AreMade : {N : ℕ} → ScenarioView N → ℕ → Made N → Type 0
AreMade sc p made = (i : ℕ) → i < sc.config.nodes → outcome_at made i ≡ outcome_of (view (run (system_of sc)) i p)

-- a belief is that of an outcome
pub record Believes {N : ℕ} (o : Outcome) (b : Belief N) : Type 0 where
  pub done : o.done ≡ b.done
  pub rows : o.rows ≡ b.rows
  pub due : o.due ≡ b.due.items
  pub votes : o.votes ≡ b.votes

-- two nodes settled and voted the same
pub record AreAlike (one other : Outcome) : Type 0 where
  pub done : one.done ≡ other.done
  pub rows : one.rows ≡ other.rows
  pub due : one.due ≡ other.due
  pub votes : one.votes ≡ other.votes

-- Law: nodes of one group settled and voted the same
abbrev pub GroupLaw : Type 0
GroupLaw = (N : ℕ) (made : Made N) (i j : ℕ) → slice_index made.group i ≡ slice_index made.group j → AreAlike (outcome_at made i) (outcome_at made j)
