-- What a printer gathered of the lines of one node of a period that was worked out for all together.
use Rattle.std.specs.Prelude.{◌≡◌, ◌≤◌, ℕ, Some, None, List, ◌++◌}
use Rattle.list_scheduler.specs.Copies.{CopyTable, copy_at, running}
use Rattle.agreed_state.specs.Agreed.{AgreedView}
use Rattle.cluster_periods.specs.Record.{PeriodView}
use Rattle.shared_states.specs.Sharing.{state_at}
use Rattle.shown_period.specs.declared.shown.Shown.{Shown}
use Rattle.shown_period.specs.Outcomes.{outcome_at, HasBeliefs}
use Rattle.run_text.specs.NodeText.{beliefs_text}
use Rattle.run_text.specs.PeriodText.{head_text, nodes_text}
use Rattle.run_text.specs.ClockText.{clock_text}

-- the lines of a period but those of its frames
abbrev pub untraced_text : PeriodView → List ℕ
untraced_text t = head_text t ++ nodes_text t ++ clock_text t t.clock

-- no copy of a task from this number on runs
abbrev pub IsIdleFrom : ℕ → CopyTable → Type 0
IsIdleFrom tasks copies = (t q : ℕ) → tasks ≤ t → running (copy_at copies t q) ≡ None

-- a record of a period of at most N nodes, with a place for what each believes, in which only copies of tasks run
pub record IsPrintable {N : ℕ} (s : Shown N) : Type 0 where
  pub nodes : s.head.nodes ≤ N
  pub tasks : s.head.tasks ≤ 32
  pub beliefs : HasBeliefs s.made
  pub idle : (i : ℕ) (a : AgreedView) → state_at s.made.states i ≡ Some a → IsIdleFrom s.head.tasks a.copies

-- the text of what node i believes
abbrev pub believed : {N : ℕ} → Shown N → ℕ → List ℕ
believed s i = beliefs_text s.head.nodes s.head.retire (outcome_at s.made i) (outcome_at s.made i).agreed
