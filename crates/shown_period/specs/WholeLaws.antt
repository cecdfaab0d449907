-- Lemmas for callers: the outcome of a node from its parts, and what is shown of one node.
use Rattle.std.proofs.Common.{ℕ, ◌≡◌, ◌<◌, Some, Option, refl, ap, ◌∙◌}
use Rattle.std.specs.Prelude.{slice_get, slice_index}
use Rattle.protocol.specs.View.{View}
use Rattle.protocol.specs.Run.{members_in}
use Rattle.node_core.specs.Modes.{mode_of}
use Rattle.node_steps.specs.Stages.{outcome_of}
use Rattle.cluster_periods.specs.RecordLaws.{recorded}
use Rattle.shared_states.specs.declared.belief.Belief.{Belief}
use Rattle.shared_states.specs.Sharing.{state_at}
use Rattle.shown_period.specs.declared.made.Made.{Made}
use Rattle.shown_period.specs.declared.shown.Shown.{Shown}
use Rattle.shown_period.specs.Outcomes.{mode_at, members_at, sync_at, found_at, belief_at, done_in, rows_in, due_in, votes_in, outcome_at}
use Rattle.shown_period.specs.Whole.{record_of, AreAlike}

-- what is shown of a node in use
pub shown_at : {N : ℕ} (s : Shown N) (i : ℕ) → i < s.head.nodes → slice_get (record_of s).records i ≡ Some (outcome_at s.made i)
shown_at s i low = recorded (outcome_at s.made) s.head.nodes i low

-- nodes of one group settled and voted the same
pub alike_in_group : {N : ℕ} (made : Made N) (i j : ℕ) → slice_index made.group i ≡ slice_index made.group j → AreAlike (outcome_at made i) (outcome_at made j)
alike_in_group {N} made i j e =
    let same : belief_at made i ≡ belief_at made j = ap (λ (g : ℕ). slice_get made.beliefs.items g) e in record {
      done = ap (λ (b : Option (Belief N)). done_in b) same;
      rows = ap (λ (b : Option (Belief N)). rows_in b) same;
      due = ap (λ (b : Option (Belief N)). due_in b) same;
      votes = ap (λ (b : Option (Belief N)). votes_in b) same;
    }

-- the parts of a node's period, as this view has them
pub record IsPart {N : ℕ} (made : Made N) (i : ℕ) (b : Belief N) (w : View) : Type 0 where
  pub mode : mode_of (mode_at made i) ≡ w.mode
  pub agreed : state_at made.states i ≡ w.kept.state
  pub members : members_at made i ≡ members_in w.before
  pub believes : belief_at made i ≡ Some b
  pub done : b.done ≡ w.done
  pub rows : b.rows ≡ w.rows
  pub due : b.due.items ≡ w.due
  pub votes : b.votes ≡ w.votes
  pub found : found_at made i ≡ w.found
  pub sync : sync_at made i ≡ w.sync

-- make its outcome
pub outcome_by_parts : {N : ℕ} (made : Made N) (i : ℕ) (b : Belief N) (w : View) → IsPart made i b w → outcome_at made i ≡ outcome_of w
outcome_by_parts {N} made i b w h =
    let done : done_in (belief_at made i) ≡ w.done = ap (λ (o : Option (Belief N)). done_in o) h.believes ∙ h.done in
    let rows : rows_in (belief_at made i) ≡ w.rows = ap (λ (o : Option (Belief N)). rows_in o) h.believes ∙ h.rows in
    let due : due_in (belief_at made i) ≡ w.due = ap (λ (o : Option (Belief N)). due_in o) h.believes ∙ h.due in
    let votes : votes_in (belief_at made i) ≡ w.votes = ap (λ (o : Option (Belief N)). votes_in o) h.believes ∙ h.votes in
    rw (h.mode, h.agreed, h.members, done, rows, due, votes, h.found, h.sync) refl
