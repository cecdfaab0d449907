-- What a node owes in each slot.
use Rattle.std.specs.Prelude.{◌≡◌, ◌<◌, ◌≤◌, ℕ, List, map, Some}
use Rattle.node_grid.specs.NodeSet.{IsIdSet}
use Rattle.omh_paths.specs.Wrapped.{wrapped}
use Rattle.omh.specs.Heard.{Hearing}
use Rattle.frames.specs.Content.Content.{Done0, DoneRelay, Data, Report0, ReportRelay}
use Rattle.error_detect.specs.Watching.{Watch}
use Rattle.agreed_state.specs.declared.config.Config.{Config}
use Rattle.agreed_state.specs.declared.config.Inputs.{Inputs}
use Rattle.agreed_state.specs.Agreed.{AgreedView}
use Rattle.protocol.specs.Heard.{heard, paths_of}
use Rattle.protocol.specs.View.{Kept, Received, own_claim, own_in}
use Rattle.protocol.specs.Saying.{if_full}
use Rattle.node_steps.specs.Outcome.{Outcome}
use Rattle.node_steps.specs.Parts.{Found}
use Rattle.node_steps.specs.Steps.{said_by}
use Rattle.node_steps.specs.Stages.{due_of, own_of, row_of, in_done, in_data, in_report}

pub record Owes {N : ℕ} (config : Config N) (i p : ℕ) (g : Inputs) (k : Kept) (x : Received) (a : AgreedView) : Type 0 where
  pub claim : (rows : Hearing (List ℕ)) (f : Found) (w : Watch) (o : Outcome) → said_by (in_done config i p g k x a 0 rows f w o) (Some a) ≡ if_full k (Done0 (own_claim i g a))
  pub claims : (r : ℕ) (rows : Hearing (List ℕ)) (f : Found) (w : Watch) (o : Outcome) → 0 < r → r ≤ config.m
      → said_by (in_done config i p g k x a r rows f w o) (Some a) ≡ if_full k (DoneRelay (map (λ path. wrapped (heard x.done path)) (paths_of a.standing.members r i)))
  pub values : (rows : Hearing (List ℕ)) (f : Found) (w : Watch) (o : Outcome) → said_by (in_data config i p g k x a rows f w o) (Some a) ≡ if_full k (Data (map (own_in (own_of config i p g k x a)) (due_of config i p g k x a)))
  pub row : (w : Watch) (o : Outcome) → said_by (in_report config i p g k x a 0 w o) (Some a) ≡ if_full k (Report0 (row_of config i p g k x a))
  pub rows : (r : ℕ) (w : Watch) (o : Outcome) → 0 < r → r ≤ config.m
      → said_by (in_report config i p g k x a r w o) (Some a) ≡ if_full k (ReportRelay (map (λ path. wrapped (heard x.report path)) (paths_of a.standing.members r i)))

-- Law: the frames of a node that goes through a period with state a are owed
abbrev pub FramesAreOwed : Type 0
FramesAreOwed = (N : ℕ) (config : Config N) (i p : ℕ) (g : Inputs) (k : Kept) (x : Received) (a : AgreedView) → IsIdSet config.nodes a.standing.members → Owes config i p g k x a
