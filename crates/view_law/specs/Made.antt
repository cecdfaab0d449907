-- What a node makes of a period that it goes through with an agreed state, part by part, and its view by these parts.
use Rattle.std.specs.Prelude.{◌≡◌, ◌≢◌, ◌<◌, ℕ, ℤ, Bool, ◌&&◌, ◌||◌, ◌==◌, nat_eq, List, Option, Some, is_some, if◌then◌else◌, slice_index_or}
use Rattle.std.specs.Cmp.Lexicographic.{pointwise}
use Rattle.node_grid.specs.Kinds.{state, claim, overrun, deviate, equivocate}
use Rattle.node_grid.specs.NodeSet.{has_id}
use Rattle.node_grid.specs.Version.{kind_count}
use Rattle.omh_paths.specs.declared.wrapped.Wrapped.{Wrapped}
use Rattle.list_scheduler.specs.declared.schedule.Verdict.{Verdict}
use Rattle.list_scheduler.specs.OneNode.{verdicts}
use Rattle.list_scheduler.specs.Schedule.{no_verdict}
use Rattle.error_reports.specs.Notes.{Notes, of_each, also_noted, also_carried}
use Rattle.agreed_state.specs.declared.config.Config.{Config}
use Rattle.agreed_state.specs.declared.config.Inputs.{Inputs}
use Rattle.agreed_state.specs.Agreed.{AgreedView, agreed_after}
use Rattle.agreed_state.specs.Body.{body}
use Rattle.protocol.specs.Arrival.{is_bad}
use Rattle.protocol.specs.Heard.{rounds_bad}
use Rattle.protocol.specs.Settled.{settled_items, ear_of}
use Rattle.protocol.specs.FurtherKinds.{convicts_member}
use Rattle.protocol.specs.Configured.{setting_of}
use Rattle.protocol.specs.View.{Kept, Received, claims_settled, due_channels, own_values, votes_on, deviates, other_body, empty_row, synced_by, View}
use Rattle.protocol.specs.View.Mode.{Full, Joining}

-- the parts of what a node makes of a period
pub record Parts : Type 0 where
  pub sync : List ℕ  -- the other nodes whose frames of the sync slot were good
  pub done : List (Wrapped ℕ)  -- the settled claims, by node
  pub due : List ℕ
  pub own : List (Option ℤ)  -- its own values, by channel
  pub votes : List (Option ℤ)  -- by channel
  pub found : List ℕ  -- its own row
  pub rows : List (Option (List ℕ))  -- the settled rows, by node
  pub carried : List ℕ  -- a mask for each node
  pub after : AgreedView  -- the state after the period

-- whom it convicts over the claims, and whom over the rows
pub record Blamed : Type 0 where
  pub convicted : List ℕ
  pub late : List ℕ

-- its notes as the period begins, and as each of these steps leaves them: the sync slot, the frames of the claims, the verdicts,
-- convictions over the claims, the data slot, and, carried over, the frames of the rows and convictions over the rows
pub record Noted : Type 0 where
  pub begun : Notes
  pub sync : Notes
  pub claims : Notes
  pub judged : Notes
  pub convicted : Notes
  pub values : Notes
  pub rows : Notes
  pub late : Notes

-- what these verdicts say against node j
abbrev pub by_verdicts : List Verdict → ℕ → ℕ → Bool
by_verdicts judged j b = ((slice_index_or judged j no_verdict).claim && b == claim) || ((slice_index_or judged j no_verdict).overrun && b == overrun)

-- the notes of node i as it goes into a period with this: the row is what was carried over
abbrev pub notes_begun : {N : ℕ} → Config N → ℕ → Kept → Notes
notes_begun config i k = record { nodes = config.nodes; me = i; kinds = kind_count config.version; row = k.carried; carried = empty_row (setting_of config) }

-- the view of a node that went into the period with k and through it with state a
abbrev pub view_made : Kept → AgreedView → Parts → View
view_made k a w = record {
  mode = if is_some k.state then Full else Joining;
  before = Some a;
  sync = w.sync;
  done = w.done;
  due = w.due;
  own = w.own;
  votes = w.votes;
  found = w.found;
  rows = w.rows;
  kept = record { state = Some w.after; carried = w.carried; votes = w.votes; owns = w.own };
}

-- node i goes into period p with k, is given g, has x of the frames and goes through it with state a
module _ {N : ℕ} (config : Config N) (i p : ℕ) (g : Inputs) (k : Kept) (x : Received) (a : AgreedView) where
  -- whom it blames, if a row has room for the kind
  pub record AreBlamed (b : Blamed) : Type 0 where
    pub convicted : (j : ℕ) → j < config.nodes → j ≢ i → equivocate < kind_count config.version
        → has_id b.convicted j ≡ convicts_member nat_eq (ear_of config.m i (is_some k.state) a.standing.members x.done) j
    pub late : (j : ℕ) → j < config.nodes → j ≢ i → equivocate < kind_count config.version
        → has_id b.late j ≡ convicts_member (pointwise ◌==◌) (ear_of config.m i (is_some k.state) a.standing.members x.report) j

  -- its notes follow from each other
  pub record AreNoted (w : Parts) (b : Blamed) (n : Noted) : Type 0 where
    pub begun : n.begun ≡ notes_begun config i k
    pub sync : n.sync ≡ also_noted N n.begun (λ j e. is_bad (x.sync j) e || (other_body (body config a) (x.sync j) && e == state))
    pub claims : n.claims ≡ also_noted N n.sync (λ j e. rounds_bad config.m x.done j e)
    pub judged : n.judged ≡ also_noted N n.claims (by_verdicts (verdicts N config.graph a.standing.members a.copies w.done))
    pub convicted : n.convicted ≡ also_noted N n.judged (of_each b.convicted equivocate)
    pub values : n.values ≡ also_noted N n.convicted (λ j e. is_bad (x.values j) e || (deviates (setting_of config) w.due w.votes x j && e == deviate))
    pub rows : n.rows ≡ also_carried N n.values (λ j e. rounds_bad config.m x.report j e)
    pub late : n.late ≡ also_carried N n.rows (of_each b.late equivocate)

  -- the parts are what `protocol` makes of each
  pub record IsMadeOf (w : Parts) (b : Blamed) (n : Noted) : Type 0 where
    pub sync : w.sync ≡ synced_by (setting_of config) i x
    pub done : w.done ≡ claims_settled (setting_of config) i (is_some k.state) a g x
    pub due : w.due ≡ due_channels (setting_of config) a w.done
    pub own : w.own ≡ own_values (setting_of config) i p g k
    pub votes : w.votes ≡ votes_on (setting_of config) i (is_some k.state) a w.done w.due w.own x
    pub blamed : AreBlamed b
    pub notes : AreNoted w b n
    pub found : w.found ≡ (if is_some k.state then n.values.row else empty_row (setting_of config))
    pub rows : w.rows ≡ settled_items (pointwise ◌==◌) N config.m i (is_some k.state) a.standing.members x.report w.found
    pub carried : w.carried ≡ n.late.carried
    pub after : w.after ≡ agreed_after N config p a w.done w.rows
