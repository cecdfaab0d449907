-- A node's view of a period, and what it goes into the next one with, by the parts.
use Rattle.std.proofs.Common.{ℕ, zero, suc, ◌≡◌, ◌≢◌, ◌<◌, ◌&&◌, ◌||◌, ◌==◌, if◌then◌else◌, None, Some, refl}
use Rattle.std.specs.Prelude.{nat_eq}
use Rattle.std.specs.Cmp.Lexicographic.{pointwise}
use Rattle.node_grid.specs.NodeSet.{has_id}
use Rattle.node_grid.specs.Kinds.{deviate, equivocate}
use Rattle.node_grid.specs.Version.{kind_count}
use Rattle.fault_classes.proofs.Sets.{has_where}
use Rattle.fault_classes.specs.Plan.{restarts_at}
use Rattle.list_scheduler.specs.OneNode.{verdicts}
use Rattle.error_reports.specs.Notes.{also_noted, also_carried, of_each}
use Rattle.agreed_state.specs.Agreed.{AgreedView, agreed_after}
use Rattle.protocol.specs.Arrival.{is_bad}
use Rattle.protocol.specs.Heard.{rounds_bad}
use Rattle.protocol.specs.Settled.{settled_items}
use Rattle.protocol.specs.FurtherKinds.{convicts_member}
use Rattle.protocol.specs.View.{opened, cold_view, claims_settled, due_channels, own_values, votes_on, deviates, empty_row}
use Rattle.protocol.specs.Cluster.{view}
use Rattle.protocol.specs.Run.{run}
use Rattle.scenario.specs.Scenario.{ScenarioView, system_of}
use Rattle.heard_states.specs.Slot.{noted_states}
use Rattle.view_law.specs.Made.{notes_begun, by_verdicts, view_made}
use Rattle.view_law.specs.Laws.{ViewLaw, ColdLaw, BeginningLaw, NextLaw}
use Rattle.at_once.specs.Parts.{setting, goes, has, given, is_full, through, claims_ear, rows_ear, done_in, due_in, own_in, votes_in, blamed_in, notes_synced, notes_claimed, notes_judged, notes_convicted, notes_voted, notes_reported, notes_late, found_in, rows_in, after_in, parts_in, noted_in}
use Rattle.at_once.specs.Kept.{kept_before}

-- each part is what it is defined as
module _ {N : ℕ} (sc : ScenarioView N) (p i : ℕ) (a : AgreedView) where
  pub done_is : done_in sc p i a ≡ claims_settled (setting sc p i) i (is_full sc p i) a (given sc p i) (has sc p i)
  unfolding done_in
  done_is = refl

  pub due_is : due_in sc p i a ≡ due_channels (setting sc p i) a (done_in sc p i a)
  unfolding due_in
  due_is = refl

  pub own_is : own_in sc p i a ≡ own_values (setting sc p i) i p (given sc p i) (goes sc p i)
  unfolding own_in
  own_is = refl

  pub votes_is : votes_in sc p i a ≡ votes_on (setting sc p i) i (is_full sc p i) a (done_in sc p i a) (due_in sc p i a) (own_in sc p i a) (has sc p i)
  unfolding votes_in
  votes_is = refl

  pub synced_is : notes_synced sc p i a ≡ also_noted N (notes_begun sc.config i (goes sc p i)) (noted_states sc.config a (has sc p i).sync)
  unfolding notes_synced
  synced_is = refl

  pub claimed_is : notes_claimed sc p i a ≡ also_noted N (notes_synced sc p i a) (λ j e. rounds_bad sc.config.m (has sc p i).done j e)
  unfolding notes_claimed
  claimed_is = refl

  pub judged_is : notes_judged sc p i a ≡ also_noted N (notes_claimed sc p i a) (by_verdicts (verdicts N sc.config.graph a.standing.members a.copies (done_in sc p i a)))
  unfolding notes_judged
  judged_is = refl

  pub convicted_is : notes_convicted sc p i a ≡ also_noted N (notes_judged sc p i a) (of_each (blamed_in sc p i a).convicted equivocate)
  unfolding notes_convicted
  convicted_is = refl

  pub voted_is : notes_voted sc p i a ≡ also_noted N (notes_convicted sc p i a) (λ j e. is_bad ((has sc p i).values j) e || (deviates (setting sc p i) (due_in sc p i a) (votes_in sc p i a) (has sc p i) j && e == deviate))
  unfolding notes_voted
  voted_is = refl

  pub reported_is : notes_reported sc p i a ≡ also_carried N (notes_voted sc p i a) (λ j e. rounds_bad sc.config.m (has sc p i).report j e)
  unfolding notes_reported
  reported_is = refl

  pub late_is : notes_late sc p i a ≡ also_carried N (notes_reported sc p i a) (of_each (blamed_in sc p i a).late equivocate)
  unfolding notes_late
  late_is = refl

  pub found_is : found_in sc p i a ≡ (if is_full sc p i then (notes_voted sc p i a).row else empty_row (setting sc p i))
  unfolding found_in
  found_is = refl

  pub rows_is : rows_in sc p i a ≡ settled_items (pointwise ◌==◌) N sc.config.m i (is_full sc p i) a.standing.members (has sc p i).report (found_in sc p i a)
  unfolding rows_in
  rows_is = refl

  pub after_is : after_in sc p i a ≡ agreed_after N sc.config p a (done_in sc p i a) (rows_in sc p i a)
  unfolding after_in
  after_is = refl

  pub blamed_claims : (j : ℕ) → j < sc.config.nodes → j ≢ i → equivocate < kind_count sc.config.version → has_id (blamed_in sc p i a).convicted j ≡ convicts_member nat_eq (claims_ear sc p i a) j
  unfolding blamed_in
  blamed_claims j low other room = has_where (convicts_member nat_eq (claims_ear sc p i a)) sc.config.nodes j low

  pub blamed_rows : (j : ℕ) → j < sc.config.nodes → j ≢ i → equivocate < kind_count sc.config.version → has_id (blamed_in sc p i a).late j ≡ convicts_member (pointwise ◌==◌) (rows_ear sc p i a) j
  unfolding blamed_in
  blamed_rows j low other room = has_where (convicts_member (pointwise ◌==◌) (rows_ear sc p i a)) sc.config.nodes j low

-- the view of a node that goes through a period with a state
pub view_is : ViewLaw → {N : ℕ} (sc : ScenarioView N) (p i : ℕ) (a : AgreedView) → through sc p i ≡ Some a → view (run (system_of sc)) i p ≡ view_made (goes sc p i) a (parts_in sc p i a)
view_is law {N} sc p i a goes-by = law N sc.config (system_of sc) refl p i a goes-by (parts_in sc p i a) (blamed_in sc p i a) (noted_in sc p i a) record {
  sync = refl;
  done = done_is sc p i a;
  due = due_is sc p i a;
  own = own_is sc p i a;
  votes = votes_is sc p i a;
  blamed = record { convicted = blamed_claims sc p i a; late = blamed_rows sc p i a };
  notes = record { begun = refl; sync = synced_is sc p i a; claims = claimed_is sc p i a; judged = judged_is sc p i a; convicted = convicted_is sc p i a; values = voted_is sc p i a; rows = reported_is sc p i a; late = late_is sc p i a };
  found = found_is sc p i a;
  rows = rows_is sc p i a;
  carried = refl;
  after = after_is sc p i a;
}

-- that of one that goes through it with none
pub cold_is : ColdLaw → {N : ℕ} (sc : ScenarioView N) (p i : ℕ) → through sc p i ≡ None → view (run (system_of sc)) i p ≡ cold_view (setting sc p i) i (has sc p i)
cold_is law {N} sc p i none = law N sc.config (system_of sc) refl p i none

-- what a node goes into a period with
pub goes_is : BeginningLaw → NextLaw → {N : ℕ} (sc : ScenarioView N) (p i : ℕ) → goes sc p i ≡ opened (system_of sc).setting (restarts_at sc.plan i p) (kept_before sc p i)
goes_is first later sc zero i = first (system_of sc) i
goes_is first later sc (suc p) i = later (system_of sc) p i
