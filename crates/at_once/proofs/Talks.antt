-- What nodes say of themselves in a period, and what of it is known before all of its slots.
use Rattle.std.proofs.Common.{ℕ, ◌≡◌, Some, ap, ◌∙◌}
use Rattle.agreed_state.specs.Agreed.{AgreedView}
use Rattle.protocol.specs.View.{own_claim, goes_with}
use Rattle.protocol.specs.Cluster.{view}
use Rattle.protocol.specs.Run.{run, goes_in, members_in, claim_sent, so_far, after_sync, after_values, members_of, due_of}
use Rattle.scenario.specs.Scenario.{ScenarioView, system_of}
use Rattle.at_once.specs.Parts.{setting, goes, has, given, through}
use Rattle.at_once.proofs.SoFar.{before_of, due_by_claims, found_by_values}

module _ {N : ℕ} (sc : ScenarioView N) (p i : ℕ) where
  -- the state with which a node goes through the period is known once the sync slot is over
  pub before_is : (so_far (system_of sc) p (goes_in (system_of sc) p) i (after_sync (system_of sc) p (goes_in (system_of sc) p) i)).before ≡ through sc p i
  before_is = before_of (system_of sc) p i

  pub members_are : members_of (system_of sc) p (goes_in (system_of sc) p) i ≡ members_in (through sc p i)
  members_are = ap members_in before_is

  -- a Full node goes through it with the state that it had
  pub full_through : (a : AgreedView) → (goes sc p i).state ≡ Some a → through sc p i ≡ Some a
  full_through a e = ap (goes_with (setting sc p i) i (has sc p i)) e

  -- and claims by it
  pub claim_is : (a : AgreedView) → through sc p i ≡ Some a
      → claim_sent i (given sc p i) (so_far (system_of sc) p (goes_in (system_of sc) p) i (after_sync (system_of sc) p (goes_in (system_of sc) p) i)).before ≡ own_claim i (given sc p i) a
  claim_is a e = ap (claim_sent i (given sc p i)) (before_is ∙ e)

  -- due channels by the claims, and its row by the values
  pub due_is : due_of (system_of sc) p (goes_in (system_of sc) p) i ≡ (view (run (system_of sc)) i p).due
  due_is = due_by_claims (system_of sc) p i

  pub found_is : (so_far (system_of sc) p (goes_in (system_of sc) p) i (after_values (system_of sc) p (goes_in (system_of sc) p) i)).found ≡ (view (run (system_of sc)) i p).found
  found_is = found_by_values (system_of sc) p i
