-- What of a node's period is known before all of its slots, in any run.
use Rattle.std.proofs.Common.{ℕ, ◌≡◌, sym, ap, ◌∙◌}
use Rattle.protocol.specs.View.{View, goes_with}
use Rattle.protocol.specs.ViewLaws.{goes_before}
use Rattle.protocol.specs.Cluster.{view}
use Rattle.protocol.specs.Run.{System, run, goes_in, so_far, after_sync, after_values, due_of, delivered}
use Rattle.protocol.specs.RunLaws.{view_is, before_is, due_of_is, found_is}

module _ (sys : System) (p i : ℕ) where
  -- the state with which it goes through the period, once the sync slot is over
  pub before_of : (so_far sys p (goes_in sys p) i (after_sync sys p (goes_in sys p) i)).before ≡ goes_with sys.setting i (delivered sys p (goes_in sys p) i) (goes_in sys p i).state
  before_of =
      sym (before_is sys p i) ∙ ap (λ (v : View). v.before) (view_is sys i p)
      ∙ goes_before sys.setting i p (sys.inputs i p) (goes_in sys p i) (delivered sys p (goes_in sys p) i) (goes_in sys p i).state

  -- due channels by the claims, and its row by the values
  pub due_by_claims : due_of sys p (goes_in sys p) i ≡ (view (run sys) i p).due
  due_by_claims = sym (due_of_is sys p i).0

  pub found_by_values : (so_far sys p (goes_in sys p) i (after_values sys p (goes_in sys p) i)).found ≡ (view (run sys) i p).found
  found_by_values = sym (found_is sys p i)
