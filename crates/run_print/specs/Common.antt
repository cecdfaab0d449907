-- What two nodes have in common whose lines are printed.
use Rattle.std.proofs.Common.{◌≡◌}
use Rattle.node_steps.specs.Outcome.{Outcome}

-- two nodes that settled and voted the same
pub record AreSettledAlike (one other : Outcome) : Type 0 where
  pub members : one.members ≡ other.members
  pub rows : one.rows ≡ other.rows
  pub done : one.done ≡ other.done
  pub due : one.due ≡ other.due
  pub votes : one.votes ≡ other.votes
