use Rattle.std.proofs.Common.{◌≡◌, ℕ, true}
use Rattle.node_grid.specs.NodeSet.{has_id}
use Rattle.at_once.specs.Values.{due_at}
use Rattle.at_once.proofs.dues.GroupBeliefs.alike.Given as goal

abbrev pub invariant-loop-i : goal.invariant-loop-i
invariant-loop-i g l = (j : ℕ) → has_id l.alike j ≡ true → due_at (l.self.groups.now, l.self.beliefs.now) j ≡ due_at (l.self.groups.now, l.self.beliefs.now) l.node
