use Rattle.std.proofs.Common.{ℕ, ◌≡◌, ◌<◌, true, ◌==◌}
use Rattle.std.specs.Cmp.Lexicographic.{pointwise}
use Rattle.node_grid.specs.NodeSet.{has_id}
use Rattle.heard_links.specs.Talks.{members_at}
use Rattle.heard_links.proofs.phase.Phase.has_one_membership.Given as goal

abbrev pub invariant-loop-i : goal.invariant-loop-i
invariant-loop-i g l = (k : ℕ) → k < l.i → has_id l.self.awake k ≡ true → pointwise ◌==◌ (members_at l.self l.first) (members_at l.self k) ≡ true
