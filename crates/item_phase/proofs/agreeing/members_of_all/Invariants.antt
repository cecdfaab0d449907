use Rattle.std.proofs.Common.{ℕ, ◌≡◌, ◌<◌, true, ◌==◌}
use Rattle.std.specs.Cmp.Lexicographic.{pointwise}
use Rattle.node_grid.specs.NodeSet.{has_id}
use Rattle.heard_links.specs.Talks.{members_at}
use Rattle.item_phase.proofs.agreeing.members_of_all.Given as goal

abbrev pub invariant-loop-i : goal.invariant-loop-i
invariant-loop-i g l = (k : ℕ) → k < l.i → has_id l.phase.awake k ≡ true → pointwise ◌==◌ l.members (members_at l.phase k) ≡ true
