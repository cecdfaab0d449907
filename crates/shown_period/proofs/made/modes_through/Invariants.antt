use Rattle.std.proofs.Common.{ℕ, ◌≡◌, ◌<◌, length, get_or}
use Rattle.node_grid.specs.NodeSet.{has_id}
use Rattle.node_core.specs.declared.outcome.Mode.TheVariants.{Cold}
use Rattle.shared_states.specs.Sharing.{state_at}
use Rattle.shown_period.specs.Outcomes.{mode_with}
use Rattle.shown_period.proofs.made.modes_through.Given as goal

abbrev pub invariant-loop-i : goal.invariant-loop-i
invariant-loop-i g l = (length l.modes ≡ g.row.N) × ((k : ℕ) → k < l.i → get_or l.modes k Cold ≡ mode_with (has_id l.full k) (state_at l.states k))
