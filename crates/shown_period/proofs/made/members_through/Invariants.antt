use Rattle.std.proofs.Common.{ℕ, ◌≡◌, ◌<◌, [], length, get_or}
use Rattle.protocol.specs.Run.{members_in}
use Rattle.shared_states.specs.Sharing.{state_at}
use Rattle.shown_period.proofs.made.members_through.Given as goal

abbrev pub invariant-loop-i : goal.invariant-loop-i
invariant-loop-i g l = (length l.members ≡ g.row.N) × ((k : ℕ) → k < l.i → get_or l.members k [] ≡ members_in (state_at l.states k))
