use Rattle.std.proofs.Common.{◌≡◌, replicate}
use Rattle.shared_states.proofs.states.repeated.Given as goal

abbrev pub invariant-loop : goal.invariant-loop
invariant-loop g l = l.states.items ≡ replicate l.counter l.state
