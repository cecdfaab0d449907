use Rattle.std.proofs.Common.{◌≡◌, length}
use Rattle.shown_period.proofs.made.no_beliefs.Given as goal

abbrev pub invariant-loop : goal.invariant-loop
invariant-loop g l = length l.beliefs.items ≡ l.counter
