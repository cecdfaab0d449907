use Rattle.std.proofs.Common.{◌≡◌}
use Rattle.worked_alike.proofs.charges.are_noted_alike.Given as goal

abbrev pub invariant-loop-id : goal.invariant-loop-id
invariant-loop-id l = (l.each.nodes ≡ 16) × (l.each.kinds ≡ 16)
