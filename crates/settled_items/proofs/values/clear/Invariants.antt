use Rattle.std.proofs.Common.{◌≡◌, ◌++◌, take, drop}
use Rattle.omh.specs.Flat.{forgotten}
use Rattle.settled_items.proofs.values.clear.Given as goal

abbrev pub invariant-loop-value : goal.invariant-loop-value
invariant-loop-value g l = l.values ≡ forgotten (take l.value-index l.initial.values) ++ drop l.value-index l.initial.values
