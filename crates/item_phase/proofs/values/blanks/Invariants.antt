use Rattle.std.proofs.Common.{◌≡◌, replicate}
use Rattle.omh_paths.specs.declared.wrapped.Wrapped.TheVariants.{Fault}
use Rattle.item_phase.proofs.values.blanks.Given as goal

abbrev pub invariant-loop : goal.invariant-loop
invariant-loop g l = l.values.items ≡ replicate l.counter (Fault 0)
