use Rattle.std.proofs.Common.{◌≢◌, All}
use Rattle.omh_paths.specs.declared.wrapped.Wrapped.TheVariants.{Fault}
use Rattle.worked_chains.proofs.draws.Draws.told.Given as goal

abbrev pub invariant-loop-k : goal.invariant-loop-k
invariant-loop-k l = All (λ v. v ≢ Fault 255) l.told
