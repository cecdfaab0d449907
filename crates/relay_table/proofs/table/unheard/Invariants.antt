use Rattle.std.proofs.Common.{◌≡◌, map, replicate}
use Rattle.omh_paths.specs.declared.wrapped.Wrapped.TheVariants.{Fault}
use Rattle.relay_terms.specs.Terms.{said}
use Rattle.relay_table.proofs.table.unheard.Given as goal

abbrev pub invariant-loop : goal.invariant-loop
invariant-loop g l = map said l.terms.items ≡ replicate l.counter (Fault 0)
