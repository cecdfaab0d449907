use Rattle.std.proofs.Common.{ℕ, ◌≡◌, ◌<◌, map, get_or}
use Rattle.omh_paths.specs.declared.wrapped.Wrapped.TheVariants.{Fault}
use Rattle.relay_terms.specs.Terms.{said}
use Rattle.relay_table.proofs.table.forget.Given as goal

abbrev pub invariant-loop-k : goal.invariant-loop-k
invariant-loop-k g l = (i : ℕ) → i < l.k → get_or (map said l.terms) i (Fault 0) ≡ Fault 0
