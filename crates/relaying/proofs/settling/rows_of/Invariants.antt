use Rattle.std.proofs.Common.{get_or, map, None}
use Rattle.omh_paths.specs.declared.wrapped.Wrapped.TheVariants.{Fault}
use Rattle.protocol.specs.Settled.{plain}
use Rattle.relay_terms.specs.Terms.{said}
use Rattle.relaying.proofs.Settled.{IsFilledBelow}
use Rattle.relaying.proofs.settling.rows_of.Given as goal

abbrev pub invariant-loop-node : goal.invariant-loop-node
invariant-loop-node g l = IsFilledBelow g.row.N None (λ k. (plain (get_or (map said l.items) k (Fault 0)))) l.node l.rows
