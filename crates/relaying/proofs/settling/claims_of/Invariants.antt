use Rattle.std.proofs.Common.{get_or, map}
use Rattle.omh_paths.specs.declared.wrapped.Wrapped.TheVariants.{Fault}
use Rattle.protocol.specs.Settled.{plain}
use Rattle.protocol.specs.View.{as_claim}
use Rattle.relay_terms.specs.Terms.{said}
use Rattle.relaying.proofs.Settled.{IsFilledBelow}
use Rattle.relaying.proofs.settling.claims_of.Given as goal

abbrev pub invariant-loop-node : goal.invariant-loop-node
invariant-loop-node g l = IsFilledBelow g.row.N (Fault 0) (λ k. as_claim (plain (get_or (map said l.items) k (Fault 0)))) l.node l.claims
