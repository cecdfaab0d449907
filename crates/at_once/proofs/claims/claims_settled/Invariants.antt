use Rattle.std.specs.Prelude.{nat_eq}
use Rattle.omh_paths.specs.declared.wrapped.Wrapped.TheVariants.{Fault}
use Rattle.protocol.specs.Arrival.{claim_form}
use Rattle.protocol.specs.View.{as_claim}
use Rattle.at_once.specs.Phases.{node_item}
use Rattle.at_once.proofs.Filled.{IsFilledBelow}
use Rattle.at_once.proofs.claims.claims_settled.Given as goal

abbrev pub invariant-loop-c : goal.invariant-loop-c
invariant-loop-c g l = IsFilledBelow g.row.N (Fault 0) (λ c. as_claim (node_item nat_eq claim_form l.phase l.claims l.i c)) l.c l.done
