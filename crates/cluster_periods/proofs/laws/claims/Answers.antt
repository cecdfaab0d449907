use Rattle.cluster_periods.proofs.Claims.{within_if, if_within, claim_is, is_claim}
use Rattle.cluster_periods.proofs.laws.claims.Goals as goal

pub returns : goal.returns
returns c sys clock p = record { within = (within_if sys p, if_within sys p); claim = (claim_is sys p, is_claim sys p) }
