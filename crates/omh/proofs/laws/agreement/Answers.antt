use Rattle.omh.specs.Settling.{agreement_law}
use Rattle.omh.proofs.laws.agreement.Goals as goal

pub returns : goal.returns
returns g c = agreement_law g.V.PartialEq.eq g.met.V.Exact.exact
