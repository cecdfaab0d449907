use Rattle.omh.specs.Settling.{uniform_law}
use Rattle.omh.proofs.laws.uniform.Goals as goal

pub returns : goal.returns
returns g c = uniform_law g.V.PartialEq.eq g.met.V.Exact.exact
