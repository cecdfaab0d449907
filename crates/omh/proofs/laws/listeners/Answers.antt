use Rattle.omh.specs.Items.{listeners_law}
use Rattle.omh.proofs.laws.listeners.Goals as goal

pub returns : goal.returns
returns g c = listeners_law g.V.PartialEq.eq g.met.V.Exact.exact
