use Rattle.omh_paths.specs.MajorityLaws.{majority_law}
use Rattle.omh_paths.proofs.laws.majorities.Goals as goal

pub returns : goal.returns
returns g c = majority_law g.V.PartialEq.eq g.met.V.Exact.exact
