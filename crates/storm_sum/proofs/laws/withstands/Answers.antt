use Rattle.storm_sum.proofs.Claimed.{withstanding_law}
use Rattle.storm_sum.proofs.laws.withstands.Goals as goal

pub returns : goal.returns
returns c = withstanding_law c.accepted.ensures c.unrefused.ensures c.weathered.ensures c.claims.ensures c.promises.ensures
