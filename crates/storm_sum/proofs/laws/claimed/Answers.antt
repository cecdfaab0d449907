use Rattle.storm_sum.proofs.Claimed.{claimed_law}
use Rattle.storm_sum.proofs.laws.claimed.Goals as goal

pub returns : goal.returns
returns c = claimed_law c.weathered.ensures c.claims.ensures
