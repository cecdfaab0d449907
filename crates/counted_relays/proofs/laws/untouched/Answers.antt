use Rattle.counted_relays.proofs.Reaching.{untouched_law}
use Rattle.counted_relays.proofs.laws.untouched.Goals as goal

pub returns : goal.returns
returns g c = untouched_law g.V.PartialEq.eq g.met.V.Exact.exact
