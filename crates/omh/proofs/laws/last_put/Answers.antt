use Rattle.omh.proofs.Puts.{last_put_law}
use Rattle.omh.proofs.laws.last_put.Goals as goal

pub returns : goal.returns
returns g c = last_put_law g.row.V.Denot
