use Rattle.odd_relays.proofs.Tellings.{each_telling_passes}
use Rattle.odd_relays.proofs.laws.tellings.Goals as goal

pub returns : goal.returns
returns g c = each_telling_passes g.row.V.Denot
