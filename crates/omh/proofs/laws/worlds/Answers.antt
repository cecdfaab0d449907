use Rattle.omh.specs.Worlds.{each_world_fits}
use Rattle.omh.proofs.laws.worlds.Goals as goal

pub returns : goal.returns
returns g c = each_world_fits g.row.V.Denot
