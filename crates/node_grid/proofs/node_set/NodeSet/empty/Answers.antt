use Rattle.node_grid.specs.NodeSetLaws.{bits_set-zero}
use Rattle.node_grid.proofs.node_set.NodeSet.empty.Goals as goal

pub returns : goal.returns
returns g c = bits_set-zero g.row.N
