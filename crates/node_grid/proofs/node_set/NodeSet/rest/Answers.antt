use Rattle.node_grid.specs.NodeSetLaws.{bits_set-drop}
use Rattle.node_grid.proofs.node_set.NodeSet.rest.Goals as goal

pub returns : goal.returns
returns g c = bits_set-drop g.row.N c.self.inside.mask _ c.self.invariant.1 c.self.invariant.0 c.self.view_is
