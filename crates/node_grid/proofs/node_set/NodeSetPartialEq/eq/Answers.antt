use Rattle.node_grid.specs.NodeSetLaws.{same_sets}
use Rattle.node_grid.proofs.node_set.NodeSetPartialEq.eq.Goals as goal

pub returns : goal.returns
returns g c = same_sets g.row.N _ _ _ _ c.self.invariant.0 c.other.invariant.0 c.self.view_is c.other.view_is
