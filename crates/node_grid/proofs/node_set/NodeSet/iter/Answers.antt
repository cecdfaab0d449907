use Rattle.node_grid.specs.NodeSetLaws.{IsIdSet-view, All-ids, length-ids}
use Rattle.node_grid.proofs.node_set.NodeSet.iter.Goals as goal

pub returns-clause-ids : goal.returns-clause-ids
returns-clause-ids g c = IsIdSet-view g.row.N c.self.inside.mask _ c.self.view_is

pub returns-clause-within : goal.returns-clause-within
returns-clause-within g c = All-ids g.row.N _ (IsIdSet-view g.row.N c.self.inside.mask _ c.self.view_is)

pub returns-clause-few : goal.returns-clause-few
returns-clause-few g c = length-ids g.row.N _ (IsIdSet-view g.row.N c.self.inside.mask _ c.self.view_is)
