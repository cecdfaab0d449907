use Rattle.std.proofs.Common.{length, sym, ap, ◌∙◌}
use Rattle.node_grid.specs.NodeSetLaws.{length-bits_set, IsIdSet-view}
use Rattle.node_grid.proofs.node_set.NodeSet.len.Goals as goal

pub returns-clause-count : goal.returns-clause-count
returns-clause-count g c = sym (length-bits_set g.row.N c.self.inside.mask c.self.invariant.0) ∙ ap length c.self.view_is

pub returns-clause-ids : goal.returns-clause-ids
returns-clause-ids g c = IsIdSet-view g.row.N c.self.inside.mask _ c.self.view_is
