use Rattle.std.proofs.Common.{ap, ◌∙◌}
use Rattle.node_grid.specs.NodeSet.{with_id}
use Rattle.node_grid.specs.NodeSetLaws.{bits_set-put, put_fits}
use Rattle.node_grid.proofs.node_set.NodeSet.put.Goals as goal

pub invariant_of-self : goal.invariant_of-self
invariant_of-self g c = (put_fits g.row.N c.self.inside.mask c.args.id c.self.invariant.1 c.requires c.self.invariant.0, c.self.invariant.1)

pub returns : goal.returns
returns g c = bits_set-put g.row.N c.self.inside.mask c.args.id c.self.invariant.1 c.requires ∙ ap (λ s. with_id g.row.N s c.args.id) c.self.view_is
