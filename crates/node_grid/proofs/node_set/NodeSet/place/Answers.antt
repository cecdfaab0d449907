use Rattle.std.proofs.Common.{arith, ap, ◌∙◌, pow_pos}
use Rattle.node_grid.specs.NodeSet.{place_of}
use Rattle.node_grid.specs.NodeSetLaws.{place-ones, shifted_short, place_of-le, IsIdSet-view}
use Rattle.node_grid.proofs.node_set.NodeSet.place.Goals as goal

pub overflow_sub-below : goal.overflow_sub-below
overflow_sub-below g c = omega (arith, shifted_short g.row.N c.args.id c.self.invariant.1 c.requires, pow_pos c.args.id)

pub returns-clause-count : goal.returns-clause-count
returns-clause-count g c =
    rw (shifted_short g.row.N c.args.id c.self.invariant.1 c.requires)
    (place-ones g.row.N c.self.inside.mask c.args.id c.self.invariant.0 ∙ ap (λ s. place_of s c.args.id) c.self.view_is)

pub returns-clause-few : goal.returns-clause-few
returns-clause-few g c =
    rw (shifted_short g.row.N c.args.id c.self.invariant.1 c.requires)
    (omega (arith, place-ones g.row.N c.self.inside.mask c.args.id c.self.invariant.0, ap (λ s. place_of s c.args.id) c.self.view_is, place_of-le g.row.N _ c.args.id (IsIdSet-view g.row.N c.self.inside.mask _ c.self.view_is)))

pub returns-clause-ids : goal.returns-clause-ids
returns-clause-ids g c = IsIdSet-view g.row.N c.self.inside.mask _ c.self.view_is
