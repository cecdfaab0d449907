use Rattle.std.proofs.Common.{ap₂, ◌∙◌}
use Rattle.node_grid.specs.NodeSet.{union_of}
use Rattle.std.proofs.lemmas.Nat.{or_lt}
use Rattle.node_grid.specs.NodeSetLaws.{bits_set-union}
use Rattle.node_grid.proofs.node_set.NodeSet.union.Goals as goal

pub invariant_of-result : goal.invariant_of-result
invariant_of-result g c = (or_lt g.row.N c.self.inside.mask c.other.inside.mask c.self.invariant.0 c.other.invariant.0, c.self.invariant.1)

pub returns : goal.returns
returns g c =
    bits_set-union g.row.N c.self.inside.mask c.other.inside.mask
    ∙ ap₂ (λ s t. union_of g.row.N s t) c.self.view_is c.other.view_is
