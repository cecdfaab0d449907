use Rattle.std.proofs.Common.{sym, ap, ◌∙◌, slice_get}
use Rattle.node_grid.specs.NodeSet.{bits_set}
use Rattle.node_grid.specs.NodeSetLaws.{bits_set-zero, first_of, first_within}
use Rattle.node_grid.proofs.node_set.NodeSet.least.Goals as goal

pub returns-then-self-eq0-clause-first : goal.returns-then-self-eq0-clause-first
returns-then-self-eq0-clause-first g c =
    ap (λ s. slice_get s 0) (sym (bits_set-zero g.row.N) ∙ ap (λ m. bits_set g.row.N m) (sym c.if-self-eq0.true) ∙ c.self.view_is)

pub returns-else-self-eq0-clause-first : goal.returns-else-self-eq0-clause-first
returns-else-self-eq0-clause-first g c =
    ap (λ s. slice_get s 0) (sym (first_of g.row.N c.self.inside.mask _ c.self.invariant.1 c.self.invariant.0 c.if-self-eq0.false c.self.view_is))

pub returns-else-self-eq0-clause-within : goal.returns-else-self-eq0-clause-within
returns-else-self-eq0-clause-within g c = first_within g.row.N c.self.inside.mask c.self.invariant.1 c.self.invariant.0 c.if-self-eq0.false

pub returns-else-self-eq0-clause-others : goal.returns-else-self-eq0-clause-others
returns-else-self-eq0-clause-others g c = first_of g.row.N c.self.inside.mask _ c.self.invariant.1 c.self.invariant.0 c.if-self-eq0.false c.self.view_is
