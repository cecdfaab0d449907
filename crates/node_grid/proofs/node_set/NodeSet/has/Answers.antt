use Rattle.std.proofs.Common.{◌≡◌, arith, sym, ap, ◌∙◌, nat_lt, false}
use Rattle.node_grid.specs.NodeSet.{has_id}
use Rattle.node_grid.specs.NodeSetLaws.{has_bit, hasnt-bits_set}
use Rattle.node_grid.proofs.node_set.NodeSet.has.Goals as goal

pub returns-then-id-lt16 : goal.returns-then-id-lt16
returns-then-id-lt16 g c = sym (has_bit g.row.N c.self.inside.mask c.args.id c.self.invariant.0) ∙ ap (λ s. has_id s c.args.id) c.self.view_is

pub returns-else-id-lt16 : goal.returns-else-id-lt16
returns-else-id-lt16 g c =
    let t : nat_lt c.args.id 16 ≡ false = grind arith in
    t ∙ sym (hasnt-bits_set g.row.N c.self.inside.mask c.args.id (omega arith)) ∙ ap (λ s. has_id s c.args.id) c.self.view_is
