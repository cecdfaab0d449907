use Rattle.std.proofs.Common.{ap, sym, ◌∙◌, arith}
use Rattle.node_grid.specs.NodeSet.{has_id}
use Rattle.omh_paths.specs.PathLists.{has-of-without}
use Rattle.worked_calls.proofs.tables.Node.settle.Goals as goal

pub settle-requires : goal.settle-requires
settle-requires c =
    let self = c.args.self.now in
    let table = self.table in
    let q = c.args.member in
    (omega arith, has-of-without table.members table.me q (ap (λ s. has_id s q) (sym self.left) ∙ sym c.has.ensures ∙ c.if-has.true))
