use Rattle.std.proofs.Common.{arith}
use Rattle.node_grid.specs.SetFacts.{member-lt}
use Rattle.worked_paths.proofs.plain.Receiver.settle.Goals as goal

pub start-requires : goal.start-requires
start-requires c =
    let nodes = c.args.self.now.nodes in
    (omega arith, (omega arith, (λ q on. omega (arith, member-lt 8 c.args.item.now.members q c.len-relays-end.ensures.ids on, nodes), omega (arith, c.requires, nodes))))
