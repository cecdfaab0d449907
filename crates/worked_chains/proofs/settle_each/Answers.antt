use Rattle.std.proofs.Common.{sym, arith}
use Rattle.node_grid.specs.SetFacts.{low_of}
use Rattle.worked_chains.proofs.settle_each.Goals as goal

pub settle-value-requires : goal.settle-value-requires
settle-value-requires c =
    let i = c.loop-i.invariant in
    let low = low_of 16 c.args.awake.now c.loop-i.yielded c.next.new.self c.loop-i.i-iterator c.in-Some.i c.iter-i-items.ensures.ids i.split c.in-Some.ensures.steps in
    (omega arith, (c.requires, (low, ((λ e. c.if-i-item.true (sym e)), i.room))))
