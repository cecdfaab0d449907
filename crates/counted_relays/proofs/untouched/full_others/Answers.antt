use Rattle.std.proofs.Common.{arith}
use Rattle.counted_relays.proofs.Counts.{full_count}
use Rattle.counted_relays.proofs.untouched.full_others.Goals as goal

pub overflow_sub-result : goal.overflow_sub-result
overflow_sub-result g c =
    let e = full_count c.args.exchange.now.members c.args.exchange.now.full c.without-others.result c.minus.result c.args.exchange.now.commander c.len.result c.len-2.result c.without-others.ensures c.len.ensures.count c.minus.ensures c.len-2.ensures.count in
    omega arith

pub returns : goal.returns
returns g c =
    let e = full_count c.args.exchange.now.members c.args.exchange.now.full c.without-others.result c.minus.result c.args.exchange.now.commander c.len.result c.len-2.result c.without-others.ensures c.len.ensures.count c.minus.ensures c.len-2.ensures.count in
    omega arith
