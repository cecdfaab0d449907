use Rattle.std.proofs.Common.{ℕ, ◌∷◌, [], ◌++◌, ◌∙◌, List, length, get_or, sym, ap, lit<, arith}
use Rattle.std.proofs.lemmas.List.{take_more, take_all, length-take-le}
use Rattle.node_core.proofs.outcome.copied.Goals as goal

pub new-due-requires : goal.new-due-requires
new-due-requires c = lit< tt

pub loop-channel-init : goal.loop-channel-init
loop-channel-init c = c.new-due.ensures

pub bounds-channels-channel-index : goal.bounds-channels-channel-index
bounds-channels-channel-index c = c.loop-channel-test.true

pub push-requires : goal.push-requires
push-requires c = (lit< tt, omega (arith, ap length c.loop-channel.invariant, length-take-le c.loop-channel.channel-index c.args.channels.now c.loop-channel.auto.channel-index-end, c.loop-channel-test.true, c.requires))

pub loop-channel-smaller : goal.loop-channel-smaller
loop-channel-smaller c = omega (arith, c.loop-channel-test.true)

pub loop-channel-preserved : goal.loop-channel-preserved
loop-channel-preserved c =
    let xs = c.args.channels.now in
    let i : ℕ = c.loop-channel.channel-index in
    c.push.ensures.items ∙ ap (λ (ys : List ℕ). ys ++ get_or xs i 0 ∷ []) c.loop-channel.invariant ∙ sym (take_more xs i 0 c.loop-channel-test.true)

pub returns : goal.returns
returns c = c.loop-channel.invariant ∙ take_all c.loop-channel.channel-index c.args.channels.now c.loop-channel-test.false
