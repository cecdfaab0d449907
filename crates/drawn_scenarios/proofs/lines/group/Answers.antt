use Rattle.std.proofs.Common.{◌≡◌, ◌+◌, ◌/◌, ◌<◌, ℤ, pos, Vec, Global, ap, ◌∙◌, arith, to_z, of_z, w64}
use Rattle.std.proofs.lemmas.Int.{ints}
use Rattle.drawn_scenarios.proofs.Gathered.{over_itself, over_picked, over_spared, over_at}
use Rattle.drawn_scenarios.proofs.lines.group.Goals as goal
use Rattle.drawn_scenarios.proofs.lines.group.Goals.{then-left-eq1+in_ok-push, else-left-eq1}

pub loop-other-preserved-then-other-node : goal.loop-other-preserved-then-other-node
loop-other-preserved-then-other-node c =
    let low : c.loop-other.other < c.args.nodes = omega arith in
    over_itself c.loop-other.numbers.items c.loop-other.left c.args.nodes c.args.node c.loop-other.other c.args.mask low c.if-other-node.true c.loop-other.invariant

pub loop-other-preserved : goal.loop-other-preserved
loop-other-preserved c =
    let low : c.loop-other.other < c.args.nodes = omega arith in
    elim c.if-left-eq1.branch [
      | then-left-eq1+in_ok-push w ↦
          let value : to_z w64 (of_z w64 w.from.result) ≡ pos c.loop-other.other = omega (arith, ints) in
          over_picked c.loop-other.numbers.items (to_z w64 (of_z w64 w.from.result)) c.if-left-eq1.numbers.items c.loop-other.left c.args.nodes c.args.node c.loop-other.other c.args.mask low c.if-other-node.false w.if-left-eq1.true value
          (ap (λ (v : Vec ℤ Global). v.items) w.numbers-is ∙ w.in_ok-push.ensures.items) c.loop-other.invariant
      | else-left-eq1 w ↦
          over_at c.if-left-eq1.numbers.items c.loop-other.numbers.items (c.loop-other.left / 2) c.args.nodes c.args.node (c.loop-other.other + 1) c.args.mask (ap (λ (v : Vec ℤ Global). v.items) w.numbers-is)
          (over_spared c.loop-other.numbers.items c.loop-other.left c.args.nodes c.args.node c.loop-other.other c.args.mask low c.if-other-node.false w.if-left-eq1.false c.loop-other.invariant)
    ]
