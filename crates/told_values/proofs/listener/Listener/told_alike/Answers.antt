use Rattle.std.proofs.Common.{◌<◌, ◌+◌, ℕ, ℤ, List, Option, sym, subst, arith}
use Rattle.told_values.specs.Slot.{DataView, slot_of, values_at}
use Rattle.told_values.proofs.Telling.{AreToldBelow, told_none, told_kept, told_put}
use Rattle.told_values.proofs.listener.Listener.told_alike.Goals.{then-may_touch, else-may_touch}
use Rattle.told_values.proofs.listener.Listener.told_alike.Goals as goal

pub loop-from-init : goal.loop-from-init
loop-from-init g c =
    let d : DataView g.row.N = slot_of g.D.Dues.dues c.args.self.now.slot.now in
    told_none d c.args.self.now.node c.args.own.now c.requires.own c.requires.alike c.told-own

pub loop-from-preserved : goal.loop-from-preserved
loop-from-preserved g c =
    let d : DataView g.row.N = slot_of g.D.Dues.dues c.args.self.now.slot.now in
    let i : ℕ = c.args.self.now.node in
    let own : List (Option (List ℤ)) = c.args.own.now in
    let from : ℕ = c.loop-from.from in
    let told : List (Option (List ℤ)) = c.loop-from.told in
    let low : from < g.row.N = (let t = c.loop-from-test.true in let f = c.nodes-nodes.ensures.slot.config.few_nodes in let n = c.nodes-nodes.ensures.nodes in omega arith) in
    elim c.if-may_touch.branch [
      | then-may_touch w ↦
          subst (AreToldBelow d i own (from + 1)) (sym w.told-is)
          (told_put d i own c.requires.own c.requires.alike from told w.values.result low (c.may_touch.ensures.link w.if-may_touch.true)
          (λ x hears used k on. w.values.ensures (d.due i) (values_at d from i) (w.hear.ensures (hears.in_range from used)) k on) c.loop-from.invariant)
      | else-may_touch w ↦
          subst (AreToldBelow d i own (from + 1)) (sym w.told-is)
          (told_kept d i own c.requires.own c.requires.alike from told (c.may_touch.ensures.untouched w.if-may_touch.false (let t = c.loop-from-test.true in let n = c.nodes-nodes.ensures.nodes in omega arith)) c.loop-from.invariant)
    ]

pub returns : goal.returns
returns g c = λ x hears q k low on. let n = c.nodes-nodes.ensures.nodes in let t = c.loop-from-test.false in c.loop-from.invariant.so_far x hears q k (omega arith) low on
