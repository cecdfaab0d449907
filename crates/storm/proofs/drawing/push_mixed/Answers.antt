use Rattle.std.proofs.Common.{◌≡◌, ap, refl, arith, Vec, Global}
use Rattle.storm.specs.Storm.{lies_drawn}
use Rattle.scenario.specs.declared.parts.FaultPart.{FaultPart}
use Rattle.storm.proofs.Steps.{goes_more, goes_past, goes_at, goes_all, failed}
use Rattle.storm.proofs.drawing.push_mixed.Goals as goal
use Rattle.storm.proofs.drawing.push_mixed.Goals.{then-receiver-spell+in_ok-push_told, else-receiver-spell}

pub loop-receiver-preserved : goal.loop-receiver-preserved
loop-receiver-preserved c = elim c.if-receiver-spell.branch [
  | then-receiver-spell+in_ok-push_told w ↦
      goes_at _ _ _ _ _ _ (lies_drawn c.args.spell) _ _ (ap (λ (v : Vec FaultPart Global). v.items) w.faults-is) w.generator-is
      (goes_more _ _ _ _ _ _ (lies_drawn c.args.spell) _ _ c.loop-receiver-test.true w.if-receiver-spell.true c.loop-receiver.invariant
      w.in_ok-push_told.ensures)
  | else-receiver-spell w ↦
      goes_at _ _ _ _ _ _ (lies_drawn c.args.spell) _ _ (ap (λ (v : Vec FaultPart Global). v.items) w.faults-is) w.generator-is
      (goes_past _ _ _ _ (lies_drawn c.args.spell) _ _ c.loop-receiver-test.true w.if-receiver-spell.false c.loop-receiver.invariant)
]

pub push_told-requires : goal.push_told-requires
push_told-requires c = c.loop-receiver-test.true

pub loop-receiver-init : goal.loop-receiver-init
loop-receiver-init c = record { faults = refl; rest = refl }

pub returns : goal.returns
returns c =
    let last : c.loop-receiver.receiver ≡ 8 = omega (arith, c.loop-receiver-test.false, c.loop-receiver.auto.receiver-end) in
    goes_all _ _ _ _ (lies_drawn c.args.spell) c.args.spell.node _ last c.loop-receiver.invariant

pub returns-in_err-push_told : goal.returns-in_err-push_told
returns-in_err-push_told c = failed c.from_residual.result _ c.from_residual.ensures.0
