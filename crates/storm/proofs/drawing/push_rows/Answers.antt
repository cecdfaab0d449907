use Rattle.std.proofs.Common.{◌∷◌, [], ◌∙◌, refl, ap, Vec, Global}
use Rattle.fault_classes.specs.Change.Change.{Set}
use Rattle.storm.specs.Storm.{line_in, told_row}
use Rattle.scenario.specs.declared.parts.FaultPart.{FaultPart}
use Rattle.scenario.specs.Parts.{EffectParts}
use Rattle.storm.specs.Parts.{numbers_of, fault_by}
use Rattle.storm.proofs.Steps.{adds_drawn, goes_more, goes_past, goes_at}
use Rattle.storm.proofs.drawing.push_rows.Goals as goal
use Rattle.storm.proofs.drawing.push_rows.Goals.{then-receiver-spell+in_ok-effect+in_ok-line_to_one+in_ok-push, else-receiver-spell}

pub loop-receiver-preserved : goal.loop-receiver-preserved
loop-receiver-preserved c = elim c.if-receiver-spell.branch [
  | then-receiver-spell+in_ok-effect+in_ok-line_to_one+in_ok-push w ↦
      goes_at _ _ _ _ _ _ (told_row c.args.spell) _ _ (ap (λ (v : Vec FaultPart Global). v.items) w.faults-is) w.generator-is
      (goes_more _ _ _ _ _ _ (told_row c.args.spell) _ _ c.loop-receiver-test.true w.if-receiver-spell.true c.loop-receiver.invariant
      (adds_drawn _ _ w.in_ok-line_to_one.field-0 (λ v. line_in c.args.spell (c.loop-receiver.receiver ∷ []) (5 ∷ []) (Set 15 (v ∷ []))) 256 w.draw.result _ _ (told_row c.args.spell c.loop-receiver.receiver)
      w.in_ok-push.ensures.items
      (w.in_ok-line_to_one.ensures ∙ ap (λ (e : EffectParts). fault_by c.args.spell (numbers_of (c.loop-receiver.receiver ∷ [])) (numbers_of (5 ∷ [])) e) w.in_ok-effect.ensures) w.draw.ensures.drawn refl))
  | else-receiver-spell w ↦
      goes_at _ _ _ _ _ _ (told_row c.args.spell) _ _ (ap (λ (v : Vec FaultPart Global). v.items) w.faults-is) w.generator-is
      (goes_past _ _ _ _ (told_row c.args.spell) _ _ c.loop-receiver-test.true w.if-receiver-spell.false c.loop-receiver.invariant)
]
