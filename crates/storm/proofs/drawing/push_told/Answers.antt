use Rattle.std.proofs.Common.{◌∷◌, [], ◌∙◌, ap, lit<}
use Rattle.fault_classes.specs.Change.Change.{Drop}
use Rattle.storm.specs.Storm.{line_in, false_value, told_by}
use Rattle.storm.proofs.Steps.{told_none, told_nothing, told_value, adds_told, adds_none}
use Rattle.scenario.specs.Parts.{EffectParts}
use Rattle.storm.specs.Parts.{numbers_of, fault_by}
use Rattle.storm.proofs.Steps.{adds_one, adds_drawn}
use Rattle.storm.proofs.drawing.push_told.Goals as goal

pub draw-way-requires : goal.draw-way-requires
draw-way-requires c = lit< tt

pub returns-then-way-eq0 : goal.returns-then-way-eq0
returns-then-way-eq0 c =
    adds_told _ _ c.args.spell c.args.receiver c.draw-way.result _ _ _ c.draw-way.ensures.drawn
    (adds_none _ _ (told_by c.args.spell c.args.receiver c.draw-way.result) (told_none c.args.spell c.args.receiver c.draw-way.result _ c.if-way-eq0.true))

pub returns-then-way-eq1 : goal.returns-then-way-eq1
returns-then-way-eq1 c =
    adds_told _ _ c.args.spell c.args.receiver c.draw-way.result _ _ _ c.draw-way.ensures.drawn
    (adds_one _ _ c.in_ok-line_to_one.field-0 (line_in c.args.spell (c.args.receiver ∷ []) (5 ∷ []) Drop) _ _ (told_by c.args.spell c.args.receiver c.draw-way.result) c.in_ok-push.ensures.items
    c.in_ok-line_to_one.ensures (told_nothing c.args.spell c.args.receiver c.draw-way.result _ c.if-way-eq1.true))

pub returns : goal.returns
returns c =
    adds_told _ _ c.args.spell c.args.receiver c.draw-way.result _ _ _ c.draw-way.ensures.drawn
    (adds_drawn _ _ c.in_ok-line_to_one-2.field-0 (λ v. line_in c.args.spell (c.args.receiver ∷ []) (4 ∷ []) (false_value v)) 1000 c.draw.result _ _ (told_by c.args.spell c.args.receiver c.draw-way.result) c.in_ok-push-2.ensures.items
    (c.in_ok-line_to_one-2.ensures ∙ ap (λ (e : EffectParts). fault_by c.args.spell (numbers_of (c.args.receiver ∷ [])) (numbers_of (4 ∷ [])) e) c.in_ok-effect.ensures) c.draw.ensures.drawn
    (told_value c.args.spell c.args.receiver c.draw-way.result _ c.if-way-eq0.false c.if-way-eq1.false))
