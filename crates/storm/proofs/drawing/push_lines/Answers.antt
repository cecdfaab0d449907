use Rattle.std.proofs.Common.{◌∷◌, [], ◌∙◌, ap, ap₂}
use Rattle.node_grid.specs.NodeSet.{ids_below}
use Rattle.fault_classes.specs.Change.Change.{Drop}
use Rattle.storm.specs.Storm.{line_in, others, false_value, lines_by}
use Rattle.storm.proofs.Steps.{silent_case, lying_case}
use Rattle.scenario.specs.Parts.{Numbers, EffectParts}
use Rattle.storm.specs.Parts.{numbers_of, effect_of, fault_by}
use Rattle.storm.proofs.Steps.{adds_one, adds_drawn}
use Rattle.storm.proofs.drawing.push_lines.Goals as goal

pub returns-then-case-eq0 : goal.returns-then-case-eq0
returns-then-case-eq0 c =
    adds_one _ _ c.in_ok-line_to_others.field-0 (line_in c.args.spell (others c.args.spell) (ids_below 8) Drop) _ _ (lines_by c.args.spell c.args.case) c.in_ok-push.ensures.items
    (c.in_ok-line_to_others.ensures ∙ ap (λ (n : Numbers). fault_by c.args.spell (numbers_of (others c.args.spell)) n (effect_of Drop)) c.in_ok-all_slots.ensures)
    (silent_case c.args.spell c.args.case _ c.if-case-eq0.true)

pub returns-then-case-eq1 : goal.returns-then-case-eq1
returns-then-case-eq1 c =
    adds_drawn _ _ c.in_ok-line_to_others-2.field-0 (λ v. line_in c.args.spell (others c.args.spell) (4 ∷ []) (false_value v)) 1000 c.draw.result _ _ (lines_by c.args.spell c.args.case) c.in_ok-push-2.ensures.items
    (c.in_ok-line_to_others-2.ensures ∙ ap₂ (λ (n : Numbers) (e : EffectParts). fault_by c.args.spell (numbers_of (others c.args.spell)) n e) c.in_ok-only.ensures c.in_ok-effect.ensures) c.draw.ensures.drawn
    (lying_case c.args.spell c.args.case _ c.if-case-eq1.true)
