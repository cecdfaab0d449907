use Rattle.std.proofs.Common.{ℕ, ◌+◌, ◌-◌, ◌<◌, ◌≤◌, [], ◌∷◌, Vec, Global, sym, ap, ◌∙◌, append-nil, arith}
use Rattle.drawn_scenarios.specs.declared.bout.Bout.{Bout}
use Rattle.drawn_scenarios.specs.Bouts.{story, well_after}
use Rattle.drawn_scenarios.proofs.GoesOn.{goes_more, goes_all, goes_at, goes_with, from, still_off, no_more, stays_well, falls_ill}
use Rattle.drawn_scenarios.proofs.drawing.push_story.Goals as goal
use Rattle.drawn_scenarios.proofs.drawing.push_story.Goals.{then-draw-options+in_ok-push, else-draw-options}

pub loop-period-preserved-then-period-well : goal.loop-period-preserved-then-period-well
loop-period-preserved-then-period-well c =
    let ch = c.args.options.now.choices in
    let low : c.loop-period.period < ch.periods = omega arith in
    goes_more _ _ _ [] _ _ _ (story ch c.args.node) (from ch c.args.node c.at-class.result c.loop-period.period c.loop-period.well c.loop-period.left)
    (from ch c.args.node c.at-class.result (c.loop-period.period + 1) c.loop-period.well c.loop-period.left) (sym (append-nil _))
    (still_off ch c.args.node c.at-class.result c.loop-period.period c.loop-period.well c.loop-period.left c.loop-period.generator low c.if-period-well.true) c.loop-period.invariant

pub returns-then-left-eq0 : goal.returns-then-left-eq0
returns-then-left-eq0 c =
    let ch = c.args.options.now.choices in
    let low : c.loop-period.period < ch.periods = omega arith in
    let on : c.loop-period.well ≤ c.loop-period.period = omega arith in
    goes_all _ _ _ _ (story ch c.args.node) (from ch c.args.node c.at-class.result c.loop-period.period c.loop-period.well c.loop-period.left)
    (ap (λ (l : ℕ). from ch c.args.node c.at-class.result c.loop-period.period c.loop-period.well l c.loop-period.generator) c.if-left-eq0.true
    ∙ no_more ch c.args.node c.at-class.result c.loop-period.period c.loop-period.well c.loop-period.generator low on) c.loop-period.invariant

pub loop-period-preserved : goal.loop-period-preserved
loop-period-preserved c =
    let ch = c.args.options.now.choices in
    let p = c.loop-period.period in
    let low : c.loop-period.period < ch.periods = omega arith in
    let on : c.loop-period.well ≤ c.loop-period.period = omega arith in
    let some : 0 < c.loop-period.left = omega arith in
    elim c.if-draw-options.branch [
      | then-draw-options+in_ok-push w ↦
          goes_at _ _ _ _ _ _ (story ch c.args.node) (from ch c.args.node c.at-class.result (p + 1) c.if-draw-options.well c.if-draw-options.left) (ap (λ (v : Vec Bout Global). v.items) w.bouts-is) w.generator-is
          (goes_with _ _ _ _ (story ch c.args.node) ch c.args.node c.at-class.result (p + 1) (well_after ch w.draw_bout-bout.result) c.if-draw-options.well (c.loop-period.left - 1) c.if-draw-options.left
          (w.well-is ∙ w.well_after-well.ensures) w.left-is
          (goes_more _ _ _ (w.draw_bout-bout.result ∷ []) _ _ _ (story ch c.args.node) (from ch c.args.node c.at-class.result p c.loop-period.well c.loop-period.left)
          (from ch c.args.node c.at-class.result (p + 1) (well_after ch w.draw_bout-bout.result) (c.loop-period.left - 1)) w.in_ok-push.ensures.items
          (falls_ill ch c.args.node c.at-class.result p c.loop-period.well c.loop-period.left c.draw-in-loop-period.result w.draw_bout-bout.result c.loop-period.generator c.draw-in-loop-period.new.generator w.draw_bout-bout.new.generator
          low on some c.draw-in-loop-period.ensures.drawn w.if-draw-options.true w.draw_bout-bout.ensures) c.loop-period.invariant))
      | else-draw-options w ↦
          goes_at _ _ _ _ _ _ (story ch c.args.node) (from ch c.args.node c.at-class.result (p + 1) c.if-draw-options.well c.if-draw-options.left) (ap (λ (v : Vec Bout Global). v.items) w.bouts-is) w.generator-is
          (goes_with _ _ _ _ (story ch c.args.node) ch c.args.node c.at-class.result (p + 1) c.loop-period.well c.if-draw-options.well c.loop-period.left c.if-draw-options.left w.well-is w.left-is
          (goes_more _ _ _ [] _ _ _ (story ch c.args.node) (from ch c.args.node c.at-class.result p c.loop-period.well c.loop-period.left) (from ch c.args.node c.at-class.result (p + 1) c.loop-period.well c.loop-period.left) (sym (append-nil _))
          (stays_well ch c.args.node c.at-class.result p c.loop-period.well c.loop-period.left c.draw-in-loop-period.result c.loop-period.generator c.draw-in-loop-period.new.generator low on some c.draw-in-loop-period.ensures.drawn
          (let h = w.if-draw-options.false in omega arith)) c.loop-period.invariant))
    ]
