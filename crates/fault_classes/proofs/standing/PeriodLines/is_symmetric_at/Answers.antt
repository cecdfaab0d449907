use Rattle.std.proofs.Common.{◌≡◌, true, false, ◌||◌, sym, ap, ap₂, ◌∙◌, arith}
use Rattle.std.specs.Prelude.{◌==◌}
use Rattle.std.proofs.lemmas.Bool.{eq-eqb, or_left, or_right}
use borrow.Author.Count.{below_more}
use Rattle.fault_classes.specs.Change.{same_effect}
use Rattle.fault_classes.specs.ChangeLaws.{same_effect-refl}
use Rattle.fault_classes.specs.Line.{effect_at}
use Rattle.fault_classes.proofs.Loops.{symmetric_from, not_symmetric_from}
use Rattle.fault_classes.proofs.standing.PeriodLines.is_symmetric_at.Goals as goal
use Rattle.fault_classes.proofs.standing.PeriodLines.is_symmetric_at.Goals.{else-to-node-via-then-to-node+then-row-to+else-not-is_same, else-to-node-via-then-to-node+else-row-to, else-to-node-via-else-to-node}

pub returns-then-not-is_same : goal.returns-then-not-is_same
returns-then-not-is_same g c =
    let e = effect_at c.args.self.now.index.now.lines c.args.self.now.period c.args.slot c.args.node in
    let first = c.first_other-first.result in
    let differ : same_effect (e first) (e c.loop-to.to) ≡ false = sym (c.is_same.ensures ∙ ap₂ same_effect c.effect.ensures c.effect-then-row-to.ensures) ∙ c.if-not-is_same.true in
    sym (not_symmetric_from e c.args.self.now.index.now.nodes c.args.node first c.loop-to.to (omega arith) c.first_other-first.ensures.other (omega arith) c.if-to-node.true differ)

-- a node is the sender, has the same number as the first other one, or the same befalls both
pub loop-to-preserved : goal.loop-to-preserved
loop-to-preserved g c =
    let e = effect_at c.args.self.now.index.now.lines c.args.self.now.period c.args.slot c.args.node in
    let first = c.first_other-first.result in
    let to = c.loop-to.to in
    below_more (λ k. (k == c.args.node || same_effect (e first) (e k)) ≡ true) to c.loop-to.invariant (elim c.else-to-node.branch [
      | else-to-node-via-then-to-node+then-row-to+else-not-is_same w ↦
          or_right (to == c.args.node) _ (sym (w.is_same.ensures ∙ ap₂ same_effect w.effect.ensures w.effect-then-row-to.ensures) ∙ w.if-not-is_same.false)
      | else-to-node-via-then-to-node+else-row-to w ↦
          let same : e to ≡ e first = c.numbers-row.ensures.alike to first (omega arith) (omega arith) w.if-row-to.false in
          or_right (to == c.args.node) _ (ap (same_effect (e first)) same ∙ same_effect-refl (e first))
      | else-to-node-via-else-to-node w ↦ or_left (to == c.args.node) _ (eq-eqb to c.args.node w.if-to-node.false)
    ])

pub returns : goal.returns
returns g c =
    sym (symmetric_from (effect_at c.args.self.now.index.now.lines c.args.self.now.period c.args.slot c.args.node) c.args.self.now.index.now.nodes c.args.node c.first_other-first.result (λ k h. c.loop-to.invariant k (omega arith)))
