use Rattle.std.proofs.Common.{◌≡◌, true, false, sym, ap, ◌∙◌, refl}
use Rattle.fault_classes.specs.Line.{line_of}
use Rattle.fault_classes.specs.Rules.{is_line, first_bad_line}
use Rattle.fault_classes.proofs.Places.{rest_at}
use Rattle.fault_classes.proofs.rules.first_bad_line.Goals as goal

pub returns-then-not-is_line : goal.returns-then-not-is_line
returns-then-not-is_line g c =
    let n = c.args.shape.now.nodes in
    let s = c.args.shape.now.slots in
    let t = c.args.shape.now.periods in
    let k = c.loop-place.place in
    let x = c.index-lines-place.result in
    let bad : is_line n s t (line_of x) ≡ false = sym c.is_line.ensures ∙ c.if-not-is_line.true in
    sym (c.loop-place.invariant ∙ ap (first_bad_line n s t k) (rest_at c.args.lines.now k x c.loop-place-test.true c.index-lines-place.is) ∙ rw bad refl)

pub loop-place-preserved : goal.loop-place-preserved
loop-place-preserved g c =
    let n = c.args.shape.now.nodes in
    let s = c.args.shape.now.slots in
    let t = c.args.shape.now.periods in
    let k = c.loop-place.place in
    let x = c.index-lines-place.result in
    let good : is_line n s t (line_of x) ≡ true = sym c.is_line.ensures ∙ c.if-not-is_line.false in
    c.loop-place.invariant ∙ ap (first_bad_line n s t k) (rest_at c.args.lines.now k x c.loop-place-test.true c.index-lines-place.is) ∙ rw good refl
