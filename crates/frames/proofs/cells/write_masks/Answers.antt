use Rattle.std.proofs.Common.{◌≡◌, ◌+◌, ◌*◌, ℕ, List, get_or, length, sym, ap, ◌∙◌, arith, take}
use Rattle.std.proofs.lemmas.List.{length-take-le, take_all}
use Rattle.std.specs.Int.{w16, to_be_bytes}
use Rattle.std.specs.List.{flat_map}
use Rattle.frames.specs.Writing.{pasted}
use Rattle.frames.specs.PieceLaws.{pasted_twice, pasted_nothing}
use Rattle.frames.specs.EntryLaws.{length-masks, masks_more}
use Rattle.frames.proofs.cells.write_masks.Goals as goal

pub loop-j-init : goal.loop-j-init
loop-j-init c = sym (pasted_nothing c.args.at c.args.out.now)

pub loop-j-preserved : goal.loop-j-preserved
loop-j-preserved c =
    let masks : List ℕ = c.args.masks.now in
    let j : ℕ = c.loop-j.j in
    let old : List ℕ = c.args.out.now in
    let mask : List ℕ = to_be_bytes w16 (get_or masks j 0) in
    let front : List ℕ = flat_map (to_be_bytes w16) (take j masks) in
    let long : length front ≡ 2 * j = length-masks (take j masks) ∙ ap (λ x. 2 * x) (length-take-le j masks (omega arith)) in
    c.write_at.ensures
    ∙ ap (λ bs. pasted (c.args.at + 2 * j) bs c.loop-j.out) c.to_be_bytes.ensures
    ∙ ap (pasted (c.args.at + 2 * j) mask) c.loop-j.invariant
    ∙ pasted_twice c.args.at (c.args.at + 2 * j) front mask old (omega arith) (omega arith)
    ∙ ap (λ bs. pasted c.args.at bs old) (sym (masks_more masks j (omega arith)))

pub returns : goal.returns
returns c =
    c.loop-j.invariant ∙ ap (λ ms. pasted c.args.at (flat_map (to_be_bytes w16) ms) c.args.out.now) (take_all c.loop-j.j c.args.masks.now (omega arith))
