use Rattle.std.proofs.Common.{rules, ◌≡◌, ◌+ℤ◌, ap, ap₂, ◌∙◌, ℤ}
use mir.Syntax.{w64, w128}
use mir.Val.{SFits, to_z, of_z}
use Rattle.std.proofs.lemmas.Int.{to_z-of_z}
use Rattle.protocol.specs.View.{cut}
use Rattle.data_slot.proofs.own.carried_on.Goals as goal

pub returns : goal.returns
returns c =
    let l : ℤ = c.args.last in
    let s : ℤ = c.args.step in
    let f : SFits w64 c.cut.result = search rules in
    let l64 : SFits w64 l = c.ranges.last in
    let s64 : SFits w64 s = c.ranges.step in
    let l128 : SFits w128 l = search rules in
    let s128 : SFits w128 s = search rules in
    let both : SFits w128 (l +ℤ s) = search rules in
    let a : to_z w128 (of_z w128 (to_z w64 (of_z w64 l))) ≡ l = ap (λ (z : ℤ). to_z w128 (of_z w128 z)) (to_z-of_z w64 l l64) ∙ to_z-of_z w128 l l128 in
    let b : to_z w128 (of_z w128 (to_z w64 (of_z w64 s))) ≡ s = ap (λ (z : ℤ). to_z w128 (of_z w128 z)) (to_z-of_z w64 s s64) ∙ to_z-of_z w128 s s128 in
    to_z-of_z w64 c.cut.result f ∙ c.cut.ensures
    ∙ ap cut (ap₂ (λ (x y : ℤ). to_z w128 (of_z w128 (x +ℤ y))) a b ∙ to_z-of_z w128 (l +ℤ s) both)
