use Rattle.std.proofs.Common.{rules, ℤ, pos, sym, ap, ◌∙◌, w64, to_z, to_z-of_z, arith}
use Rattle.std.specs.Prelude.{FitsSigned, slice_index_or}
use Rattle.scenario.specs.Rules.{is_near}
use Rattle.scenario.proofs.Close.{close_by_spread, spread_of_more}
use Rattle.scenario.proofs.rules.are_close.Goals as goal

pub loop-value-preserved : goal.loop-value-preserved
loop-value-preserved c =
    let l = c.min-least.ensures in
    let g = c.max-greatest.ensures in
    let fits : FitsSigned w64 (slice_index_or c.args.values.now c.loop-value.value-index (pos 0)) = search rules in
    let less_fits : FitsSigned w64 c.min-least.result = search rules in
    let greater_fits : FitsSigned w64 c.max-greatest.result = search rules in
    rw (to_z-of_z less_fits, to_z-of_z greater_fits)
    (spread_of_more c.args.values.now c.loop-value.value-index _ _ _ _ _ c.loop-value.invariant (omega arith) (sym (to_z-of_z fits)) l.value l.self_bound l.other_bound g.value g.self_bound g.other_bound)

pub returns : goal.returns
returns c =
    let d_fits : FitsSigned w64 c.args.delta = search rules in
    c.is_near.ensures
    ∙ ap (λ (d : ℤ). is_near d (to_z w64 c.loop-value.greatest-bits) (to_z w64 c.loop-value.least-bits)) (to_z-of_z d_fits)
    ∙ close_by_spread c.args.delta _ _ c.args.values.now c.loop-value.value-index (omega arith) c.loop-value.invariant
