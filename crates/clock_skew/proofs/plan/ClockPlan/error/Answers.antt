use Rattle.std.proofs.Common.{◌+◌, ℤ, List, length, ap, subst, w64, ◌∙◌, arith}
use Rattle.std.proofs.lemmas.Int.{ints}
use mir.Val.{to_z, of_z}
use Rattle.clock_skew.specs.Clock.{ClockView, IsUpTo, number_at, row_in_turn, error_at}
use Rattle.clock_skew.proofs.Fitting.{number_read, still_near, row_near}
use Rattle.clock_skew.proofs.plan.ClockPlan.error.Goals as goal

pub overflow_add-result : goal.overflow_add-result
overflow_add-result g c = omega (arith, c.ranges.period, c.ranges.j)

pub nonzero_rem-result : goal.nonzero_rem-result
nonzero_rem-result g c = omega (arith, ap length c.as_slice-rows.ensures.value, c.self.invariant.some_errors)

pub bounds-rows-period : goal.bounds-rows-period
bounds-rows-period g c = omega (arith, ap length c.as_slice-rows.ensures.value, c.self.invariant.some_errors)

pub offset_bounds-rows-period : goal.offset_bounds-rows-period
offset_bounds-rows-period g c = omega (arith, ap length c.as_slice-rows.ensures.value, c.self.invariant.some_errors)

pub bounds-rows-i : goal.bounds-rows-i
bounds-rows-i g c = omega (arith, c.requires.reader, ap (λ (v : ClockView). v.nodes) c.self.view_is, c.self.invariant.nodes)

pub offset_bounds-rows-i : goal.offset_bounds-rows-i
offset_bounds-rows-i g c = omega (arith, c.ranges.i)

pub returns-clause-error : goal.returns-clause-error
returns-clause-error g c =
    let near = row_near c.self.inside.epsilon c.self.inside.nodes c.args.i (c.args.period + c.args.j) c.as_slice-rows.result.now c.self.inside.errors.items
    c.as_slice-rows.ensures.value (c.self.invariant.errors (c.args.period + c.args.j)) (omega (arith, c.requires.reader, ap (λ (v : ClockView). v.nodes) c.self.view_is)) in
    number_read c.self.inside.epsilon (number_at (row_in_turn c.as_slice-rows.result.now (c.args.period + c.args.j)) c.args.i) (omega (arith, ints, c.self.invariant.epsilon.1)) near
    ∙ ap (λ (rows : List (List ℤ)). number_at (row_in_turn rows (c.args.period + c.args.j)) c.args.i) c.as_slice-rows.ensures.value
    ∙ ap (λ (v : ClockView). error_at v c.args.i c.args.j c.args.period) c.self.view_is

pub returns-clause-range : goal.returns-clause-range
returns-clause-range g c =
    let near = row_near c.self.inside.epsilon c.self.inside.nodes c.args.i (c.args.period + c.args.j) c.as_slice-rows.result.now c.self.inside.errors.items
    c.as_slice-rows.ensures.value (c.self.invariant.errors (c.args.period + c.args.j)) (omega (arith, c.requires.reader, ap (λ (v : ClockView). v.nodes) c.self.view_is)) in
    subst (λ (limit : ℤ). IsUpTo limit (to_z w64 (of_z w64 (number_at (row_in_turn c.as_slice-rows.result.now (c.args.period + c.args.j)) c.args.i))))
    (ap (λ (v : ClockView). v.epsilon) c.self.view_is)
    (still_near c.self.inside.epsilon (number_at (row_in_turn c.as_slice-rows.result.now (c.args.period + c.args.j)) c.args.i) (omega (arith, ints, c.self.invariant.epsilon.1)) near)
