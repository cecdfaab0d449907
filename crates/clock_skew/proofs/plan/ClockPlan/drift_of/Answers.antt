use Rattle.std.proofs.Common.{◌^◌, ℤ, List, length, pos, ap, ◌∙◌, arith}
use Rattle.std.proofs.lemmas.Int.{ints}
use Rattle.clock_skew.specs.Clock.{ClockView, number_at, row_in_turn, drift_at}
use Rattle.clock_skew.proofs.Fitting.{number_read, still_near, row_near}
use Rattle.clock_skew.proofs.plan.ClockPlan.drift_of.Goals as goal

pub nonzero_rem-result : goal.nonzero_rem-result
nonzero_rem-result g c = omega (arith, ap length c.as_slice-rows.ensures.value, c.self.invariant.some_drifts)

pub bounds-rows-period : goal.bounds-rows-period
bounds-rows-period g c = omega (arith, ap length c.as_slice-rows.ensures.value, c.self.invariant.some_drifts)

pub offset_bounds-rows-period : goal.offset_bounds-rows-period
offset_bounds-rows-period g c = omega (arith, ap length c.as_slice-rows.ensures.value, c.self.invariant.some_drifts)

pub bounds-rows-i : goal.bounds-rows-i
bounds-rows-i g c = omega (arith, c.requires, ap (λ (v : ClockView). v.nodes) c.self.view_is, c.self.invariant.nodes)

pub offset_bounds-rows-i : goal.offset_bounds-rows-i
offset_bounds-rows-i g c = omega (arith, c.ranges.i)

pub returns-clause-drift : goal.returns-clause-drift
returns-clause-drift g c =
    let near = row_near (pos (2 ^ 20)) c.self.inside.nodes c.args.i c.args.period c.as_slice-rows.result.now c.self.inside.drifts.items
    c.as_slice-rows.ensures.value (c.self.invariant.drifts c.args.period) (omega (arith, c.requires, ap (λ (v : ClockView). v.nodes) c.self.view_is)) in
    number_read (pos (2 ^ 20)) (number_at (row_in_turn c.as_slice-rows.result.now c.args.period) c.args.i) (omega (arith, ints)) near
    ∙ ap (λ (rows : List (List ℤ)). number_at (row_in_turn rows c.args.period) c.args.i) c.as_slice-rows.ensures.value
    ∙ ap (λ (v : ClockView). drift_at v c.args.i c.args.period) c.self.view_is

pub returns-clause-range : goal.returns-clause-range
returns-clause-range g c =
    let near = row_near (pos (2 ^ 20)) c.self.inside.nodes c.args.i c.args.period c.as_slice-rows.result.now c.self.inside.drifts.items
    c.as_slice-rows.ensures.value (c.self.invariant.drifts c.args.period) (omega (arith, c.requires, ap (λ (v : ClockView). v.nodes) c.self.view_is)) in
    still_near (pos (2 ^ 20)) (number_at (row_in_turn c.as_slice-rows.result.now c.args.period) c.args.i) (omega (arith, ints)) near
