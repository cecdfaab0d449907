use Rattle.std.proofs.Common.{◌^◌, pos, ap, ◌∙◌, arith}
use Rattle.std.proofs.lemmas.Int.{ints}
use Rattle.clock_skew.specs.Clock.{ClockView, number_at}
use Rattle.clock_skew.proofs.Fitting.{number_read, still_near}
use Rattle.clock_skew.proofs.plan.ClockPlan.start.Goals as goal

pub bounds-self-inside-i : goal.bounds-self-inside-i
bounds-self-inside-i g c = omega (arith, c.requires, ap (λ (v : ClockView). v.nodes) c.self.view_is, c.self.invariant.nodes)

pub offset_bounds-self-inside-i : goal.offset_bounds-self-inside-i
offset_bounds-self-inside-i g c = omega (arith, c.ranges.i)

pub returns-clause-start : goal.returns-clause-start
returns-clause-start g c =
    let near = c.self.invariant.start c.args.i (omega (arith, c.requires, ap (λ (v : ClockView). v.nodes) c.self.view_is)) in
    number_read (pos (2 ^ 40)) (number_at c.self.inside.start c.args.i) (omega (arith, ints)) near ∙ ap (λ (v : ClockView). number_at v.start c.args.i) c.self.view_is

pub returns-clause-range : goal.returns-clause-range
returns-clause-range g c =
    let near = c.self.invariant.start c.args.i (omega (arith, c.requires, ap (λ (v : ClockView). v.nodes) c.self.view_is)) in
    still_near (pos (2 ^ 40)) (number_at c.self.inside.start c.args.i) (omega (arith, ints)) near
