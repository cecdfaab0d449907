use Rattle.std.proofs.Common.{◌<◌, ◌+◌, arith, ap, sym, ◌∙◌, inl, inr, lit<}
use Rattle.scenario.specs.Scenario.{ScenarioView}
use Rattle.at_once.specs.Run.{RunView}
use Rattle.judge.proofs.bench.judge_run.Goals as goal

pub open-requires : goal.open-requires
open-requires g c = (
  elim g.bound-1.eight_or_sixteen [ inl e ↦ rw e (lit< tt) | inr e ↦ rw e (lit< tt) ],
  elim g.bound-1.eight_or_sixteen [ inl e ↦ rw e (lit< tt) | inr e ↦ rw e (lit< tt) ],
)

pub periods-init : goal.periods-init
periods-init g c = record {
  same = ap (λ (r : RunView g.row.N). r.scenario) c.in_ok-run.ensures;
  run = ap (λ (r : RunView g.row.N). r.run) c.in_ok-run.ensures;
  judges = c.begin.ensures.judges;
  periods = c.begin.ensures.none;
}

pub judge_next-requires : goal.judge_next-requires
judge_next-requires g c =
    let i = c.periods.invariant in
    let periods = ap (λ (s : ScenarioView g.row.N). s.periods) i.same in
    let more : c.periods.run.run < c.periods.run.scenario.periods = omega (arith, i.run, periods, c.periods-test.true, c.periods-period-end.ensures.periods) in (
      lit< tt,
      (
        elim g.bound-1.eight_or_sixteen [ inl e ↦ rw e (lit< tt) | inr e ↦ rw e (lit< tt) ],
        (elim g.bound-1.eight_or_sixteen [ inl e ↦ rw e (lit< tt) | inr e ↦ rw e (lit< tt) ], (i.same, (i.periods ∙ sym i.run, (more, i.judges)))),
      ),
    )

pub periods-preserved : goal.periods-preserved
periods-preserved g c =
    let i = c.periods.invariant in
    let e = c.judge_next.ensures in
    record {
      same = ap (λ (r : RunView g.row.N). r.scenario) e.ran ∙ i.same;
      run = ap (λ (r : RunView g.row.N). r.run) e.ran ∙ ap (λ k. k + 1) i.run;
      judges = e.judges;
      periods = e.periods ∙ ap (λ k. k + 1) i.periods;
    }
