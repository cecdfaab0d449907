use Rattle.std.proofs.Common.{◌≡◌, ◌<◌, ◌+◌, arith, ap, ◌∙◌, inl, inr, lit<}
use Rattle.cluster_step.specs.Stepped.{ClusterView}
use Rattle.span_io.specs.Progress.{start, more, last, fail}
use Rattle.top_call.specs.declared.form.Form.TheVariants as form
use Rattle.top_call.specs.Run.{printed}
use Rattle.top_call.proofs.Rest.{rest_text, rest-first, rest-next, rest-last}
use Rattle.top_call.proofs.replay.trace_all.Goals as goal

pub periods-init : goal.periods-init
periods-init g c = record {
  run = ap (λ (s : ClusterView g.row.N). s.run) c.requires.fresh;
  scenario = ap (λ (s : ClusterView g.row.N). s.scenario) c.requires.fresh;
  so_far = rw (rest-first (printed form.Trace c.args.scenario.now) c.args.scenario.now.periods) (start _ _ _);
}

pub returns-in_err-trace_next : goal.returns-in_err-trace_next
returns-in_err-trace_next g c =
    let sc = c.args.scenario.now in
    let below : c.periods.counter < sc.periods = omega (arith, c.requires.periods, c.periods-test.true) in
    fail _ _ _ _ _ _ _ _ (rest_text (printed form.Trace sc) sc.periods (c.periods.counter + 1)) _ _ c.from_residual.ensures.0
    (rw (rest-next (printed form.Trace sc) sc.periods c.periods.counter below) at c.periods.invariant.so_far)
    (rw c.periods.invariant.run at c.in_err-trace_next.ensures.wrote)

pub periods-preserved : goal.periods-preserved
periods-preserved g c =
    let sc = c.args.scenario.now in
    let below : c.periods.counter < sc.periods = omega (arith, c.requires.periods, c.periods-test.true) in
    let ran = c.in_ok-trace_next.ensures.ran in
    record {
      run = ap (λ (s : ClusterView g.row.N). s.run) ran ∙ ap (λ k. k + 1) c.periods.invariant.run;
      scenario = ap (λ (s : ClusterView g.row.N). s.scenario) ran ∙ c.periods.invariant.scenario;
      so_far = more _ _ _ _ _ _ _ _ _ _ (rw (rest-next (printed form.Trace sc) sc.periods c.periods.counter below) at c.periods.invariant.so_far)
          (rw c.periods.invariant.run at c.in_ok-trace_next.ensures.wrote);
    }

pub returns : goal.returns
returns g c =
    let sc = c.args.scenario.now in
    let ends : c.periods.counter ≡ sc.periods = omega (arith, c.requires.periods, c.periods-test.false, c.periods.auto.counter-end) in
    last _ _ _ _ _ _ _ _ _ (rw (rest-last (printed form.Trace sc) sc.periods c.periods.counter ends) at c.periods.invariant.so_far) (rw c.requires.periods at c.write_end.ensures)

pub trace_next-requires : goal.trace_next-requires
trace_next-requires g c =
    let stands = c.periods.invariant in (
      elim g.bound-2.eight_or_sixteen [ inl e ↦ rw e (lit< tt) | inr e ↦ rw e (lit< tt) ],
      (
        elim g.bound-2.eight_or_sixteen [ inl e ↦ rw e (lit< tt) | inr e ↦ rw e (lit< tt) ],
        (stands.scenario, omega (arith, stands.run, c.requires.periods, c.periods-test.true)),
      ),
    )

pub periods-smaller : goal.periods-smaller
periods-smaller g c = omega (arith, c.periods-test.true)
