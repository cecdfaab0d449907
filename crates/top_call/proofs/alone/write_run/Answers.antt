use Rattle.std.proofs.Common.{◌≡◌, ◌<◌, ◌+◌, arith, inl, inr, lit<}
use Rattle.span_io.specs.Progress.{start, more, last, fail}
use Rattle.top_call.specs.Alone.{log_printed}
use Rattle.top_call.proofs.Rest.{rest_text, rest-first, rest-next, rest-last}
use Rattle.top_call.proofs.alone.write_run.Goals as goal

pub periods-init : goal.periods-init
periods-init g c = record {
  few = omega arith;
  stands = c.requires.fresh;
  so_far = rw (rest-first (log_printed c.args.log.now) c.args.log.now.scenario.periods) (start _ _ _);
}

pub write_next-requires : goal.write_next-requires
write_next-requires g c =
    let below : c.periods.period < c.args.log.now.scenario.periods = omega (arith, c.periods-periods.ensures.periods, c.periods-test.true) in
    (elim g.bound-2.eight_or_sixteen [ inl e ↦ rw e (lit< tt) | inr e ↦ rw e (lit< tt) ], (elim g.bound-2.eight_or_sixteen [ inl e ↦ rw e (lit< tt) | inr e ↦ rw e (lit< tt) ], (c.periods.invariant.stands, below)))

pub returns-in_err-write_next : goal.returns-in_err-write_next
returns-in_err-write_next g c =
    let log = c.args.log.now in
    let below : c.periods.period < log.scenario.periods = omega (arith, c.periods-periods.ensures.periods, c.periods-test.true) in
    fail _ _ _ _ _ _ _ _ (rest_text (log_printed log) log.scenario.periods (c.periods.period + 1)) _ _ c.from_residual.ensures.0
    (rw (rest-next (log_printed log) log.scenario.periods c.periods.period below) at c.periods.invariant.so_far)
    c.in_err-write_next.ensures.wrote

pub periods-preserved : goal.periods-preserved
periods-preserved g c =
    let log = c.args.log.now in
    let below : c.periods.period < log.scenario.periods = omega (arith, c.periods-periods.ensures.periods, c.periods-test.true) in
    record {
      few = omega (arith, below);
      stands = c.in_ok-write_next.ensures.ran;
      so_far = more _ _ _ _ _ _ _ _ _ _ (rw (rest-next (log_printed log) log.scenario.periods c.periods.period below) at c.periods.invariant.so_far)
          c.in_ok-write_next.ensures.wrote;
    }

pub returns : goal.returns
returns g c =
    let log = c.args.log.now in
    let ends : c.periods.period ≡ log.scenario.periods = omega (arith, c.periods-periods.ensures.periods, c.periods-test.false, c.periods.invariant.few) in
    last _ _ _ _ _ _ _ _ _ (rw (rest-last (log_printed log) log.scenario.periods c.periods.period ends) at c.periods.invariant.so_far) (rw c.periods-periods.ensures.periods at c.write_end.ensures)

pub periods-periods-requires : goal.periods-periods-requires
periods-periods-requires g c = elim g.bound-2.eight_or_sixteen [ inl e ↦ rw e (lit< tt) | inr e ↦ rw e (lit< tt) ]

pub periods-smaller : goal.periods-smaller
periods-smaller g c = omega (arith, c.periods-test.true)
