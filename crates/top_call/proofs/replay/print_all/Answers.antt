use Rattle.std.proofs.Common.{◌≡◌, ◌<◌, ◌+◌, arith, refl, ap, ◌∙◌, inl, inr, lit<}
use Rattle.at_once.specs.Run.{RunView}
use Rattle.top_call.specs.Run.{printed, run_text}
use Rattle.top_call.proofs.AtOnce.{so_far_start, so_far_more, so_far_last, so_far_broken}
use Rattle.top_call.proofs.replay.print_all.Goals as goal

pub periods-init : goal.periods-init
periods-init g c = record {
  run = c.requires.fresh;
  scenario = refl;
  so_far = so_far_start g.K.Sink.written g.K.Sink.faults (printed c.args.form c.args.run.now.scenario) c.args.run.now.scenario.periods c.new-printer.result c.args.sink.now
      c.new-printer.ensures.gathered c.new-printer.ensures.failed;
}

pub periods-preserved : goal.periods-preserved
periods-preserved g c =
    let sc = c.args.run.now.scenario in
    let below : c.periods.counter < sc.periods = omega (arith, c.requires.periods, c.periods-test.true) in
    let ran = c.print_next.ensures.ran in
    record {
      run = ap (λ (r : RunView g.row.N). r.run) ran ∙ ap (λ k. k + 1) c.periods.invariant.run;
      scenario = ap (λ (r : RunView g.row.N). r.scenario) ran ∙ c.periods.invariant.scenario;
      so_far = so_far_more g.K.Sink.written g.K.Sink.faults (printed c.args.form sc) sc.periods c.args.sink.now c.periods.sink c.print_next.new.sink
          c.periods.printer c.print_next.new.printer (run_text c.args.form sc) c.periods.counter below c.periods.invariant.so_far
          (rw (c.periods.invariant.scenario, c.periods.invariant.run) at c.print_next.ensures.prints);
    }

pub returns-then-printer : goal.returns-then-printer
returns-then-printer g c =
    let sc = c.args.run.now.scenario in
    let below : c.periods.counter < sc.periods = omega (arith, c.requires.periods, c.periods-test.true) in
    let so_far =
    so_far_more g.K.Sink.written g.K.Sink.faults (printed c.args.form sc) sc.periods c.args.sink.now c.periods.sink c.print_next.new.sink
    c.periods.printer c.print_next.new.printer (run_text c.args.form sc) c.periods.counter below c.periods.invariant.so_far
    (rw (c.periods.invariant.scenario, c.periods.invariant.run) at c.print_next.ensures.prints) in
    so_far_broken g.K.Sink.written g.K.Sink.faults (printed c.args.form sc) sc.periods c.args.sink.now c.print_next.new.sink c.print_next.new.printer
    (run_text c.args.form sc) (c.periods.counter + 1) _ so_far c.if-printer.true

pub returns : goal.returns
returns g c =
    let sc = c.args.run.now.scenario in
    let ends : c.periods.counter ≡ sc.periods = omega (arith, c.requires.periods, c.periods-test.false, c.periods.auto.counter-end) in
    so_far_last g.K.Sink.written g.K.Sink.faults (printed c.args.form sc) sc.periods c.args.sink.now c.periods.sink c.end.new.sink c.finish.new.sink
    c.periods.printer c.end.new.self (run_text c.args.form sc) c.finish.result c.periods.counter ends c.periods.invariant.so_far
    (rw c.requires.periods at c.end.ensures) c.finish.ensures

pub print_next-requires : goal.print_next-requires
print_next-requires g c =
    let stands = c.periods.invariant in
    let more : c.periods.run.run < c.periods.run.scenario.periods = rw stands.scenario (omega (arith, stands.run, c.requires.periods, c.periods-test.true)) in
    (elim g.bound-2.eight_or_sixteen [ inl e ↦ rw e (lit< tt) | inr e ↦ rw e (lit< tt) ], (c.requires.frames, more))
