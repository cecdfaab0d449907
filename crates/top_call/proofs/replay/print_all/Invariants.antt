use Rattle.std.proofs.Common.{◌≡◌}
use Rattle.top_call.specs.Run.{printed, run_text}
use Rattle.top_call.proofs.AtOnce.{PrintedSoFar}
use Rattle.top_call.proofs.replay.print_all.Given as goal

abbrev pub invariant-periods : goal.invariant-periods
invariant-periods g l = record {
  run : l.run.run ≡ l.counter;
  scenario : l.run.scenario ≡ l.initial.run.scenario;
  so_far : PrintedSoFar g.K.Sink.written g.K.Sink.faults l.initial.sink l.printer l.sink (run_text l.form l.initial.run.scenario)
      (printed l.form l.initial.run.scenario) l.initial.run.scenario.periods l.counter;
}
