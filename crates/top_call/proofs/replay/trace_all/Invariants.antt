use Rattle.std.proofs.Common.{◌≡◌}
use Rattle.span_io.specs.Progress.{SoFar}
use Rattle.top_call.specs.declared.form.Form.TheVariants as form
use Rattle.top_call.specs.Run.{printed, run_text}
use Rattle.top_call.proofs.Rest.{rest_text}
use Rattle.top_call.proofs.replay.trace_all.Given as goal

abbrev pub invariant-periods : goal.invariant-periods
invariant-periods g l = record {
  run : l.cluster.run ≡ l.counter;
  scenario : l.cluster.scenario ≡ l.scenario;
  so_far : SoFar (g.K.Sink.written l.initial.sink) (g.K.Sink.written l.sink) (g.K.Sink.faults l.initial.sink) (g.K.Sink.faults l.sink)
      (run_text form.Trace l.scenario) (rest_text (printed form.Trace l.scenario) l.scenario.periods l.counter);
}
