use Rattle.std.proofs.Common.{◌≡◌, ◌≤◌}
use Rattle.span_io.specs.Progress.{SoFar}
use Rattle.top_call.specs.Alone.{log_printed, log_text}
use Rattle.top_call.proofs.Rest.{rest_text}
use Rattle.top_call.proofs.alone.write_run.Given as goal

abbrev pub invariant-periods : goal.invariant-periods
invariant-periods g l = record {
  few : l.period ≤ l.log.scenario.periods;
  stands : l.alone ≡ record { input = l.log; run = l.period };
  so_far : SoFar (g.K.Sink.written l.initial.sink) (g.K.Sink.written l.sink) (g.K.Sink.faults l.initial.sink) (g.K.Sink.faults l.sink)
      (log_text l.log) (rest_text (log_printed l.log) l.log.scenario.periods l.period);
}
