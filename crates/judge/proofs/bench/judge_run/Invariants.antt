use Rattle.std.proofs.Common.{◌≡◌}
use Rattle.run_judged.specs.Judging.{Judges}
use Rattle.judge.proofs.bench.judge_run.Given as goal

abbrev pub invariant-periods : goal.invariant-periods
invariant-periods g l = record {
  same : l.run.scenario ≡ l.scenario;
  run : l.run.run ≡ l._period;
  judges : Judges l.scenario l.judge;
  periods : l.judge.periods ≡ l._period;
}
