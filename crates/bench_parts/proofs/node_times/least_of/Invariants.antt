use Rattle.std.proofs.Common.{◌≡◌}
use Rattle.bench_parts.proofs.node_times.least_of.Given as goal

abbrev pub invariant-periods : goal.invariant-periods
invariant-periods l = (l.cluster.run ≡ l.counter) × (l.cluster.scenario ≡ l.fn.scenario)
