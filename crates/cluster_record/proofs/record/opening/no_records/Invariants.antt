use Rattle.std.proofs.Common.{◌≡◌, length}
use Rattle.cluster_record.proofs.record.opening.no_records.Given as goal

abbrev pub invariant-loop : goal.invariant-loop
invariant-loop g l = length l.records.items ≡ l.counter
