use Rattle.std.proofs.Common.{◌≡◌, replicate, []}
use Rattle.relay_table.proofs.free.no_sets.Given as goal

abbrev pub invariant-loop : goal.invariant-loop
invariant-loop g l = l.sets.items ≡ replicate l.counter []
