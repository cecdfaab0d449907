use Rattle.std.proofs.Common.{◌≡◌}
use Rattle.worked_paths.proofs.plain.put_length.Given as goal

abbrev pub invariant-loop-place : goal.invariant-loop-place
invariant-loop-place l = l.table ≡ record l.initial.table { heard = l.table.heard }
