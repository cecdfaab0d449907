use Rattle.std.proofs.Common.{◌≡◌}
use Rattle.worked_paths.proofs.plain.Receiver.settle.Given as goal

abbrev pub invariant-loop-relays : goal.invariant-loop-relays
invariant-loop-relays l = l.self.table ≡ record l.initial.self.table { heard = l.self.table.heard }
