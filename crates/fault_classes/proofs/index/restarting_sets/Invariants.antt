use Rattle.std.proofs.Common.{take}
use Rattle.fault_classes.specs.Index.{IsRestarting}
use Rattle.fault_classes.proofs.index.restarting_sets.Given as goal

abbrev pub invariant-loop-restart : goal.invariant-loop-restart
invariant-loop-restart g l = IsRestarting g.row.N l.fn.size.periods (take l.restart-index l.restarts) l.sets.items
