use Rattle.std.proofs.Common.{◌≡◌, true, take}
use Rattle.std.specs.List.{list_all}
use Rattle.list_scheduler.specs.Schedule.{finished}
use Rattle.list_scheduler.proofs.copies.Copies.is_ready.Given as goal

abbrev pub invariant-loop-before : goal.invariant-loop-before
invariant-loop-before g l = list_all (finished l.graph l.self) (take l.before-index l.before-items) ≡ true
