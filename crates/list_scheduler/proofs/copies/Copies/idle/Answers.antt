use Rattle.std.proofs.Common.{sym, subst}
use Rattle.list_scheduler.specs.Copies.{IsTable}
use Rattle.list_scheduler.specs.Schedule.{all_idle}
use Rattle.list_scheduler.specs.CopyLaws.{table_idle, IsTable-table}
use Rattle.list_scheduler.proofs.copies.Copies.idle.Goals as goal

pub invariant_of-result : goal.invariant_of-result
invariant_of-result g c = subst (IsTable g.row.N) (table_idle g.row.N) (IsTable-table g.row.N all_idle)

pub returns : goal.returns
returns g c = sym (table_idle g.row.N)
