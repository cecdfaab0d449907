use Rattle.std.proofs.Common.{◌≡◌}
use Rattle.node_grid.specs.NodeSet.{ids_where, mask_of}
use Rattle.error_reports.specs.Charge.{charged}
use Rattle.error_reports.proofs.charge.charged.Given as goal

abbrev pub invariant-loop-kind : goal.invariant-loop-kind
invariant-loop-kind g l = l.mask ≡ mask_of (ids_where (charged l.rows l.members l.node) l.kind)
