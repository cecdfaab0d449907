use Rattle.std.proofs.Common.{◌==◌, None}
use Rattle.std.specs.Cmp.Lexicographic.{pointwise}
use Rattle.protocol.specs.Arrival.{row_form}
use Rattle.at_once.specs.Phases.{node_item}
use Rattle.at_once.proofs.Filled.{IsFilledBelow}
use Rattle.at_once.proofs.rows.rows_settled.Given as goal

abbrev pub invariant-loop-c : goal.invariant-loop-c
invariant-loop-c g l = IsFilledBelow g.row.N None (node_item (pointwise ◌==◌) row_form l.phase l.rows l.i) l.c l.settled
