use Rattle.std.proofs.Common.{◌≡◌, ◌&&◌, ◌==◌, not, get_or}
use Rattle.node_grid.specs.NodeSet.{ids_where_below}
use Rattle.heard_states.specs.Hearing.{is_heard_well}
use Rattle.heard_states.specs.declared.hearing.Heard.TheVariants.{Bad}
use Rattle.heard_states.proofs.hearing.good_of.Given as goal

abbrev pub invariant-loop-from : goal.invariant-loop-from
invariant-loop-from g l = l.good ≡ ids_where_below (λ j. not (j == l.to) && is_heard_well (get_or l.heard j (Bad 0))) g.row.N l.from
