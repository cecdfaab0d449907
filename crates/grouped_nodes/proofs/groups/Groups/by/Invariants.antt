use Rattle.grouped_nodes.proofs.Firsts.{AreFound}
use Rattle.grouped_nodes.proofs.groups.Groups.by.Given as goal

abbrev pub invariant-loop-i : goal.invariant-loop-i
invariant-loop-i g l = AreFound g.row.N l.nodes (goal.F-post g l.alike) l.i l.first
