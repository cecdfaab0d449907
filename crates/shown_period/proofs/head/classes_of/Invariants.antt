use Rattle.std.proofs.Common.{ℕ, ◌≡◌, ◌<◌, length, get_or}
use Rattle.node_grid.specs.declared.class.Class.TheVariants.{N}
use Rattle.cluster_record.specs.Filling.{class_or_first}
use Rattle.shown_period.proofs.head.classes_of.Given as goal

abbrev pub invariant-loop-node : goal.invariant-loop-node
invariant-loop-node g l = (length l.classes ≡ g.row.N) × ((k : ℕ) → k < l.node → get_or l.classes k N ≡ class_or_first l.plan l.nodes l.period k)
