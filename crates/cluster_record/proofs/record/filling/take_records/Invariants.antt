use Rattle.std.proofs.Common.{ℕ, ◌≡◌, ◌<◌, map, get_or}
use Rattle.node_steps.specs.Outcome.{Outcome}
use Rattle.node_steps.specs.Parts.{NodeView}
use Rattle.cluster_record.proofs.record.filling.take_records.Given as goal

abbrev pub invariant-loop-i : goal.invariant-loop-i
invariant-loop-i g l = (k : ℕ) (d : Outcome) → k < l.i → get_or l.records k d ≡ get_or (map (λ (v : NodeView g.row.N). v.outcome) l.nodes) k d
