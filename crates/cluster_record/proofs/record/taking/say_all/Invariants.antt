use Rattle.std.proofs.Common.{ℕ, ◌≡◌, ◌<◌, [], map, get_or, Vec, Global}
use Rattle.std.specs.Prelude.{All}
use Rattle.node_steps.specs.Steps.{frame_of}
use Rattle.cluster_record.specs.Buffers.{IsBuffer}
use Rattle.cluster_record.proofs.record.taking.say_all.Given as goal

abbrev pub invariant-loop-i : goal.invariant-loop-i
invariant-loop-i g l = ((k : ℕ) → k < l.i → get_or (map (λ (f : Vec ℕ Global). f.items) l.frames) k [] ≡ get_or (map frame_of l.nodes) k []) × All (IsBuffer l.room) l.frames
