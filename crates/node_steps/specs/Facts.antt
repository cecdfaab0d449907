-- Facts that several crates cite.
use Rattle.std.proofs.Common.{Bool, false, if◌then◌else◌, refl, true, ℕ, ◌≡◌}
use Rattle.node_steps.specs.Living.{restarted_if}
use Rattle.node_steps.specs.Parts.{NodeView}
use Rattle.node_steps.specs.Sending.{fixed}
use Rattle.node_steps.specs.Steps.{restarted}

pub same_fixed : {N : ℕ} (b : Bool) (v : NodeView N) → fixed (restarted_if b v) ≡ fixed v
same_fixed true v = refl
same_fixed false v = refl

pub shut_if : {N : ℕ} (b : Bool) (v : NodeView N) → (if b then restarted v else v).phase.is_open ≡ v.phase.is_open
shut_if true v = refl
shut_if false v = refl
