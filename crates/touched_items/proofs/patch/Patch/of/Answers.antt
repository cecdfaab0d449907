use Rattle.std.proofs.Common.{List, ℕ, ap₂, ◌∙◌}
use Rattle.fault_link.specs.Arrival.{patched}
use Rattle.touched_items.proofs.Overlays.{not_set}
use Rattle.touched_items.proofs.patch.Patch.of.Goals as goal

pub returns : goal.returns
returns c = λ frame. ap₂ (λ (at : ℕ) (bytes : List ℕ). patched at bytes frame) c.at-2.ensures.offset c.at-2.ensures.bytes ∙ not_set c.args.effect.now c.in_default.not-Set frame
