use Rattle.node_grid.specs.CapacityLaws.{capacity-le}
use Rattle.node_steps.specs.SoundSteps.{sound_after_slot, sound_begun}
use Rattle.node_steps.proofs.laws.stays_sound.Goals as goal

pub returns : goal.returns
returns c = record { slot = λ N v cap ok h open'. sound_after_slot v (capacity-le N cap) ok h open'; begin = λ N v period inputs ok given h. sound_begun v period inputs ok given h }
