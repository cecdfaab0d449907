use Rattle.node_steps.proofs.FramesOwed.{frames_are_owed}
use Rattle.node_steps.proofs.laws.frames_are_owed.Goals as goal

pub returns : goal.returns
returns c = frames_are_owed
