use Rattle.live_law.proofs.LiveLife.{new_law}
use Rattle.live_law.proofs.laws.new_live.Goals as goal

pub returns : goal.returns
returns c = new_law
