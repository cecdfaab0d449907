use Rattle.error_detect.proofs.Standing.{entries_stand}
use Rattle.error_detect.proofs.laws.entries_stand.Goals as goal

pub returns : goal.returns
returns c = entries_stand
