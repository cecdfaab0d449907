use Rattle.live_law.proofs.Lines.{lines_law}
use Rattle.live_law.proofs.laws.lines.Goals as goal

pub returns : goal.returns
returns c = lines_law
