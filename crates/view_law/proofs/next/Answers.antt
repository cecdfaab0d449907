use Rattle.view_law.proofs.Keeping.{next_is}
use Rattle.view_law.proofs.next.Goals as goal

pub returns : goal.returns
returns c = next_is
