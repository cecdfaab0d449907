use Rattle.view_law.proofs.Rows.{nothing_noted}
use Rattle.view_law.proofs.idle.Goals as goal

pub returns : goal.returns
returns c = nothing_noted
