use Rattle.view_law.proofs.Rows.{noted_either_way}
use Rattle.view_law.proofs.either_way.Goals as goal

pub returns : goal.returns
returns c = noted_either_way
