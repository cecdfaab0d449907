use Rattle.view_law.proofs.Keeping.{begun_within}
use Rattle.view_law.proofs.Rows.{noted_within}
use Rattle.view_law.proofs.within.Goals as goal

pub returns : goal.returns
returns c = record { begun = begun_within; noted = noted_within }
