use Rattle.safety.proofs.Induction.{data_law}
use Rattle.safety.proofs.laws.views.data.Goals as goal

pub returns : goal.returns
returns c = data_law c.members.ensures
