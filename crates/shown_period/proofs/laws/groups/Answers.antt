use Rattle.shown_period.specs.WholeLaws.{alike_in_group}
use Rattle.shown_period.proofs.laws.groups.Goals as goal

pub returns : goal.returns
returns c = λ N made i j e. alike_in_group made i j e
