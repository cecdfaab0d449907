use Rattle.node_steps.proofs.PeriodStages.{fold_is_view}
use Rattle.node_steps.proofs.laws.fold_is_view.Goals as goal

pub returns : goal.returns
returns c = fold_is_view c.finds_each.ensures
