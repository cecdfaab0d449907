use Rattle.fault_classes.specs.BudgetLaws.{within_budget, budget_within}
use Rattle.fault_classes.proofs.laws.budget.Goals as goal

pub returns : goal.returns
returns c plan p members b m counted = (within_budget plan p members b m counted, budget_within plan p members b m counted)
