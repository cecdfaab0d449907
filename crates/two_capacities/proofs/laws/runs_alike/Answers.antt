use Rattle.two_capacities.proofs.Runs.{believed_wide, sent_wide}
use Rattle.two_capacities.proofs.Clocks.{offsets_wide}
use Rattle.two_capacities.proofs.laws.runs_alike.Goals as goal

pub returns : goal.returns
returns c size k g few few_graph plan inputs = record {
  believed = believed_wide k g few few_graph plan inputs;
  sends = sent_wide k g few few_graph plan inputs;
  clocks = offsets_wide k g few few_graph plan inputs;
}
