use Rattle.input_lines.specs.Splits.{split_law}
use Rattle.input_lines.proofs.laws.split.Goals as goal

pub returns : goal.returns
returns c = split_law
