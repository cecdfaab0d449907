use Rattle.input_lines.specs.Splits.{front_law}
use Rattle.input_lines.proofs.laws.front.Goals as goal

pub returns : goal.returns
returns c = front_law
