use Rattle.omh_paths.specs.Tables.{tables_law}
use Rattle.omh_paths.proofs.laws.tables.Goals as goal

pub returns : goal.returns
returns c = tables_law
