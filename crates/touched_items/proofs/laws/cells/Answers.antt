use Rattle.touched_items.proofs.Cells.{cells_law}
use Rattle.touched_items.proofs.laws.cells.Goals as goal

pub returns : goal.returns
returns g c = cells_law g.V.Item.form g.V.Item.entry_form g.V.Item.in_range g.met.V.Item.made_of
