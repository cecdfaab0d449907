use Rattle.node_grid.specs.Version.{kind_count}
use Rattle.view_law.proofs.Rows.{carried_noted, carried_more, nothing_carried, empty_carried}
use Rattle.view_law.proofs.carried.Goals as goal

pub returns : goal.returns
returns c = record {
  begun = λ N config i k. empty_carried N config.nodes i (kind_count config.version) k.carried;
  noted = carried_noted;
  carried = carried_more;
  idle = nothing_carried;
}
