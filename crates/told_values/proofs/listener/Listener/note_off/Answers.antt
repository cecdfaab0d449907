use Rattle.std.proofs.Common.{sym, ap, ◌∙◌}
use Rattle.node_grid.specs.NodeSet.{without_id}
use Rattle.told_values.proofs.Noting.{nobody_off}
use Rattle.told_values.proofs.listener.Listener.note_off.Goals as goal

pub returns-else-not-is_empty : goal.returns-else-not-is_empty
returns-else-not-is_empty g c =
    nobody_off g.row.N c.args.notes.now c.args.off.now (ap (without_id c.args.off.now) c.requires.notes.me_is ∙ sym c.without.ensures ∙ c.is_empty.ensures.0 c.if-not-is_empty.false) c.requires.notes.within
