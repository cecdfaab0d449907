use Rattle.std.proofs.Common.{ℕ, List, sym, ap₂, ◌∙◌, lit<}
use Rattle.node_grid.specs.NodeSet.{ids_where}
use Rattle.agreed_state.specs.declared.config.Config.{Config}
use Rattle.data_slot.specs.Votes.{is_off}
use Rattle.told_values.specs.Slot.{slot_of}
use Rattle.told_values.proofs.Sending.{channels_low}
use Rattle.told_values.proofs.Voting.{offs_are}
use Rattle.told_values.proofs.slot.DataSlot.off.Goals as goal

pub returns : goal.returns
returns g c = λ j y same is.
    let d = slot_of g.D.Dues.dues c.args.self.now in
    offs_are d j y c.args.told.now is c.args.votes.now c.nodes_off.result
    (c.nodes_off.ensures ∙ ap₂ (λ (config : Config g.row.N) (ds : List ℕ). ids_where (is_off config ds c.args.told.now c.args.votes.now) config.nodes) c.config.ensures.config (c.due.ensures.due ∙ sym same))

pub nodes_off-requires : goal.nodes_off-requires
nodes_off-requires g c =
    (lit< tt, (lit< tt, channels_low (slot_of g.D.Dues.dues c.args.self.now) c.config.ensures.slot c.args.i c.requires c.config.result.now c.due.result.now c.config.ensures.config c.due.ensures.due))
