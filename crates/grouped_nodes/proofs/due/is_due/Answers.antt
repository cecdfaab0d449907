use Rattle.std.proofs.Common.{◌&&◌, ap, ◌∙◌, lit<, inl, inr}
use Rattle.std.specs.Prelude.{not}
use Rattle.node_grid.specs.Capacity.{IsCapacity}
use Rattle.list_scheduler.specs.Schedule.{finished}
use Rattle.agreed_state.specs.Agreed.{AgreedView}
use Rattle.grouped_nodes.proofs.Finishing.{due_without, due_with, below}
use Rattle.grouped_nodes.proofs.due.is_due.Goals as goal

pub returns-in-None : goal.returns-in-None
returns-in-None g c = λ done is. due_without c.args.config.now c.args.state.now done c.args.channel.now c.in-None.ensures

pub finishes-requires : goal.finishes-requires
finishes-requires g c =
    let cap : IsCapacity g.row.N = g.bound-1.eight_or_sixteen in
    let low = below c.args.config.now.nodes _ c.in-Some.task c.args.channel.now c.requires.channel c.in-Some.ensures in
    (lit< tt, (elim cap [ inl e ↦ rw e (lit< tt) | inr e ↦ rw e (lit< tt) ], low))

pub returns-in-Some : goal.returns-in-Some
returns-in-Some g c = λ done is.
    c.finishes.ensures
    ∙ ap (λ (v : AgreedView). not (finished c.args.config.now.graph v.copies c.in-Some.task) && finished c.args.config.now.graph c.args.after.now c.in-Some.task) c.state.view_is
    ∙ due_with c.args.config.now c.args.state.now done c.args.after.now c.in-Some.task c.args.channel.now is c.in-Some.ensures
