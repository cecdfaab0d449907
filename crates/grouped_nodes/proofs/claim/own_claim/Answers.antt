use Rattle.std.proofs.Common.{sym, subst, lit<, inl, inr}
use Rattle.node_grid.specs.Capacity.{IsCapacity}
use Rattle.list_scheduler.specs.Copies.{IsCopies}
use Rattle.list_scheduler.specs.Facts.{works_low}
use Rattle.agreed_state.specs.Agreed.{AgreedView}
use Rattle.grouped_nodes.proofs.claim.own_claim.Goals as goal

pub running_in-requires : goal.running_in-requires
running_in-requires g c =
    let cap : IsCapacity g.row.N = g.bound-1.eight_or_sixteen in
    let copies = subst (λ (v : AgreedView). IsCopies c.args.config.now.graph v.copies) (sym c.state.view_is) c.requires.agreed.copies in
    (lit< tt, (elim cap [ inl e ↦ rw e (lit< tt) | inr e ↦ rw e (lit< tt) ], (copies, c.requires.me)))

pub claim_at-requires : goal.claim_at-requires
claim_at-requires g c = works_low c.state.inside.copies c.args.me c.running_in.result c.running_in.ensures
