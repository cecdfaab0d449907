use Rattle.std.proofs.Common.{ℕ, List, Option, inl, inr, lit<, sym, ap, ap₂, subst, ◌∙◌}
use Rattle.std.specs.Prelude.{IfSome}
use Rattle.std.proofs.lemmas.List.{length-replicate}
use Rattle.omh.specs.Heard.{Hearing}
use Rattle.error_reports.specs.Notes.{Notes}
use Rattle.agreed_state.specs.Agreed.{AgreedView, IsAgreed, agreed_after}
use Rattle.protocol.specs.Arrival.{row_form}
use Rattle.relaying.specs.Hearing.{after_round}
use Rattle.node_steps.specs.Parts.{NodeView}
use Rattle.node_steps.specs.Sound.{Hears}
use Rattle.node_steps.specs.Steps.{ended}
use Rattle.node_core.specs.Closing.{IsReportClosed}
use Rattle.node_core.proofs.Ended.{if_some, ended_well, carried_is, ended_is}
use Rattle.node_core.proofs.controller.Controller.end_with_state.Goals as goal

pub settle-guilty-requires : goal.settle-guilty-requires
settle-guilty-requires g c =
    let cap = c.self.invariant.place.capacity in
    (elim cap [ inl e ↦ rw e (lit< tt) | inr e ↦ rw e (lit< tt) ], (lit< tt, (lit< tt, (subst (λ (v : NodeView g.row.N). IsReportClosed v.rows.rounds v) (sym c.self.view_is) c.requires.closed, length-replicate g.row.N _))))

pub settle-guilty-requires-room-V-Item : goal.settle-guilty-requires-room-V-Item
settle-guilty-requires-room-V-Item g c = λ κs. elim c.self.invariant.place.capacity [ inl e ↦ rw e (lit< tt) | inr e ↦ rw e (lit< tt) ]

pub settle-guilty-requires-room-V-RelayedItem : goal.settle-guilty-requires-room-V-RelayedItem
settle-guilty-requires-room-V-RelayedItem g c = λ κs. elim c.self.invariant.place.capacity [ inl e ↦ rw e (lit< tt) | inr e ↦ rw e (lit< tt) ]

pub settle-guilty-requires-room-V-Eq : goal.settle-guilty-requires-room-V-Eq
settle-guilty-requires-room-V-Eq g c = λ κs. elim c.self.invariant.place.capacity [ inl e ↦ rw e (lit< tt) | inr e ↦ rw e (lit< tt) ]

pub settle-guilty-requires-room-V-PartialEq : goal.settle-guilty-requires-room-V-PartialEq
settle-guilty-requires-room-V-PartialEq g c = λ κs. elim c.self.invariant.place.capacity [ inl e ↦ rw e (lit< tt) | inr e ↦ rw e (lit< tt) ]

pub rows_of-rows-requires : goal.rows_of-rows-requires
rows_of-rows-requires g c = (elim c.self.invariant.place.capacity [ inl e ↦ rw e (lit< tt) | inr e ↦ rw e (lit< tt) ], (elim c.self.invariant.place.capacity [ inl e ↦ rw e (lit< tt) | inr e ↦ rw e (lit< tt) ], elim c.self.invariant.place.capacity [ inl e ↦ rw e (lit< tt) | inr e ↦ rw e (lit< tt) ]))

pub step-requires : goal.step-requires
step-requires g c =
    let n = c.self.inside in
    let cap = c.self.invariant.place.capacity in
    let agreed = subst (λ (v : NodeView g.row.N). IfSome v.phase.before (λ a. IsAgreed g.row.N v.config a)) (sym c.self.view_is) c.requires.agreed in
    let valid : IsAgreed g.row.N n.config.now c.in-Some.agreed = subst (λ (o : Option AgreedView). IfSome o (λ a. IsAgreed g.row.N n.config.now a)) c.in-Some.is agreed in
    (elim cap [ inl e ↦ rw e (lit< tt) | inr e ↦ rw e (lit< tt) ], (elim cap [ inl e ↦ rw e (lit< tt) | inr e ↦ rw e (lit< tt) ], (elim cap [ inl e ↦ rw e (lit< tt) | inr e ↦ rw e (lit< tt) ], (elim cap [ inl e ↦ rw e (lit< tt) | inr e ↦ rw e (lit< tt) ], (c.self.invariant.place.config_is, subst (IsAgreed g.row.N n.config.now) (sym c.agreed.view_is) valid)))))

pub invariant_of-self : goal.invariant_of-self
invariant_of-self g c = ended_well c.self.inside c.self.invariant _ c.settle-guilty.new.table _ _ c.carry_all.ensures

pub returns : goal.returns
returns g c =
    let n = c.self.inside in
    let is = c.self.view_is in
    let a : AgreedView = c.in-Some.agreed in
    let h : Hearing (List ℕ) = after_round row_form n.rows.nodes n.watch n.rows.rounds n.rows in
    let hears : Hears n.rows n.phase.me a =
    subst (λ (o : Option AgreedView). IfSome o (λ b. Hears n.rows n.phase.me b)) c.in-Some.is
    (subst (λ (v : NodeView g.row.N). IfSome v.phase.before (λ b. Hears v.rows v.phase.me b)) (sym is) c.requires.hears) in
    let still : Hears h n.phase.me a = record { members = hears.members; me_is = hears.me_is } in
    let rows = c.rows_of-rows.ensures ∙ c.settle-guilty.ensures.settled in
    if_some _ c.args.self.now.phase.before a (ap (λ (v : NodeView g.row.N). v.phase.before) (sym is) ∙ c.in-Some.is)
    (ended_is n c.self.invariant a h still c.carry_all.new.self.carried c.settle-guilty.new.table c.rows_of-rows.result c.step.new.self _ c.agreed.inside.members c.copied.result.items c.row.result
    (ap (λ (x : Notes). x.carried) (carried_is n c.self.invariant a h still c.settle-guilty.result c.carry_all.new.self c.settle-guilty.ensures.guilty c.carry_all.ensures))
    c.settle-guilty.ensures.forgotten
    rows
    (c.step.ensures.step ∙ ap₂ (λ (b : AgreedView) (rs : List (Option (List ℕ))). agreed_after g.row.N n.config.now n.phase.period b n.found.claims rs) c.agreed.view_is rows)
    c.mode_through.ensures
    (ap (λ (b : AgreedView). b.standing.members) c.agreed.view_is)
    (c.copied.ensures ∙ c.as_slice.ensures.value)
    c.row.ensures
    ∙ ap (λ (v : NodeView g.row.N). ended v (after_round row_form v.rows.nodes v.arrived v.rows.rounds v.rows) a) is)

pub as_slice-requires : goal.as_slice-requires
as_slice-requires g c = lit< tt

pub carry_all-requires : goal.carry_all-requires
carry_all-requires g c = (elim c.self.invariant.place.capacity [ inl e ↦ rw e (lit< tt) | inr e ↦ rw e (lit< tt) ], lit< tt)

pub copied-requires : goal.copied-requires
copied-requires g c = c.as_slice.ensures.fits

pub mode_through-requires : goal.mode_through-requires
mode_through-requires g c = tt

pub row-requires : goal.row-requires
row-requires g c = (elim c.self.invariant.place.capacity [ inl e ↦ rw e (lit< tt) | inr e ↦ rw e (lit< tt) ], elim c.self.invariant.place.capacity [ inl e ↦ rw e (lit< tt) | inr e ↦ rw e (lit< tt) ])

pub whole_as_slice-settle : goal.whole_as_slice-settle
whole_as_slice-settle g c = elim g.bound-1.eight_or_sixteen [ inl e ↦ rw e (lit< tt) | inr e ↦ rw e (lit< tt) ]

pub nothing-items-requires-room-V-Item : goal.nothing-items-requires-room-V-Item
nothing-items-requires-room-V-Item g c = λ κs. elim g.bound-1.eight_or_sixteen [ inl e ↦ rw e (lit< tt) | inr e ↦ rw e (lit< tt) ]

pub nothing-items-requires-room-V-Exact : goal.nothing-items-requires-room-V-Exact
nothing-items-requires-room-V-Exact g c = λ κs. elim g.bound-1.eight_or_sixteen [ inl e ↦ rw e (lit< tt) | inr e ↦ rw e (lit< tt) ]

pub nothing-items-requires-room-V-Eq : goal.nothing-items-requires-room-V-Eq
nothing-items-requires-room-V-Eq g c = λ κs. elim g.bound-1.eight_or_sixteen [ inl e ↦ rw e (lit< tt) | inr e ↦ rw e (lit< tt) ]

pub nothing-items-requires-room-V-PartialEq : goal.nothing-items-requires-room-V-PartialEq
nothing-items-requires-room-V-PartialEq g c = λ κs. elim g.bound-1.eight_or_sixteen [ inl e ↦ rw e (lit< tt) | inr e ↦ rw e (lit< tt) ]

pub settle-guilty-requires-room-V-Exact : goal.settle-guilty-requires-room-V-Exact
settle-guilty-requires-room-V-Exact g c = λ κs. elim g.bound-1.eight_or_sixteen [ inl e ↦ rw e (lit< tt) | inr e ↦ rw e (lit< tt) ]
