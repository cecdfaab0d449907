use Rattle.std.proofs.Common.{inl, inr, lit<, refl, sym, ap, subst, ◌∙◌}
use Rattle.frames.specs.Content.Content.{State}
use Rattle.agreed_state.specs.Agreed.{IsAgreed}
use Rattle.agreed_state.specs.Body.{body}
use Rattle.node_steps.specs.Parts.{NodeView}
use Rattle.node_steps.specs.PremiseLaws.{goes_agreed}
use Rattle.node_core.proofs.Spelt.{says_state}
use Rattle.node_core.proofs.controller.Controller.say_state.Goals as goal

pub body-state-requires : goal.body-state-requires
body-state-requires g c =
    let inv = c.self.invariant in
    let v = c.args.self.now in
    let agreed : IsAgreed g.row.N c.self.inside.config.now c.args.agreed.now = subst (λ (w : NodeView g.row.N). IsAgreed g.row.N w.config c.args.agreed.now) (sym c.self.view_is) (goes_agreed v c.args.agreed.now c.requires.ready.sound.sizes c.requires.own.goes) in
    (elim inv.place.capacity [ inl e ↦ rw e (lit< tt) | inr e ↦ rw e (lit< tt) ], (elim inv.place.capacity [ inl e ↦ rw e (lit< tt) | inr e ↦ rw e (lit< tt) ], (inv.place.config_is, agreed)))

pub write-requires : goal.write-requires
write-requires g c =
    let inv = c.self.invariant in
    let v = c.args.self.now in
    let state = c.as_slice-bytes.ensures.value ∙ c.body-state.ensures.bytes ∙ ap (λ (w : NodeView g.row.N). body w.config c.args.agreed.now) c.self.view_is in (
      elim inv.place.capacity [ inl e ↦ rw e (lit< tt) | inr e ↦ rw e (lit< tt) ],
      (
        elim inv.place.capacity [ inl e ↦ rw e (lit< tt) | inr e ↦ rw e (lit< tt) ],
        (c.requires.ready, (c.head.ensures, (tt, (says_state v c.args.agreed.now c.requires.own c.requires.slot ∙ sym (ap State state), refl)))),
      ),
    )

pub returns-clause-room : goal.returns-clause-room
returns-clause-room g c = c.write.ensures.room

pub returns-clause-written : goal.returns-clause-written
returns-clause-written g c = c.write.ensures.written

pub head-requires : goal.head-requires
head-requires g c = elim c.self.invariant.place.capacity [ inl e ↦ rw e (lit< tt) | inr e ↦ rw e (lit< tt) ]

pub as_slice-bytes-requires : goal.as_slice-bytes-requires
as_slice-bytes-requires g c = lit< tt
