use Rattle.std.proofs.Common.{◌≡◌, refl, inl, inr, lit<, sym, ap, ◌∙◌}
use Rattle.frames.specs.Content.Content.{Cold}
use Rattle.node_steps.specs.Parts.{NodeView}
use Rattle.node_steps.specs.Ready.{IsFullWith}
use Rattle.node_steps.specs.Steps.{said_by}
use Rattle.node_core.proofs.Spelt.{says_cold}
use Rattle.node_core.proofs.controller.Controller.say.Goals.{in-Some+else-self, in-None}
use Rattle.node_core.proofs.controller.Controller.say.Goals as goal

pub say_own-requires : goal.say_own-requires
say_own-requires g c =
    let inv = c.self.invariant in
    let v = c.args.self.now in
    let own : IsFullWith v c.in-Some.agreed = record {
      full = ap (λ (w : NodeView g.row.N). w.phase.full) (sym c.self.view_is) ∙ c.if-self.true;
      goes = ap (λ (w : NodeView g.row.N). w.phase.before) (sym c.self.view_is) ∙ c.in-Some.is;
    } in
    (elim inv.place.capacity [ inl e ↦ rw e (lit< tt) | inr e ↦ rw e (lit< tt) ], (elim inv.place.capacity [ inl e ↦ rw e (lit< tt) | inr e ↦ rw e (lit< tt) ], (c.requires.ready, own)))

pub write-requires : goal.write-requires
write-requires g c =
    let inv = c.self.invariant in
    let v = c.args.self.now in
    let cold : said_by v v.phase.before ≡ Cold = elim c.match-self.branch [
      | in-Some+else-self w ↦ says_cold v (ap (λ (u : NodeView g.row.N). u.phase.full) (sym c.self.view_is) ∙ w.if-self.false)
      | in-None w ↦ ap (said_by v) (ap (λ (u : NodeView g.row.N). u.phase.before) (sym c.self.view_is) ∙ w.in-None.is)
    ] in (
      elim inv.place.capacity [ inl e ↦ rw e (lit< tt) | inr e ↦ rw e (lit< tt) ],
      (
        elim inv.place.capacity [ inl e ↦ rw e (lit< tt) | inr e ↦ rw e (lit< tt) ],
        (c.requires.ready, (c.head.ensures, (tt, (cold, refl)))),
      ),
    )

pub returns-then-self-clause-room : goal.returns-then-self-clause-room
returns-then-self-clause-room g c = c.say_own.ensures.room

pub returns-then-self-clause-written : goal.returns-then-self-clause-written
returns-then-self-clause-written g c = c.say_own.ensures.written

pub returns-clause-room : goal.returns-clause-room
returns-clause-room g c = c.write.ensures.room

pub returns-clause-written : goal.returns-clause-written
returns-clause-written g c = c.write.ensures.written

pub head-requires : goal.head-requires
head-requires g c = elim c.self.invariant.place.capacity [ inl e ↦ rw e (lit< tt) | inr e ↦ rw e (lit< tt) ]
