use Rattle.std.proofs.Common.{inl, inr, lit<, ap, sym, ◌∙◌, arith}
use Rattle.fault_classes.specs.Line.{effect_at}
use Rattle.cluster_step.proofs.Pieces.{whole_handed, own_handed}
use Rattle.cluster_step.proofs.links.Link.deliver.Goals as goal

pub me-me-requires : goal.me-me-requires
me-me-requires g c = elim g.bound-1.eight_or_sixteen [ inl e ↦ rw e (lit< tt) | inr e ↦ rw e (lit< tt) ]

pub is_touched-requires : goal.is_touched-requires
is_touched-requires g c = (lit< tt, omega (arith, c.me-me.ensures, c.requires.ready.me))

pub deliver_changed-requires : goal.deliver_changed-requires
deliver_changed-requires g c = (
  lit< tt,
  (
    elim g.bound-1.eight_or_sixteen [ inl e ↦ rw e (lit< tt) | inr e ↦ rw e (lit< tt) ],
    (c.requires.ready, (λ e. c.is_touched.ensures.other c.if-is_touched.true (e ∙ sym c.me-me.ensures), c.requires.short)),
  ),
)

pub deliver-requires : goal.deliver-requires
deliver-requires g c = (
  elim g.bound-1.eight_or_sixteen [ inl e ↦ rw e (lit< tt) | inr e ↦ rw e (lit< tt) ],
  (c.requires.ready.is_open, (omega (arith, c.requires.ready.nodes, c.args.self.now.in_use), λ e. c.if-self-me.true (e ∙ sym c.me-me.ensures))),
)

pub returns-then-self-me : goal.returns-then-self-me
returns-then-self-me g c =
    let link = c.args.self.now in
    c.deliver.ensures
    ∙ whole_handed link.plan.now link.period link.slot c.args.node.now link.from c.args.sent.now (λ e. c.if-self-me.true (e ∙ sym c.me-me.ensures))
    (ap (effect_at link.plan.now.lines link.period link.slot link.from) (sym c.me-me.ensures) ∙ c.is_touched.ensures.untouched c.if-is_touched.false c.if-self-me.true)

pub returns-else-self-me : goal.returns-else-self-me
returns-else-self-me g c =
    let link = c.args.self.now in
    own_handed link.plan.now link.period link.slot c.args.node.now link.from c.args.sent.now (c.if-self-me.false ∙ c.me-me.ensures)
