use Rattle.std.proofs.Common.{rules, sym, ◌∙◌, inl, inr, lit<}
use Rattle.heard_links.proofs.Saying.{asked_is, known_heard}
use Rattle.heard_links.proofs.links.Links.heard_or.Goals as goal

pub heard-requires : goal.heard-requires
heard-requires g c = (
  search rules,
  (
    elim c.requires.heard.set.capacity [ inl e ↦ rw e (lit< tt) | inr e ↦ rw e (lit< tt) ],
    (
      c.requires.heard,
      asked_is g.V.Item.form g.V.Item.first_slot g.V.Item.tells g.V.Item.entry_form g.V.Item.in_range g.met.V.Item.made_of g.met.V.Item.fits c.args.phase.now c.args.self.now c.requires.heard
          c.args.i c.args.path.now (sym c.is_asked.ensures ∙ c.if-is_asked.true),
    ),
  ),
)

pub returns-then-is_asked-clause-known : goal.returns-then-is_asked-clause-known
returns-then-is_asked-clause-known g c = λ e.
    known_heard g.V.Item.form g.V.Item.first_slot g.V.Item.tells g.V.Item.entry_form g.V.Item.in_range g.met.V.Item.made_of g.met.V.Item.fits c.args.phase.now c.args.self.now c.requires.heard
    c.args.i c.args.path.now (sym c.is_asked.ensures ∙ c.if-is_asked.true) (sym c.heard.ensures ∙ e)
