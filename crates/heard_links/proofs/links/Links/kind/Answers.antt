use Rattle.std.proofs.Common.{◌+◌, sym, ◌∙◌, inl, inr, arith}
use Rattle.std.proofs.lemmas.Bool.{cond-true, cond-false}
use Rattle.node_grid.specs.NodeSet.{has_id}
use Rattle.heard_links.proofs.Standing.{kind_even, kind_told, kind_good}
use Rattle.heard_links.proofs.links.Links.kind.Goals as goal

pub returns-then-has : goal.returns-then-has
returns-then-has g c =
    let a = c.args in
    sym (kind_even g.V.Item.form g.V.Item.first_slot g.V.Item.tells g.V.Item.entry_form g.V.Item.in_range g.met.V.Item.made_of g.met.V.Item.fits a.phase.now a.self.now (a.phase.now.config.now.m + 1) c.requires.heard
    a.round a.from a.to (omega (arith, c.requires.round)) c.requires.round c.requires.from c.requires.to c.requires.other (sym c.in-Untouched.is ∙ c.came.ensures)
    ∙ cond-true (has_id a.phase.now.full a.from) _ _ (sym c.has.ensures ∙ c.if-has.true))

pub returns-else-has : goal.returns-else-has
returns-else-has g c =
    let a = c.args in
    sym (kind_even g.V.Item.form g.V.Item.first_slot g.V.Item.tells g.V.Item.entry_form g.V.Item.in_range g.met.V.Item.made_of g.met.V.Item.fits a.phase.now a.self.now (a.phase.now.config.now.m + 1) c.requires.heard
    a.round a.from a.to (omega (arith, c.requires.round)) c.requires.round c.requires.from c.requires.to c.requires.other (sym c.in-Untouched.is ∙ c.came.ensures)
    ∙ cond-false (has_id a.phase.now.full a.from) _ _ (sym c.has.ensures ∙ c.if-has.false))

pub returns-in-Told : goal.returns-in-Told
returns-in-Told g c =
    let a = c.args in
    elim c.in-Told.is [
      | inl p ↦ sym (kind_told g.V.Item.form g.V.Item.first_slot g.V.Item.tells g.V.Item.entry_form g.V.Item.in_range g.met.V.Item.made_of g.met.V.Item.fits a.phase.now a.self.now (a.phase.now.config.now.m + 1) c.requires.heard a.round a.from a.to p.0 (omega (arith, c.requires.round)) c.requires.from c.requires.to c.requires.other (sym p.1 ∙ c.came.ensures))
      | inr e ↦ sym (kind_good g.V.Item.form g.V.Item.first_slot g.V.Item.tells g.V.Item.entry_form g.V.Item.in_range g.met.V.Item.made_of g.met.V.Item.fits a.phase.now a.self.now (a.phase.now.config.now.m + 1) c.requires.heard a.round a.from a.to (omega (arith, c.requires.round)) c.requires.from c.requires.to c.requires.other (sym e ∙ c.came.ensures))
    ]
