use Rattle.std.proofs.Common.{sym, ◌∙◌, inl, inr, arith}
use Rattle.heard_links.proofs.Standing.{heard_first_even, not_good_first}
use Rattle.heard_links.proofs.links.Links.heard_first.Goals as goal

pub returns-in-Untouched : goal.returns-in-Untouched
returns-in-Untouched g c =
    let a = c.args in
    elim c.in-Untouched.is [
      | inl e ↦
          c.own.ensures
          ∙ sym (heard_first_even g.V.Item.form g.V.Item.first_slot g.V.Item.tells g.V.Item.entry_form g.V.Item.in_range g.met.V.Item.made_of g.met.V.Item.fits a.phase.now a.self.now 1 c.requires.heard a.q a.i (omega arith) c.requires.from c.requires.node c.requires.other (sym e ∙ c.came.ensures))
      | inr e ↦ absurd (not_good_first g.V.Item.form g.V.Item.first_slot g.V.Item.tells g.V.Item.entry_form g.V.Item.in_range g.met.V.Item.made_of g.met.V.Item.fits a.phase.now a.self.now 1 c.requires.heard a.q a.i (omega arith) c.requires.from c.requires.node c.requires.other (sym e ∙ c.came.ensures))
    ]
