use Rattle.heard_links.proofs.Saying.{says_small, says_none, are_passed_on}
use Rattle.heard_links.proofs.ear.listen.Goals as goal

pub returns-clause-small : goal.returns-clause-small
returns-clause-small g c =
    says_small g.V.Item.form g.V.Item.first_slot g.V.Item.tells g.V.Item.entry_form g.V.Item.in_range g.met.V.Item.made_of g.met.V.Item.fits c.args.phase.now c.args.links.now c.requires.heard

pub returns-clause-even : goal.returns-clause-even
returns-clause-even g c =
    says_none g.V.Item.form g.V.Item.first_slot g.V.Item.tells g.V.Item.entry_form g.V.Item.in_range g.met.V.Item.made_of g.met.V.Item.fits c.args.phase.now c.args.links.now c.requires.heard

pub returns-clause-passed_on : goal.returns-clause-passed_on
returns-clause-passed_on g c =
    are_passed_on g.V.Item.form g.V.Item.first_slot g.V.Item.tells g.V.Item.entry_form g.V.Item.in_range g.met.V.Item.made_of g.met.V.Item.fits c.args.phase.now c.args.links.now c.requires.heard
