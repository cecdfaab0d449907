use Rattle.heard_links.proofs.TalkLaws.{good_law}
use Rattle.heard_links.proofs.laws.good.Goals as goal

pub returns : goal.returns
returns g c = λ sys x item set run r j i few low_j low_i full even.
    good_law g.V.Item.form g.V.Item.first_slot g.V.Item.tells g.V.Item.entry_form g.V.Item.in_range g.met.V.Item.made_of g.met.V.Item.fits sys x item set run r j i few low_j low_i full even
