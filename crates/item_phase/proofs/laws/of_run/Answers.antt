use Rattle.item_phase.proofs.OfRun.{is_of_run}
use Rattle.item_phase.proofs.laws.of_run.Goals as goal

pub returns : goal.returns
returns g c = λ sys x links set run i on.
    is_of_run g.V.PartialEq.eq g.V.Item.form g.V.Item.first_slot g.V.Item.tells g.V.Item.entry_form g.V.Item.in_range g.met.V.Item.made_of g.met.V.Item.fits sys x links set run i on
