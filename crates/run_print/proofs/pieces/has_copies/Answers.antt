use Rattle.std.proofs.lemmas.Bool.{ltb-false}
use Rattle.run_print.proofs.Runs.{none_beyond}
use Rattle.run_print.proofs.pieces.has_copies.Goals as goal

pub returns-clause-beyond : goal.returns-clause-beyond
returns-clause-beyond g c e = none_beyond g.row.N c.args.copies.now c.args.node c.at.ensures.shape (ltb-false c.args.node g.row.N e)
