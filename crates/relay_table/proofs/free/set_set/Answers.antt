use Rattle.relay_walk.specs.LaidLaws.{laid_one}
use Rattle.relay_table.proofs.free.set_set.Goals as goal

pub returns : goal.returns
returns g c = laid_one c.args.place c.args.set.now c.args.sets.now c.requires.place
