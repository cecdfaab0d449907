use Rattle.std.proofs.Common.{refl}
use Rattle.run_print.specs.Example.{believed}
use Rattle.run_print.proofs.Joining.{all_gathered}
use Rattle.run_print.proofs.shown.gathered.Goals as goal

pub returns : goal.returns
returns g c fits = all_gathered _ _ _ _ _ _ (believed c.args.shown.now c.args.i) refl refl c.new-printer.ensures.gathered c.new-printer.ensures.failed fits c.beliefs_at.ensures
