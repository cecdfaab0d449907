use Rattle.std.proofs.Common.{lit<}
use Rattle.run_print.proofs.Joining.{finished}
use Rattle.run_print.proofs.period.write_untraced.Goals as goal

pub returns : goal.returns
returns g c = finished c.new-printer.ensures.gathered c.new-printer.ensures.failed c.untraced.ensures c.finish.ensures

pub new-printer-requires : goal.new-printer-requires
new-printer-requires g c = lit< tt

pub untraced-requires : goal.untraced-requires
untraced-requires g c = (lit< tt, assumption)

pub finish-requires : goal.finish-requires
finish-requires g c = lit< tt
