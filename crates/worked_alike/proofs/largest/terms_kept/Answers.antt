use Rattle.std.proofs.Common.{arith, lit<}
use Rattle.worked_alike.proofs.Paths.{first_ids}
use Rattle.worked_alike.proofs.largest.terms_kept.Goals as goal

pub start-requires : goal.start-requires
start-requires c = (lit< tt, (lit< tt, ((λ q on. let low = first_ids 16 c.full.result c.full.ensures q on in let nodes = c.requires.nodes in omega (arith, low, nodes)), let nodes = c.requires.nodes in omega (arith, nodes))))
