use Rattle.std.proofs.Common.{arith, inr, refl}
use Rattle.omh_paths.specs.MemberLaws.{few_ids}
use Rattle.worked_alike.proofs.seats.size_of.Goals as goal

pub returns-clause-few : goal.returns-clause-few
returns-clause-few c = omega (arith, few_ids 16 c.args.set.now (inr refl) c.len.ensures.ids, c.len.ensures.count)
