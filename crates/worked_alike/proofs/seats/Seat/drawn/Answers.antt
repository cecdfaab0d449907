use Rattle.std.proofs.Common.{arith}
use Rattle.worked_alike.proofs.Paths.{low_ids}
use Rattle.worked_alike.proofs.seats.Seat.drawn.Goals as goal

pub invariant_of-result : goal.invariant_of-result
invariant_of-result c = record {
  few = c.args.self.now.few;
  short = c.args.self.now.short;
  low = λ q on. low_ids _ _ c.full-all.result c.minus-members.result c.full-all.ensures c.minus-members.ensures q on;
  among = omega arith;
  some = omega arith;
  within = omega arith;
}
