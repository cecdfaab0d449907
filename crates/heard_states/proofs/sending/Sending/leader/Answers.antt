use Rattle.std.proofs.Common.{arith}
use Rattle.node_grid.specs.NodeSetLaws.{length-ids}
use Rattle.node_grid.specs.CapacityLaws.{capacity-le}
use Rattle.heard_states.proofs.sending.Sending.leader.Goals as goal

pub overflow_mul-len : goal.overflow_mul-len
overflow_mul-len g c = omega (arith, c.len.ensures.count, length-ids g.row.N c.tellers.result c.len.ensures.ids, capacity-le g.row.N c.requires.slot_is.capacity)

pub returns-then-len-self : goal.returns-then-len-self
returns-then-len-self g c = record {
  tellers = c.tellers.result;
  ids = c.len.ensures.ids;
  many = omega (arith, c.len.ensures.count, c.if-len-self.true);
  tell = c.tellers.ensures;
}
