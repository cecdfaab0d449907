use Rattle.std.proofs.Common.{map, take}
use Rattle.protocol.specs.View.{own_in, value_of}
use Rattle.told_values.proofs.ByPlace.{HasValues}
use Rattle.told_values.proofs.places.Due.own_by_place.Given as goal

abbrev pub invariant-loop-k : goal.invariant-loop-k
invariant-loop-k l = HasValues (take l.k l.self.channels.now) (value_of l.self.channels.now (map (own_in l.own) l.said)) l.told
