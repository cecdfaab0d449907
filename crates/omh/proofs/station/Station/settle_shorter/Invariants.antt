use Rattle.omh.specs.Flat.{flat_ear, IsRoom}
use Rattle.omh.proofs.Folding.{IsHalfway}
use Rattle.omh.proofs.station.Station.settle_shorter.Given as goal

abbrev pub invariant-loop-k : goal.invariant-loop-k
invariant-loop-k g l = record {
  halfway : IsHalfway g.V.PartialEq.eq (flat_ear l.self.nodes l.self.rounds l.self.members l.self.me l.self.full l.heard) l.commander l.relays l.work l.k;
  room : IsRoom l.self.nodes l.self.rounds l.heard l.work;
}
