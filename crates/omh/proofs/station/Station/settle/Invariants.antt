use Rattle.std.proofs.Common.{◌-◌}
use Rattle.omh.specs.Flat.{flat_ear, IsRoom, AreSettled}
use Rattle.omh.proofs.station.Station.settle.Given as goal

abbrev pub invariant-loop-done : goal.invariant-loop-done
invariant-loop-done g l = record {
  settled : AreSettled g.V.PartialEq.eq (flat_ear l.self.nodes l.self.rounds l.self.members l.self.me l.self.full l.heard) l.place (l.self.rounds - l.done) l.work;
  room : IsRoom l.self.nodes l.self.rounds l.heard l.work;
}
