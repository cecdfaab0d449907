use Rattle.std.proofs.Common.{◌≡◌, length}
use Rattle.omh_paths.specs.Paths.{index_in}
use Rattle.settled_paths.specs.Levels.{AreLaid, AreSmall}
use Rattle.settled_paths.proofs.exchange.Exchange.lay.Given as goal

abbrev pub invariant-loop-relays : goal.invariant-loop-relays
invariant-loop-relays g l = record {
  room : length l.laid ≡ length l.initial.laid;
  small : AreSmall l.self.members l.relays l.laid;
  done : AreLaid l.self.members l.self.full l.fn.own (g.T.Touched.says l.touched) (index_in l.self.members l.self.commander) l.relays l.laid;
}
