use Rattle.std.proofs.Common.{◌≡◌, ◌≤◌, ◌*◌}
use Rattle.omh.specs.Flat.{section_at}
use Rattle.omh.proofs.station.section_at.Given as goal

abbrev pub invariant-loop-shorter : goal.invariant-loop-shorter
invariant-loop-shorter l = record {
  begins : l.begins ≡ section_at l.nodes l.shorter;
  small : l.begins ≤ 65536 * l.shorter;
}
