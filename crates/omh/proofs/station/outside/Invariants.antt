use Rattle.std.proofs.Common.{◌≡◌, take}
use Rattle.omh_paths.specs.Paths.{outside}
use Rattle.omh.proofs.station.outside.Given as goal

abbrev pub invariant-loop-k : goal.invariant-loop-k
invariant-loop-k g l = l.left ≡ outside l.members (take l.k l.path)
