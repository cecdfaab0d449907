use Rattle.std.proofs.Common.{◌≡◌, drop, length}
use Rattle.omh_paths.proofs.Ranks.{IsRanked}
use Rattle.omh_paths.proofs.lexicographic.rank.Given as goal

abbrev pub invariant-loop-k : goal.invariant-loop-k
invariant-loop-k g l = record {
  ranked : IsRanked g.row.N l.set l.path l.left (drop l.k l.path) l.place;
  choices : l.choices ≡ length l.left;
}
