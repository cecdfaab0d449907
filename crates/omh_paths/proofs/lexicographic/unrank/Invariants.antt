use Rattle.std.proofs.Common.{◌≡◌, ◌-◌, drop, take, length, replicate}
use Rattle.omh_paths.proofs.Ranks.{IsUnranked}
use Rattle.omh_paths.proofs.lexicographic.unrank.Given as goal

abbrev pub invariant-loop-k : goal.invariant-loop-k
invariant-loop-k g l = record {
  unranked : IsUnranked g.row.N l.set l.len l.index (take l.k l.nodes) l.left (l.len - l.k) l.rest;
  choices : l.choices ≡ length l.left;
  whole : length l.nodes ≡ 4;
  zeros : drop l.k l.nodes ≡ replicate (4 - l.k) 0;
}
