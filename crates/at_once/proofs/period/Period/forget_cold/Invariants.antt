use Rattle.std.proofs.Common.{◌≡◌, length}
use Rattle.at_once.specs.Ended.{AreForgetting}
use Rattle.at_once.proofs.period.Period.forget_cold.Given as goal

abbrev pub invariant-loop-i : goal.invariant-loop-i
invariant-loop-i g l = record {
  forgetting : AreForgetting l.awake l.fn.keeping l.i l.keeping;
  owns : length l.keeping.owns ≡ g.row.N;
}
