use Rattle.std.proofs.Common.{◌≡◌, ◌+◌, length}
use Rattle.relay_walk.specs.Laid.{laid}
use Rattle.relay_table.proofs.Frees.{left_before}
use Rattle.relay_table.proofs.free.lay_longer.Given as goal

abbrev pub invariant-loop-k : goal.invariant-loop-k
invariant-loop-k g l = record {
  sets : l.sets ≡ laid l.until (left_before l.from l.until l.k l.initial.sets) l.initial.sets;
  end : l.end ≡ l.until + length (left_before l.from l.until l.k l.initial.sets);
}
