use Rattle.std.proofs.Common.{replicate}
use Rattle.at_once.proofs.Filled.{IsFilledBelow}
use Rattle.at_once.proofs.keeping.Keeping.open.Given as goal

abbrev pub invariant-loop-me : goal.invariant-loop-me
invariant-loop-me g l =
    IsFilledBelow g.row.N (record { nodes = l.nodes; me = 0; kinds = l.kinds; row = replicate g.row.N 0; carried = replicate g.row.N 0 })
    (λ j. record { nodes = l.nodes; me = j; kinds = l.kinds; row = replicate g.row.N 0; carried = replicate g.row.N 0 }) l.me l.notes
