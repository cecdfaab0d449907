-- What a call that lends a record leaves of the node.
use Rattle.std.specs.Prelude.{◌≡◌, ◌+◌, []}
use Rattle.std.specs.Borrow.{MutBor, Fml, RattleType}
use Rattle.std.specs.Io.BufRead.{Rests}
use Rattle.node_alone.specs.Stepping.{AloneView}
use Rattle.node_alone.specs.contracts.alone.Alone.{the_row}
use denote.Param.{value_of}
use mir.Syntax.{named}

-- one more period was run once the borrow is over
abbrev pub RunsOn : (N : RattleType) → MutBor (AloneView (value_of N)) → Fml
RunsOn N s = Rests (the_row (record { mir = named 1; lft = [] }) N) s (λ new. new ≡ record s.now { run = s.now.run + 1 })
