-- What a call that lends what is shown leaves of the run.
use Rattle.std.specs.Prelude.{◌≡◌, ◌+◌, []}
use Rattle.std.specs.Borrow.{MutBor, Fml, RattleType}
use Rattle.std.specs.Io.BufRead.{Rests}
use Rattle.at_once.specs.Run.{RunView}
use Rattle.at_once.specs.contracts.run.Run.{the_row}
use denote.Param.{value_of}
use mir.Syntax.{named}

-- one more period was run once the borrow is over
abbrev pub RunsOn : (N : RattleType) → MutBor (RunView (value_of N)) → Fml
RunsOn N s = Rests (the_row (record { mir = named 1; lft = [] }) N) s (λ new. new ≡ record s.now { run = s.now.run + 1 })
