-- Facts that several crates cite.
use Rattle.std.proofs.Common.{None, Option, Some, sym, ℕ, ◌<◌, ◌≡◌}
use Rattle.std.specs.Prelude.{IfSome}
use Rattle.list_scheduler.specs.Copies.{CopyTable, works}
use Rattle.list_scheduler.specs.CopyLaws.{works_runs}

pub works_low : (copies : CopyTable) (q : ℕ) (o : Option (ℕ × ℕ)) → o ≡ works copies q → IfSome o (λ w. w.0 < 32)
works_low copies q None e = tt
works_low copies q (Some w) e = (works_runs copies q w (sym e)).1
