-- The states of which a node adopts one.
use Rattle.std.specs.Prelude.{ℕ, not, nat_lt, ◌==◌, ◌&&◌, List, Option, None, if◌then◌else◌}
use Rattle.protocol.specs.Arrival.{Arrival}
use Rattle.protocol.specs.View.{content}

-- the state of another node that came well
abbrev pub body_at : ℕ → ℕ → (ℕ → Arrival (List ℕ)) → ℕ → Option (List ℕ)
body_at nodes me sync j = if nat_lt j nodes && not (j == me) then content (sync j) else None
