-- One node that hears the relays of items.
use Rattle.std.specs.Prelude.{ℕ, List}
use Rattle.omh_paths.specs.declared.wrapped.Wrapped.{Wrapped}
use Rattle.omh.specs.Omh.{Ear}
use Rattle.settled_items.specs.declared.listener.Listener.{Listener}

-- the node of the agreement rule that hears this for each path
abbrev pub listener_ear : {V : Type 0} {n : ℕ} → Listener n → (List ℕ → Wrapped V) → Ear V
listener_ear x heard = record { rounds = x.rounds; members = x.members; me = x.me; full = x.full; heard = heard }
