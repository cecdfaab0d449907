-- How many of the direct relays of an item are there, and how many of them say otherwise than a receiver expects.
use Rattle.std.specs.Prelude.{ℕ, ◌≡◌, Bool, List, ◌∷◌, []}
use Rattle.node_grid.specs.NodeSet.{without_id, minus_of, common_of}
use Rattle.node_grid.specs.Count.{count}
use Rattle.omh_paths.specs.declared.wrapped.Wrapped.{Wrapped}
use Rattle.omh.specs.Omh.{ear, own_term}
use Rattle.equivocation.specs.Conviction.{is_present, disagrees}
use Rattle.odd_relays.specs.Telling.{Telling}
use Rattle.odd_relays.specs.Direct.{direct_world}
use Rattle.odd_relays.specs.declared.convicting.Voices.{Voices}

-- what a member that isn't odd relays of the commander to each node
abbrev pub regular_relay : {V : Type 0} → Telling V → ℕ → Wrapped V
regular_relay t q = own_term (ear (direct_world t) q) (t.commander ∷ [])

-- the members but the commander that aren't odd, and those that are
abbrev pub regular_members : {V : Type 0} → Telling V → List ℕ
regular_members t = without_id (minus_of t.members t.odd) t.commander

abbrev pub odd_members : {V : Type 0} → Telling V → List ℕ
odd_members t = without_id (common_of t.members t.odd) t.commander

-- what these nodes relay is counted, for a receiver that was told `own`
pub record IsCounted {V : Type 0} (eq : V → V → Bool) (own : Wrapped V) (relay : ℕ → Wrapped V) (nodes : List ℕ) (voices : Voices) : Type 0 where
  pub present : voices.present ≡ count (λ q. is_present (relay q)) nodes
  pub against : voices.against ≡ count (λ q. disagrees eq own (relay q)) nodes
