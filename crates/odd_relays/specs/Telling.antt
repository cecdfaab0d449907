-- How one member's item is told and relayed where the relays of few members are odd: from this alone there is a world of
-- what each node hears of it.
use Rattle.std.specs.Prelude.{ℕ, Bool, ◌<◌, ◌+◌, ◌*◌, ◌&&◌, not, List, [], ◌∷◌, length, reverse, slice_index_or, if◌then◌else◌}
use Rattle.node_grid.specs.NodeSet.{has_id}
use Rattle.node_grid.specs.Count.{count}
use Rattle.omh_paths.specs.declared.wrapped.Wrapped.{Wrapped}
use Rattle.omh_paths.specs.declared.wrapped.Wrapped.TheVariants.{Fault}
use Rattle.omh_paths.specs.Wrapped.{wrapped}
use Rattle.omh.specs.Omh.{World, ear, settled}
use Rattle.equivocation.specs.Conviction.{convicts}
use Rattle.odd_relays.specs.declared.item.Item.{Item}

-- the commander tells its item in a first round, and the members pass on what they hear of it in the rounds behind it
pub record Telling (V : Type 0) : Type 0 where
  pub rounds : ℕ  -- the relay rounds, m
  pub members : List ℕ
  pub full : List ℕ  -- the nodes that are Full
  pub commander : ℕ  -- whose item it is
  pub odd : List ℕ  -- the members whose relays of it may say anything
  pub told : List (Wrapped V)  -- what each node was told of it, by node
  pub says : ℕ → List ℕ → Wrapped V  -- says i path: what the path's last node, an odd one, passes on to node i

-- that of an item in code
abbrev pub telling : {V S : Type 0} {n : ℕ} → (S → ℕ → List ℕ → Wrapped V) → Item V S n → Telling V
telling says x = record {
  rounds = x.phase.rounds;
  members = x.phase.members;
  full = x.phase.full;
  commander = x.commander;
  odd = x.odd;
  told = x.told.now;
  says = says x.relays.now;
}

-- what node i hears for a path of q and the nodes before it, given from the last one back
abbrev pub telling_back : {V : Type 0} → Telling V → ℕ → ℕ → List ℕ → Wrapped V
telling_back t i q [] = slice_index_or t.told i (Fault 0)
telling_back t i q (b ∷ back) =
    if has_id t.odd q then t.says i (reverse (q ∷ b ∷ back)) else if has_id t.full q then wrapped (telling_back t q b back) else Fault 0

abbrev pub telling_heard : {V : Type 0} → Telling V → ℕ → List ℕ → Wrapped V
telling_heard t i [] = Fault 0
telling_heard t i (q ∷ back) = telling_back t i q back

-- the world of it
abbrev pub telling_world : {V : Type 0} → Telling V → World V
telling_world t = record { rounds = t.rounds; members = t.members; is_full = λ q. has_id t.full q; heard = λ i path. telling_heard t i (reverse path) }

-- what node i settles for the item, and whether it convicts its commander
abbrev pub settled_item : {V : Type 0} → (V → V → Bool) → Telling V → ℕ → Wrapped V
settled_item eq t i = settled eq (telling_world t) i (t.commander ∷ [])

abbrev pub convicts_commander : {V : Type 0} → (V → V → Bool) → Telling V → ℕ → Bool
convicts_commander eq t i = convicts eq (ear (telling_world t) i) t.commander

-- n > 2o + z + m: of n members o are odd, and z of the others aren't Full
abbrev pub HasFewOdd : {V : Type 0} → Telling V → Type 0
HasFewOdd t = 2 * count (λ q. has_id t.odd q) t.members + count (λ q. not (has_id t.odd q) && not (has_id t.full q)) t.members + t.rounds < length t.members
