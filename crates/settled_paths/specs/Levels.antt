-- The paths behind one commander, laid flat: shorter ones first, those of one length in lexicographic order.
use Rattle.std.specs.Prelude.{ℕ, zero, suc, ◌≡◌, ◌+◌, ◌-◌, ◌*◌, ◌≤◌, ◌<◌, Bool, true, false, List, length, slice_index_or, Option}
use Rattle.node_grid.specs.Capacity.{IsCapacity}
use Rattle.node_grid.specs.NodeSet.{has_id, IsIdSet}
use Rattle.omh_paths.specs.declared.wrapped.Wrapped.{Wrapped}
use Rattle.omh_paths.specs.declared.wrapped.Wrapped.TheVariants.{Fault}
use Rattle.omh_paths.specs.Paths.{outside, path_count}
use Rattle.omh.specs.Omh.{Ear, own_term, term_at}
use Rattle.omh.specs.Flat.{relay_path}
use Rattle.omh.specs.Written.{IsSmall}
use Rattle.settled_paths.specs.declared.exchange.Level.{Level}
use Rattle.settled_paths.specs.Passing.{or_passed, passed, instead}

-- how many paths of fewer than r relays there are out of so many other members, so where those of r relays begin
abbrev pub level_at : ℕ → ℕ → ℕ
level_at others zero = 0
level_at others (suc r) = level_at others r + path_count others r

-- an item of a member in so many rounds
pub record IsExchange (capacity rounds : ℕ) (members : List ℕ) (commander : ℕ) : Type 0 where
  pub capacity_ok : IsCapacity capacity
  pub rounds_ok : rounds ≤ 3
  pub members_ok : IsIdSet capacity members
  pub member_ok : has_id members commander ≡ true

-- an item is relayed, and there are places for all paths behind its commander, for those of m nodes, and for what is settled on the
-- way, sixteen terms at least
pub record AreRelayRooms {V : Type 0} (rounds : ℕ) (members : List ℕ) (laid longest work : List (Wrapped V)) : Type 0 where
  pub relayed : 0 < rounds
  pub laid_ok : level_at (length members - 1) (rounds + 1) ≤ length laid
  pub longest_ok : level_at (length members - 1) rounds ≤ length longest
  pub work_ok : level_at (length members - 1) rounds ≤ length work
  pub terms_ok : 16 ≤ length work

-- the paths of r relays behind the commander at a place among the members
pub record IsLevel (members : List ℕ) (place r : ℕ) (l : Level) : Type 0 where
  pub paths_are : l.paths ≡ path_count (length members - 1) r
  pub first_is : l.first ≡ place * l.paths
  pub begins_are : l.begins ≡ level_at (length members - 1) r
  pub listed : l.first + l.paths ≤ path_count (length members) (r + 1)
  pub few : l.paths ≤ 65536
  pub small : l.first + l.begins ≤ 2097152

-- what stands at the place of the k-th path of r relays
abbrev pub level_value : {V : Type 0} → List ℕ → ℕ → ℕ → List (Wrapped V) → Wrapped V
level_value members r k laid = slice_index_or laid (level_at (length members - 1) r + k) (Fault 0)

-- for each path of at most so many relays there stands what its last node passes on
abbrev pub AreLaid : {V : Type 0} → List ℕ → List ℕ → Wrapped V → (ℕ → List ℕ → Option (Wrapped V)) → ℕ → ℕ → List (Wrapped V) → Type 0
AreLaid members full own says place relays laid =
    (r k : ℕ) → r ≤ relays → k < path_count (length members - 1) r → level_value members r k laid ≡ passed full own says (relay_path members place r k)

-- and no error there was wrapped too often
abbrev pub AreSmall : {V : Type 0} → List ℕ → ℕ → List (Wrapped V) → Type 0
AreSmall members relays laid = (r k : ℕ) → r ≤ relays → k < path_count (length members - 1) r → IsSmall (252 + r) (level_value members r k laid)

-- what a node puts into majorities for itself stands there
pub record AreOwnTerms {V : Type 0} (x : Ear V) (place : ℕ) (laid : List (Wrapped V)) : Type 0 where
  pub own : (r k j : ℕ) → r < x.rounds → k < path_count (length x.members - 1) r → j < length x.members - suc r
      → slice_index_or (outside x.members (relay_path x.members place r k)) j 0 ≡ x.me
      → level_value x.members (suc r) (k * (length x.members - suc r) + j) laid ≡ own_term x (relay_path x.members place r k)

-- what a node puts into the majorities of paths of so many relays and one more, it does by what stands there and what node i hears in place of that
pub record AreLastTerms {V : Type 0} (eq : V → V → Bool) (x : Ear V) (place i : ℕ) (says : ℕ → List ℕ → Option (Wrapped V)) (last : ℕ) (laid : List (Wrapped V)) : Type 0 where
  pub term : (k j : ℕ) → k < path_count (length x.members - 1) last → j < length x.members - suc last → has_id (relay_path x.members place last k) x.me ≡ false
      → or_passed (instead says i (relay_path x.members place last k) (slice_index_or (outside x.members (relay_path x.members place last k)) j 0)) (level_value x.members (suc last) (k * (length x.members - suc last) + j) laid)
      ≡ term_at eq x (relay_path x.members place last k) (slice_index_or (outside x.members (relay_path x.members place last k)) j 0)

-- a node that hears an item
abbrev pub ear_in : {V : Type 0} → ℕ → List ℕ → ℕ → Bool → (List ℕ → Wrapped V) → Ear V
ear_in rounds members me full heard = record { rounds = rounds; members = members; me = me; full = full; heard = heard }

-- so it is of each node `me`, whatever it heard
abbrev pub EachEar : {V : Type 0} → ℕ → List ℕ → ℕ → (Ear V → Type 0) → Type 0
EachEar {V} rounds members me P = (full : Bool) (heard : List ℕ → Wrapped V) → P (ear_in rounds members me full heard)
