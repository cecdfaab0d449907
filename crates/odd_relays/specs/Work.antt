-- The room in which an item is settled: sixteen values by node, behind them sixteen terms for each of sixteen nodes, and behind these
-- the same for the longer paths.
use Rattle.std.specs.Prelude.{ℕ, ◌≡◌, ◌≢◌, ◌<◌, ◌+◌, ◌*◌, ◌∷◌, ◌⊎◌, true, false, List, length, slice_index_or}
use Rattle.node_grid.specs.NodeSet.{has_id}
use Rattle.omh_paths.specs.declared.wrapped.Wrapped.{Wrapped}
use Rattle.omh_paths.specs.declared.wrapped.Wrapped.TheVariants.{Fault}
use Rattle.node_grid.specs.Count.{Distinct}
use Rattle.omh_paths.specs.Paths.{IsPath}
use Rattle.odd_relays.specs.Telling.{Telling, telling_world}
use Rattle.odd_relays.specs.Direct.{direct_heard}

-- all places but those of these nodes' terms at one place of their sixteen stay
abbrev pub KeepsOthers : {V : Type 0} → List ℕ → ℕ → List (Wrapped V) → List (Wrapped V) → Type 0
KeepsOthers nodes at old new = (k : ℕ) → ((i : ℕ) → has_id nodes i ≡ true → k ≢ at + 16 * i) → slice_index_or new k (Fault 0) ≡ slice_index_or old k (Fault 0)

-- all places below this one stay
abbrev pub KeepsBelow : {V : Type 0} → ℕ → List (Wrapped V) → List (Wrapped V) → Type 0
KeepsBelow from old new = (k : ℕ) → k < from → slice_index_or new k (Fault 0) ≡ slice_index_or old k (Fault 0)

-- nodes i and j aren't odd, and odd members pass on the same to both in the last round
pub record HearAlike {V : Type 0} (t : Telling V) (i j : ℕ) : Type 0 where
  pub relayed : 0 < t.rounds
  pub first : has_id t.odd i ≡ false
  pub second : has_id t.odd j ≡ false
  pub says : (path : List ℕ) → length path ≡ t.rounds + 1 → t.says i path ≡ t.says j path

-- node i settles what node j does, one of these
pub record IsLedBy {V : Type 0} (t : Telling V) (leaders : List ℕ) (i j : ℕ) : Type 0 where
  pub among : has_id leaders j ≡ true
  pub alike : (i ≡ j) ⊎ HearAlike t i j

-- a path of members behind the commander, for which nodes hear in the item's world what is heard for paths of odd members
pub record IsChain {V : Type 0} (t : Telling V) (path : List ℕ) : Type 0 where
  pub distinct : Distinct t.members
  pub back : List ℕ
  pub is : path ≡ t.commander ∷ back
  pub is_path : IsPath t.members t.rounds (t.commander ∷ back)
  pub same : (k : ℕ) → direct_heard t k (t.commander ∷ back) ≡ (telling_world t).heard k (t.commander ∷ back)

-- the receivers heard for a path what all Full members outside it did
abbrev pub AreHeardAlike : {V : Type 0} → Telling V → List ℕ → List ℕ → Type 0
AreHeardAlike t receivers path =
    (i k : ℕ) → has_id receivers i ≡ true → has_id t.members k ≡ true → has_id t.full k ≡ true → has_id path k ≡ false → direct_heard t k path ≡ direct_heard t i path
