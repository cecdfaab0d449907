-- What a node settles for an item where the relays of few members are odd: it looks at paths of odd members alone.
use Rattle.std.specs.Prelude.{ℕ, zero, suc, ◌≡◌, ◌≢◌, ◌<◌, ◌+◌, ◌*◌, Bool, true, false, not, ◌&&◌, ◌==◌, List, [], ◌∷◌, ◌++◌, map, length, if◌then◌else◌}
use Rattle.node_grid.specs.NodeSet.{has_id}
use Rattle.node_grid.specs.Count.{count, Distinct}
use Rattle.omh_paths.specs.declared.wrapped.Wrapped.{Wrapped}
use Rattle.omh_paths.specs.Wrapped.{unwrapped}
use Rattle.omh_paths.specs.Majority.{majority}
use Rattle.omh_paths.specs.Paths.{outside, IsPath}
use Rattle.omh.specs.Omh.{World, ear, own_term}

-- the item of c is passed on: each member whose relays of it aren't odd passes on to each node that is awake what it puts
-- into its own majorities, which is what it heard, wrapped, or nothing where it isn't Full; all Full members are awake
pub record IsPassedOn {V : Type 0} (w : World V) (c : ℕ) (odd : List ℕ) (is_awake : ℕ → Bool) : Type 0 where
  pub distinct : Distinct w.members
  pub full : (q : ℕ) → has_id w.members q ≡ true → w.is_full q ≡ true → is_awake q ≡ true
  pub relays : (front : List ℕ) (q i : ℕ) → IsPath w.members w.rounds (c ∷ (front ++ q ∷ [])) → has_id odd q ≡ false
      → is_awake i ≡ true → has_id (c ∷ (front ++ q ∷ [])) i ≡ false
      → w.heard i (c ∷ (front ++ q ∷ [])) ≡ own_term (ear w q) (c ∷ front)

-- whether the relays of q are as they should be, and say nothing
abbrev pub relays_nothing : {V : Type 0} → World V → List ℕ → ℕ → Bool
relays_nothing w odd q = not (has_id odd q) && not (w.is_full q)

-- n > 2o + z + m: of n members o are odd, and z of the others aren't Full
abbrev pub AreFew : {V : Type 0} → World V → List ℕ → Type 0
AreFew w odd = 2 * count (λ q. has_id odd q) w.members + count (λ q. relays_nothing w odd q) w.members + w.rounds < length w.members

-- member c told all other nodes that are awake this of its item
abbrev pub IsToldAlike : {V : Type 0} → World V → (ℕ → Bool) → ℕ → Wrapped V → Type 0
IsToldAlike w is_awake c v = (k : ℕ) → is_awake k ≡ true → c ≢ k → w.heard k (c ∷ []) ≡ v

-- what node i settles for a path that can grow by r nodes, where of the longer paths those alone are looked at that grow by
-- odd nodes; for another node, and for the receiver itself, its own term of the shorter path is taken
unfoldable pub chain_within : {V : Type 0} → (V → V → Bool) → World V → List ℕ → ℕ → ℕ → List ℕ → Wrapped V
chain_within eq w odd i zero path = w.heard i path
chain_within eq w odd i (suc r) path =
    unwrapped (majority eq (map (λ q. if has_id odd q && not (q == i) then chain_within eq w odd i r (path ++ q ∷ []) else own_term (ear w q) path) (outside w.members path)))

-- what node i settles so for the item of another member c
abbrev pub chain_settled : {V : Type 0} → (V → V → Bool) → World V → List ℕ → ℕ → ℕ → Wrapped V
chain_settled eq w odd i c = chain_within eq w odd i w.rounds (c ∷ [])

-- all nodes of the path behind c are odd
abbrev pub AreOdd : List ℕ → List ℕ → Type 0
AreOdd odd back = (x : ℕ) → has_id back x ≡ true → has_id odd x ≡ true
