-- What odd members pass on of an item, where it is known what nodes hear in place of what is passed on.
use Rattle.std.specs.Prelude.{ℕ, ◌≡◌, ◌+◌, ◌*◌, ◌<◌, ◌==◌, ◌&&◌, not, nat_lt, Bool, true, false, List, ◌∷◌, ◌++◌, [], length, Option, None, if◌then◌else◌}
use Rattle.node_grid.specs.NodeSet.{has_id}
use Rattle.node_grid.specs.Count.{count}
use Rattle.omh_paths.specs.declared.wrapped.Wrapped.{Wrapped}
use Rattle.omh_paths.specs.declared.wrapped.Wrapped.TheVariants.{Plain, Fault}
use Rattle.omh_paths.specs.Paths.{IsPath}
use Rattle.omh.specs.Written.{last_node}
use Rattle.settled_paths.specs.Passing.{or_passed, passed}

-- an error that was wrapped more than 254 times counts as one that was wrapped so often
abbrev pub clipped : {V : Type 0} → Wrapped V → Wrapped V
clipped (Plain v) = Plain v
clipped (Fault k) = if nat_lt k 254 then Fault k else Fault 254

-- what node i hears in place of what the path's last node passes on; a node hears itself as it passes on
abbrev pub said_instead : {V : Type 0} → (ℕ → List ℕ → Option (Wrapped V)) → ℕ → List ℕ → Option (Wrapped V)
said_instead says i path = if last_node path == i then None else says i path

-- what node i hears for a path
abbrev pub relay_heard : {V : Type 0} → List ℕ → Wrapped V → (ℕ → List ℕ → Option (Wrapped V)) → ℕ → List ℕ → Wrapped V
relay_heard full own says i path = clipped (or_passed (said_instead says i path) (passed full own says path))

-- of the relays of the item of c, those of odd members alone are heard otherwise than they are passed on by nodes that are awake
abbrev pub AreOddHeard : {V : Type 0} → ℕ → List ℕ → ℕ → List ℕ → (ℕ → Bool) → (ℕ → List ℕ → Option (Wrapped V)) → Type 0
AreOddHeard rounds members c odd is_awake says =
    (front : List ℕ) (q i : ℕ) → IsPath members rounds (c ∷ (front ++ q ∷ [])) → has_id odd q ≡ false → is_awake i ≡ true
    → has_id (c ∷ (front ++ q ∷ [])) i ≡ false → says i (c ∷ (front ++ q ∷ [])) ≡ None

-- n > 2o + z + m: of n members o are odd, and z of the others aren't Full
abbrev pub AreFewOdd : ℕ → List ℕ → List ℕ → List ℕ → Type 0
AreFewOdd rounds members full odd =
    2 * count (λ q. has_id odd q) members + count (λ q. not (has_id odd q) && not (has_id full q)) members + rounds < length members
