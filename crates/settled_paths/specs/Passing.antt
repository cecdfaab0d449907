-- One member's item, passed on in rounds: what each node passes on, and what each hears where some of it is said otherwise.
use Rattle.std.specs.Prelude.{ℕ, ◌≡◌, ◌+◌, ◌==◌, List, [], ◌∷◌, ◌++◌, length, reverse, Option, Some, None, if◌then◌else◌}
use Rattle.node_grid.specs.NodeSet.{has_id}
use Rattle.omh_paths.specs.declared.wrapped.Wrapped.{Wrapped}
use Rattle.omh_paths.specs.declared.wrapped.Wrapped.TheVariants.{Fault}
use Rattle.omh_paths.specs.Wrapped.{wrapped}
use Rattle.omh.specs.Omh.{World}

-- what is said in place of a value that is passed on, or that value
abbrev pub or_passed : {V : Type 0} → Option (Wrapped V) → Wrapped V → Wrapped V
or_passed None passed = passed
or_passed (Some v) passed = v

-- what the relay q passes on of a path whose last node passed this on: what it heard, wrapped, and nothing where it isn't Full
-- says i path is what node i hears in place of what is passed on
abbrev pub passes : {V : Type 0} → List ℕ → (ℕ → List ℕ → Option (Wrapped V)) → List ℕ → Wrapped V → ℕ → Wrapped V
passes full says path passed q = if has_id full q then wrapped (or_passed (says q path) passed) else Fault 0

-- what a path's last node q passes on of the path behind it, which is given from its last node back: the commander says its own
abbrev pub passed_back : {V : Type 0} → List ℕ → Wrapped V → (ℕ → List ℕ → Option (Wrapped V)) → ℕ → List ℕ → Wrapped V
passed_back full own says q [] = own
passed_back full own says q (b ∷ back) = passes full says (reverse (b ∷ back)) (passed_back full own says b back) q

-- what a path's last node passes on, where the path is given from its last node back
abbrev pub passed_from : {V : Type 0} → List ℕ → Wrapped V → (ℕ → List ℕ → Option (Wrapped V)) → List ℕ → Wrapped V
passed_from full own says [] = Fault 0
passed_from full own says (q ∷ back) = passed_back full own says q back

-- what a path's last node passes on
abbrev pub passed : {V : Type 0} → List ℕ → Wrapped V → (ℕ → List ℕ → Option (Wrapped V)) → List ℕ → Wrapped V
passed full own says path = passed_from full own says (reverse path)

-- the world of it: each node hears what is said to it in place of what the path's last node passes on, or just that
abbrev pub passing_world : {V : Type 0} → ℕ → List ℕ → List ℕ → Wrapped V → (ℕ → List ℕ → Option (Wrapped V)) → World V
passing_world rounds members full own says = record {
  rounds = rounds;
  members = members;
  is_full = λ q. has_id full q;
  heard = λ i path. or_passed (says i path) (passed full own says path);
}

-- what node i hears of the relay q in place of what q passes on of a path; a node hears itself as it passes on
abbrev pub instead : {V : Type 0} → (ℕ → List ℕ → Option (Wrapped V)) → ℕ → List ℕ → ℕ → Option (Wrapped V)
instead says i path q = if q == i then None else says i (path ++ q ∷ [])

-- two nodes hear that alike for all paths of so many nodes
abbrev pub HearAlike : {V : Type 0} → (ℕ → List ℕ → Option (Wrapped V)) → ℕ → ℕ → ℕ → Type 0
HearAlike says i j len = (path : List ℕ) (q : ℕ) → length path + 1 ≡ len → instead says i path q ≡ instead says j path q
