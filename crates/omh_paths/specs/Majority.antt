-- The majority of a list of values in transit, which leaves out the error itself.
use Rattle.std.specs.Prelude.{◌≡◌, ◌≢◌, ◌<◌, ◌≤◌, ◌*◌, Bool, false, not, ◌&&◌, nat_lt, List, [], ◌∷◌, if◌then◌else◌}
use Rattle.node_grid.specs.Count.{count}
use Rattle.omh_paths.specs.declared.wrapped.Wrapped.{Wrapped}
use Rattle.omh_paths.specs.declared.wrapped.Wrapped.TheVariants.{Fault}
use Rattle.omh_paths.specs.Wrapped.{same, is_error}

-- whether x is not Fault 0, and stands at more than half of the places that aren't Fault 0
abbrev pub has_majority : {V : Type 0} → (V → V → Bool) → List (Wrapped V) → Wrapped V → Bool
has_majority eq all x = not (is_error x) && nat_lt (count (λ y. not (is_error y)) all) (2 * count (same eq x) all)

-- the first of these that has the majority of all
abbrev pub first_majority : {V : Type 0} → (V → V → Bool) → List (Wrapped V) → List (Wrapped V) → Wrapped V
first_majority eq all [] = Fault 1
first_majority eq all (x ∷ xs) = if has_majority eq all x then x else first_majority eq all xs

-- the value that has the majority, and Fault 1 where none has
unfoldable pub majority : {V : Type 0} → (V → V → Bool) → List (Wrapped V) → Wrapped V
majority eq all = first_majority eq all all

-- x is no error, and no other value has the majority
abbrev pub IsOnlyCandidate : {V : Type 0} → (V → V → Bool) → List (Wrapped V) → Wrapped V → Type 0
IsOnlyCandidate {V} eq all x = (is_error x ≡ false) × ((y : Wrapped V) → same eq y x ≡ false → has_majority eq all y ≡ false)

-- Law: the value that stands at more than half of the places that aren't Fault 0 is the majority, and Fault 1 where there is none
abbrev pub MajorityLaw : {V : Type 0} → (V → V → Bool) → Type 0
MajorityLaw {V} eq =
    (all : List (Wrapped V))
    → ((x : Wrapped V) → x ≢ Fault 0 → count (λ y. not (is_error y)) all < 2 * count (same eq x) all → majority eq all ≡ x)
    × (((x : Wrapped V) → x ≢ Fault 0 → 2 * count (same eq x) all ≤ count (λ y. not (is_error y)) all) → majority eq all ≡ Fault 1)
