-- How JSON text is read as values of the types that a scenario is made of.
use Rattle.std.specs.Prelude.{◌≡◌, ℕ, ℤ, Bool, true, false, ◌&&◌, List, [], ◌∷◌, Option, Some, None, option_map, option_and_then, unwrap_or, if◌then◌else◌}
use Rattle.std.specs.List.{list_any}
use Rattle.std.specs.Str.{IsUtf8, bytes_eq}
use Rattle.serde_json.specs.Data.{Data, Items, no_items, item, Members, no_members, member}
use Rattle.serde_json.specs.Read.{read}
use Rattle.serde_json.specs.Find.{get, as_number, as_i64, as_array, as_object}

-- the bytes are JSON text of this value
abbrev pub Reads : List ℕ → Data → Type 0
Reads bytes d = IsUtf8 bytes × (read bytes ≡ Some d)

-- the whole number in the range of 64 bits that a value is
abbrev pub whole : Data → Option ℤ
whole d = option_and_then as_i64 (as_number d)

-- the items of a list, each read by f
abbrev pub each : {X : Type 0} → (Data → Option X) → Items → Option (List X)
each f no_items = Some []
each f (item d ds) = option_and_then (λ x. option_map (λ xs. x ∷ xs) (each f ds)) (f d)

-- the list that a value is, each of whose items is read by f
abbrev pub list_of : {X : Type 0} → (Data → Option X) → Data → Option (List X)
list_of f d = option_and_then (each f) (as_array d)

-- what f reads at a key that must be there
abbrev pub required : {X : Type 0} → List ℕ → (Data → Option X) → Data → Option X
required key f d = option_and_then f (get key d)

abbrev pub if_there : {X : Type 0} → X → (Data → Option X) → Option Data → Option X
if_there default f None = Some default
if_there default f (Some d) = f d

-- what f reads at a key, or the default where the key is missing
abbrev pub optional : {X : Type 0} → List ℕ → X → (Data → Option X) → Data → Option X
optional key default f d = if_there default f (get key d)

-- whether a key is one of these
abbrev pub is_among : List (List ℕ) → List ℕ → Bool
is_among names key = list_any (bytes_eq key) names

abbrev pub all_among : List (List ℕ) → Members → Bool
all_among names no_members = true
all_among names (member key d ms) = is_among names key && all_among names ms

-- whether a value is an object with no other keys than these
abbrev pub has_keys : List (List ℕ) → Data → Bool
has_keys names d = unwrap_or (option_map (all_among names) (as_object d)) false

-- what the fields of an object with no other keys are
abbrev pub object_of : {X : Type 0} → List (List ℕ) → (Data → Option X) → Data → Option X
object_of names fields d = if has_keys names d then fields d else None

-- what f reads at the one key of an object
abbrev pub lone : {X : Type 0} → List ℕ → (Data → Option X) → Data → Option X
lone key f d = object_of (key ∷ []) (required key f) d
