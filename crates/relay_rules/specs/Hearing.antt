-- What a slot's frames say, by path.
use Rattle.std.specs.Prelude.{◌≡◌, ◌≤◌, IsSome, ℕ, zero, suc, Bool, false, not, ◌&&◌, List, [], ◌∷◌, ◌++◌, map, filter, take, length, All, Option, None, Some, if◌then◌else◌, ◌==◌}
use Rattle.std.specs.List.{list_any}
use Rattle.node_grid.specs.NodeSet.{has_id, without_id}
use Rattle.omh_paths.specs.declared.wrapped.Wrapped.{Wrapped}
use Rattle.omh_paths.specs.declared.wrapped.Wrapped.TheVariants.{Fault}
use Rattle.omh_paths.specs.Paths.{same_nodes, paths_of_length}
use Rattle.omh.specs.Heard.{Entry, Hearing, heard_paths}
use Rattle.omh.specs.Written.{IsSmall, last_node, with_frame, as_written}
use Rattle.error_detect.specs.Watching.{Watch, told_at}
use Rattle.node_grid.specs.Kinds.{malformed}
use Rattle.protocol.specs.Arrival.{Arrival, ItemForm, arrived}
use Rattle.protocol.specs.Arrival.Arrival.{Bad, Good}
use Rattle.protocol.specs.Heard.{Rounds, paths_of, with_entries, heard}

abbrev pub has_path : List (List ℕ) → List ℕ → Bool
has_path ps path = list_any (λ p. same_nodes p path) ps

-- an entry, after these paths were heard as a function says
abbrev pub told_to : {V : Type 0} → List (List ℕ) → (List ℕ → Wrapped V) → Entry V → Entry V
told_to ps f e = record { path = e.path; value = if has_path ps e.path then f e.path else e.value }

-- what one slot alone says, as a slot of round 0 and as a relay slot of each round
abbrev pub slot_rounds : {V : Type 0} → ItemForm V → List ℕ → Watch → Rounds V
slot_rounds form members w = record {
  first = λ j. arrived form.item_in None (told_at w j);
  relay = λ r j. with_entries (paths_of members r j) (arrived form.relay_in None (told_at w j));
}

-- the paths of r members in front of a sender
abbrev pub pushed : List ℕ → ℕ → ℕ → List (List ℕ)
pushed members r q = map (λ p. p ++ q ∷ []) (paths_of_length (without_id members q) r)

-- those without the node itself
abbrev pub paths_from : List ℕ → ℕ → ℕ → ℕ → List (List ℕ)
paths_from members me r q = filter (λ p. not (has_id p me)) (pushed members r q)

-- the paths of which the frame of q tells this node in round r
abbrev pub paths_told : List ℕ → ℕ → ℕ → ℕ → List (List ℕ)
paths_told members me r q = if has_id members q && not (q == me) then paths_from members me r q else []

-- those of which the frames of the nodes below n tell it
abbrev pub all_told : List ℕ → ℕ → ℕ → ℕ → List (List ℕ)
all_told members me r zero = []
all_told members me r (suc n) = all_told members me r n ++ paths_told members me r n

-- so many entries, of which none was wrapped more than three times
pub record AreEntries {V : Type 0} (count : ℕ) (xs : List (Wrapped V)) : Type 0 where
  pub count_is : length xs ≡ count
  pub small : All (IsSmall 3) xs

-- a relay frame, where it came, has so many entries
abbrev pub Brings : {V : Type 0} → ℕ → Arrival (List (Wrapped V)) → Type 0
Brings count (Bad x) = Unit {0}
Brings count (Good xs) = AreEntries count xs

-- it has no more than there is room for
abbrev pub FitsIn : {V : Type 0} → ℕ → Arrival (List (Wrapped V)) → Type 0
FitsIn room (Bad x) = Unit {0}
FitsIn room (Good xs) = length xs ≤ room

-- what was read: so many entries at the front of a list, or that there is no such frame
abbrev pub read_out : {V : Type 0} → Option ℕ → List (Wrapped V) → Arrival (List (Wrapped V))
read_out None xs = Bad malformed
read_out (Some count) xs = Good (take count xs)

-- what the relay frame of node q says of a path that ends in q
abbrev pub frame_says : {V : Type 0} → List ℕ → ℕ → ℕ → Arrival (List (Wrapped V)) → List ℕ → Wrapped V
frame_says members q r (Bad x) path = Fault 0
frame_says members q r (Good xs) path = as_written members q r xs path

-- what was heard after the relay frame of node q in round r came, or didn't
abbrev pub with_told : {V : Type 0} → ℕ → ℕ → Arrival (List (Wrapped V)) → Hearing V → Hearing V
with_told r q a h = record h { heard = map (with_frame r q (frame_says h.members q r a)) h.heard }

-- what was heard is kept by path
abbrev pub IsByPath : {V : Type 0} → Hearing V → Type 0
IsByPath h = map (λ e. e.path) h.heard ≡ heard_paths h.members h.me h.rounds

-- what was heard after a round, by what the frames of one slot say
abbrev pub after_round : {V : Type 0} → ItemForm V → ℕ → Watch → ℕ → Hearing V → Hearing V
after_round form nodes w r h = record h { heard = map (told_to (all_told h.members h.me r nodes) (heard (slot_rounds form h.members w))) h.heard }

-- what was heard after those frames of a round that these nodes sent
abbrev pub told_by : {V : Type 0} → ItemForm V → ℕ → Watch → ℕ → List ℕ → Hearing V → Hearing V
told_by form nodes w r senders h =
    record h { heard = map (told_to (filter (λ p. has_id senders (last_node p)) (all_told h.members h.me r nodes)) (heard (slot_rounds form h.members w))) h.heard }

-- what the relay frame of node q in a slot brings of items
abbrev pub brought : {V : Type 0} → ItemForm V → Watch → ℕ → Arrival (List (Wrapped V))
brought form w q = arrived form.relay_in None (told_at w q)

-- what was heard after it alone
abbrev pub told_from : {V : Type 0} → ItemForm V → Watch → ℕ → ℕ → Hearing V → Hearing V
told_from form w r q h = record h { heard = map (told_to (paths_from h.members h.me r q) (heard (slot_rounds form h.members w))) h.heard }
