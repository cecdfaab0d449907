-- What a node settles of the paths of one length, and what it must have heard for that.
use Rattle.std.specs.Prelude.{ℕ, ◌≡◌, ◌≤◌, ◌<◌, ◌+◌, ◌-◌, true, not, ◌&&◌, ◌==◌, Bool, List, [], ◌∷◌, ◌++◌, map, length, slice_index_or, Option, if◌then◌else◌}
use Rattle.node_grid.specs.NodeSet.{has_id}
use Rattle.omh_paths.specs.declared.wrapped.Wrapped.{Wrapped}
use Rattle.omh_paths.specs.declared.wrapped.Wrapped.TheVariants.{Fault}
use Rattle.omh_paths.specs.Wrapped.{wrapped}
use Rattle.omh_paths.specs.Paths.{outside, paths_of_length, path_count, path_at, index_in}
use Rattle.omh.specs.Omh.{Ear, settled_at}
use Rattle.omh.specs.Heard.{Hearing}
use Rattle.omh.specs.Flat.{section_at}
use Rattle.relay_table.specs.declared.station.Station.{Station}
use Rattle.relay_table.specs.Rooms.{IsFreeRoom}
use Rattle.relay_table.specs.Tabled.{IsStation, told_in, kept_nodes, heard_among}

-- whether the node itself is on the path outside which these stand
abbrev pub is_on_path : List ℕ → ℕ → List ℕ → Bool
is_on_path members me free = has_id members me && not (has_id free me)

-- what the node itself puts into the majority of a path for which it heard this
abbrev pub own_said : {V : Type 0} → Bool → List ℕ → ℕ → Wrapped V → Wrapped V
own_said full members me heard = if full && has_id members me then wrapped heard else Fault 0

-- the k-th path of so many other members
abbrev pub other_path : List ℕ → ℕ → ℕ → List ℕ
other_path others len k = path_at (paths_of_length others len) k

-- what a node heard, of which the terms of the paths of up to so many nodes lie like this
pub record HearsKept {V : Type 0} (rounds most : ℕ) (members others : List ℕ) (me : ℕ) (full : Bool) (flat : List (Wrapped V)) (x : Ear V) : Type 0 where
  pub rounds_are : x.rounds ≡ rounds
  pub members_are : x.members ≡ members
  pub me_is : x.me ≡ me
  pub full_is : x.full ≡ full
  pub heard : (len k : ℕ) → 0 < len → len ≤ most → k < path_count (length others) len → x.heard (other_path others len k) ≡ slice_index_or flat (section_at (length others) (len - 1) + k) (Fault 0)

-- of each path of one node more it heard what the frame of the path's last node says
abbrev pub HearsLast : {V : Type 0} → (ℕ → Option (List (Wrapped V))) → List ℕ → List ℕ → ℕ → Ear V → Type 0
HearsLast frames members others r x =
    (k q : ℕ) → k < path_count (length others) r → has_id (outside others (other_path others r k)) q ≡ true → x.heard (other_path others r k ++ q ∷ []) ≡ told_in frames members r (other_path others r k ++ q ∷ [])

-- in place of each path of so many others stands what the node settles for it
abbrev pub AreSettled : {V : Type 0} → (V → V → Bool) → Ear V → List ℕ → ℕ → List (Wrapped V) → Type 0
AreSettled eq x others len terms = (k : ℕ) → k < path_count (length others) len → slice_index_or terms k (Fault 0) ≡ settled_at eq x (other_path others len k)

-- what the frames of a round of r relays say of the paths behind a path
abbrev pub told_behind : {V : Type 0} → (ℕ → Option (List (Wrapped V))) → List ℕ → List ℕ → ℕ → List ℕ → List (Wrapped V)
told_behind frames members others r path = map (λ q. told_in frames members r (path ++ q ∷ [])) (outside others path)

-- what the node settles of a node's item, where this is settled for the others' items in their order
abbrev pub settled_at_place : {V : Type 0} → List ℕ → List ℕ → ℕ → Bool → Wrapped V → List (Wrapped V) → ℕ → Wrapped V
settled_at_place members others me full own settled c =
    if has_id members c then (if c == me then (if full then own else Fault 0) else slice_index_or settled (index_in others c) (Fault 0)) else Fault 0

-- the same of a station, and that the members outside each path are laid for it
abbrev pub IsSeated : {N : ℕ} → Station N → Type 0
IsSeated {N} s = IsStation N s.nodes s.rounds s.me s.members s.others

pub record IsLaidOut {N : ℕ} (s : Station N) : Type 0 where
  pub seated : IsSeated s
  pub sets : IsFreeRoom s.nodes s.rounds s.members s.free.items

abbrev pub IsKeptBy : {V : Type 0} {N : ℕ} → Station N → List (Wrapped V) → Ear V → Type 0
IsKeptBy s flat x = HearsKept s.rounds s.rounds s.members s.others s.me s.full flat x

-- of all paths of which terms are kept
abbrev pub IsHeardBy : {V : Type 0} {N : ℕ} → Station N → List (Wrapped V) → Ear V → Type 0
IsHeardBy s flat x = HearsKept s.rounds (kept_nodes s.rounds) s.members s.others s.me s.full flat x

abbrev pub IsToldLast : {V : Type 0} {N : ℕ} → Station N → (ℕ → Option (List (Wrapped V))) → Ear V → Type 0
IsToldLast s frames x = HearsLast frames s.members s.others s.rounds x

-- what a station heard, by path
abbrev pub hearing_of : {V : Type 0} {N : ℕ} → Station N → Wrapped V → List (Wrapped V) → Hearing V
hearing_of s own flat =
    record { nodes = s.nodes; rounds = s.rounds; members = s.members; me = s.me; full = s.full; own = own; heard = heard_among s.members s.me s.rounds flat }
