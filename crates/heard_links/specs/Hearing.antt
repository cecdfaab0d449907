-- What comes over each link, and what nodes hear by that.
use Rattle.std.specs.Prelude.{ℕ, ◌≡◌, ◌≢◌, ◌≤◌, ◌<◌, ◌+◌, ◌-◌, ◌*◌, Bool, true, false, not, ◌&&◌, ◌||◌, ◌==◌, ◌⊎◌, nat_le, List, [], map, length, Option, None, Some, is_none, slice_get, slice_index_or, if◌then◌else◌}
use Rattle.std.specs.List.{list_all}
use Rattle.std.specs.Cmp.Lexicographic.{pointwise}
use Rattle.node_grid.specs.NodeSet.{has_id}
use Rattle.omh_paths.specs.declared.wrapped.Wrapped.{Wrapped}
use Rattle.omh_paths.specs.declared.wrapped.Wrapped.TheVariants.{Fault}
use Rattle.omh_paths.specs.Wrapped.{wrapped}
use Rattle.omh_paths.specs.Paths.{place_in}
use Rattle.omh.specs.Written.{last_node}
use Rattle.fault_classes.specs.Change.{Change}
use Rattle.fault_link.specs.Arrival.{delivered_of}
use Rattle.protocol.specs.Arrival.{ItemForm}
use Rattle.protocol.specs.Arrival.Arrival.{Good}
use Rattle.protocol.specs.Heard.{Rounds, paths_of, heard}
use Rattle.protocol.specs.Talk.{Talk, rounds_upto}
use Rattle.protocol.specs.Run.{System}
use Rattle.touched_items.specs.Items.{bad_kind}
use Rattle.heard_links.specs.declared.came.Came.{Came}
use Rattle.heard_links.specs.declared.came.Came.TheVariants as came
use Rattle.heard_links.specs.declared.links.Links.{Links}
use Rattle.heard_links.specs.declared.phase.Phase.{Phase}
use Rattle.heard_links.specs.Talks.{phase_talk, IsSet, IsPhaseOf}

-- the kind of error of a frame of a round, where it has one
abbrev pub frame_kind : {V : Type 0} → Rounds V → ℕ → ℕ → Option ℕ
frame_kind x r j = if r == 0 then bad_kind (x.first j) else bad_kind (x.relay r j)

-- whether node i has what node j said in a round, as j said it: nothing befalls the frame, and it speaks of the paths of which i reads it
abbrev pub is_even : {V : Type 0} → Talk V → ℕ → ℕ → ℕ → Bool
is_even t r j i = is_none (t.change r j i) && (r == 0 || (not (t.full j) || pointwise ◌==◌ (t.members j) (t.members i)))

-- what came of the frame of round r from node j to node i
abbrev pub IsCame : {V : Type 0} → Talk V → ℕ → ℕ → ℕ → ℕ → Came V → Type 0
IsCame t m r j i came.Untouched = is_even t r j i ≡ true
IsCame t m r j i (came.Bad k) = (is_even t r j i ≡ false) × (frame_kind (rounds_upto t m i) r j ≡ Some k)
IsCame t m r j i (came.Told v) = (is_even t r j i ≡ false) × (r ≡ 0) × ((rounds_upto t m i).first j ≡ Good v)
IsCame t m r j i came.Good = (is_even t r j i ≡ false) × (0 < r) × (frame_kind (rounds_upto t m i) r j ≡ None)

-- ---- in code

-- what each node says of itself
abbrev pub item_of : {V : Type 0} {N : ℕ} → Links V N → ℕ → V
item_of x j = slice_index_or x.told.items j x.blank.value

-- where a link has its place, by round, sender and receiver
abbrev pub link_at : ℕ → ℕ → ℕ → ℕ → ℕ
link_at n r j i = (r * n + j) * n + i

-- what is laid down for a link
abbrev pub came_at : {V : Type 0} {N : ℕ} → Links V N → ℕ → ℕ → ℕ → Came V
came_at {V} {N} x r j i = if has_id (slice_index_or x.touched r []) j then slice_index_or x.came.items (link_at N r j i) came.Untouched else came.Untouched

-- the talk of a phase, by what was told
abbrev pub talk_in : {V : Type 0} {N : ℕ} → ItemForm V → Phase N → Links V N → Talk V
talk_in form x links = phase_talk form x (item_of links)

-- what came in the rounds below this one is laid down
abbrev pub AreHeard : {V : Type 0} {N : ℕ} → ItemForm V → Phase N → Links V N → ℕ → Type 0
AreHeard form x links upto =
    (r j i : ℕ) → r < upto → j < x.config.now.nodes → has_id x.awake i ≡ true → i ≢ j
    → IsCame (talk_in form x links) x.config.now.m r j i (came_at links r j i)

-- the phase is one of a run, and what came in these rounds is laid down
pub record IsHeard {V : Type 0} {N : ℕ} (form : ItemForm V) (first : ℕ → ℕ) (tells : System → ℕ → ℕ → V) (x : Phase N) (links : Links V N) (upto : ℕ) : Type 0 where
  pub set : IsSet x
  pub sys : System
  pub run : IsPhaseOf form first tells sys x (item_of links)
  pub heard : AreHeard form x links upto

-- ---- what nodes hear

-- a path of which the node hears from another one
pub record IsAsked {V : Type 0} (t : Talk V) (m : ℕ) (awake : List ℕ) (i : ℕ) (path : List ℕ) : Type 0 where
  pub awake_is : has_id awake i ≡ true
  pub within : (q : ℕ) → has_id path q ≡ true → has_id (t.members i) q ≡ true
  pub short : length path ≤ m + 1
  pub other : i ≢ last_node path

-- the path of which the relay frame of node q, which goes by its members, has the entry that is read for a path by mine, where there is one
abbrev pub source : Bool → List ℕ → List ℕ → ℕ → List ℕ → Option (List ℕ)
source full its mine q front = if full then slice_get (paths_of its (length front) q) (place_in (paths_of mine (length front) q) front) else None

-- what is passed on of it
abbrev pub passed_on : {V : Type 0} → (List ℕ → Wrapped V) → Option (List ℕ) → Wrapped V
passed_on heard None = Fault 0
passed_on heard (Some path) = wrapped (heard path)

-- an effect does to a frame what a change does
abbrev pub ActsAs : Change → Option Change → Type 0
ActsAs c change = (frame : List ℕ) → delivered_of (Some c) frame ≡ delivered_of change frame

-- whether node i, which goes by these members, is awake and hears of such a path from another node
abbrev pub is_asked_by : List ℕ → ℕ → List ℕ → ℕ → List ℕ → Bool
is_asked_by members m awake i path = has_id awake i && (list_all (has_id members) path && (nat_le (length path) (m + 1) && not (i == last_node path)))

abbrev pub is_asked : {V : Type 0} → Talk V → ℕ → List ℕ → ℕ → List ℕ → Bool
is_asked t m awake i path = is_asked_by (t.members i) m awake i path

-- what node i hears for a path in place of what the path's last node passes on
abbrev pub says_in : {V : Type 0} → Talk V → ℕ → List ℕ → ℕ → List ℕ → Option (Wrapped V)
says_in t m awake i path =
    if is_asked t m awake i path && not (is_even t (length path - 1) (last_node path) i) then Some (heard (rounds_upto t m i) path) else None

-- the relay frame of a Full node in a round, by what came in the rounds below it
pub record IsSender {V : Type 0} {N : ℕ} (form : ItemForm V) (first : ℕ → ℕ) (tells : System → ℕ → ℕ → V) (x : Phase N) (links : Links V N) (r j : ℕ) : Type 0 where
  pub heard : IsHeard form first tells x links r
  pub some : 0 < r
  pub few : r ≤ x.config.now.m
  pub full : has_id x.full j ≡ true

-- its entries
abbrev pub sent_by : {V : Type 0} {N : ℕ} → ItemForm V → Phase N → Links V N → ℕ → ℕ → List (Wrapped V)
sent_by form x links r j = let t = talk_in form x links in map (λ path. wrapped (heard (rounds_upto t x.config.now.m j) path)) (paths_of (t.members j) r j)

-- two nodes hear the same of node q in a round, in place of what it says; a node hears itself as it says
abbrev pub IsAlikeFrom : {V : Type 0} → Talk V → ℕ → ℕ → ℕ → ℕ → Type 0
IsAlikeFrom t r q i j = ((q ≡ i) × (is_even t r q j ≡ true)) ⊎ (((q ≡ j) × (is_even t r q i ≡ true)) ⊎ ((q ≢ i) × (q ≢ j) × (t.change r q i ≡ t.change r q j)))
