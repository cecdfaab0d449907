-- Reading the frames of a relay round side by side.
use Rattle.std.specs.Prelude.{ℕ, ◌≡◌, ◌≤◌, ◌<◌, ◌+◌, ◌-◌, ◌*◌, true, List, map, length, take, drop, slice_index, Option, None, Some, if◌then◌else◌}
use Rattle.node_grid.specs.Capacity.{IsCapacity}
use Rattle.node_grid.specs.NodeSet.{has_id}
use Rattle.node_grid.specs.Count.{bit}
use Rattle.omh_paths.specs.declared.wrapped.Wrapped.{Wrapped}
use Rattle.omh_paths.specs.declared.wrapped.Wrapped.TheVariants.{Fault}
use Rattle.omh_paths.specs.Paths.{paths_of_length, path_count}
use Rattle.omh.specs.Written.{as_written}
use Rattle.frames.specs.Reading.{pieces_of_width}
use Rattle.path_order.specs.Order.{passed}
use Rattle.relay_walk.specs.declared.round.Round.{Round}

-- the bytes of a member's entries
abbrev pub frame_of : {N : ℕ} → Round N → ℕ → List ℕ
frame_of round q = take round.size (drop (slice_index round.begins q) round.room.now)

-- what a member's frame says, where it came
abbrev pub entries_of : {V : Type 0} {N : ℕ} → (List ℕ → Wrapped V) → Round N → ℕ → Option (List (Wrapped V))
entries_of read round q = if has_id round.present q then Some (map read (pieces_of_width round.width (frame_of round q))) else None

-- what a relay frame, where it came, says of a path that ends in its sender
abbrev pub says : {V : Type 0} → List ℕ → ℕ → ℕ → Option (List (Wrapped V)) → List ℕ → Wrapped V
says members q r None path = Fault 0
says members q r (Some xs) path = as_written members q r xs path

-- what the entry at a place of the room says, where the frame of this node came
abbrev pub says_at : {V : Type 0} → (List ℕ → Wrapped V) → List ℕ → ℕ → List ℕ → ℕ → ℕ → Wrapped V
says_at read present width room q at = if has_id present q then read (take width (drop at room)) else Fault 0

-- what a member's next entry says, and what the one before it said
abbrev pub next_in : {V : Type 0} {N : ℕ} → (List ℕ → Wrapped V) → Round N → ℕ → Wrapped V
next_in read round q = says_at read round.present round.width round.room.now q (slice_index round.next q)

abbrev pub last_in : {V : Type 0} {N : ℕ} → (List ℕ → Wrapped V) → Round N → ℕ → Wrapped V
last_in read round q = says_at read round.present round.width round.room.now q (slice_index round.next q - round.width)

-- an entry stands at this place of the room, and it isn't an error that was wrapped more than 253 times
pub record IsEntryAt (width : ℕ) (room : List ℕ) (at : ℕ) : Type 0 where
  pub within : at + width ≤ length room
  pub tagged : slice_index room at < 254

-- each of these members whose frame came has one more entry
pub record HaveNext {N : ℕ} (by : List ℕ) (round : Round N) : Type 0 where
  pub sized : IsCapacity N
  pub low : (q : ℕ) → has_id by q ≡ true → q < N
  pub wide : 0 < round.width
  pub each : (q : ℕ) → has_id by q ≡ true → has_id round.present q ≡ true → IsEntryAt round.width round.room.now (slice_index round.next q)

-- each of these members whose frame came has an entry before its next one
pub record HaveLast {N : ℕ} (by : List ℕ) (round : Round N) : Type 0 where
  pub sized : IsCapacity N
  pub low : (q : ℕ) → has_id by q ≡ true → q < N
  pub wide : 0 < round.width
  pub some : (q : ℕ) → has_id by q ≡ true → has_id round.present q ≡ true → round.width ≤ slice_index round.next q
  pub each : (q : ℕ) → has_id by q ≡ true → has_id round.present q ≡ true → IsEntryAt round.width round.room.now (slice_index round.next q - round.width)

-- the frames of these members that came were read by one entry more, and no others
pub record IsMoved {N : ℕ} (by : List ℕ) (old new : Round N) : Type 0 where
  pub next : (q : ℕ) → q < N → has_id old.present q ≡ true → slice_index new.next q ≡ slice_index old.next q + old.width * bit (has_id by q)
  pub begins : new.begins ≡ old.begins
  pub room : new.room.now ≡ old.room.now
  pub present : new.present ≡ old.present
  pub width : new.width ≡ old.width
  pub size : new.size ≡ old.size

-- the frames of a round of r relays among these members: where those that came stand, and that their entries are in range
pub record IsRound {N : ℕ} (members others : List ℕ) (r : ℕ) (round : Round N) : Type 0 where
  pub wide : 0 < round.width
  pub whole : round.size ≡ round.width * path_count (length members - 1) r
  pub within : (q : ℕ) → has_id round.present q ≡ true → slice_index round.begins q + round.size ≤ length round.room.now
  pub tagged : (q j : ℕ) → has_id round.present q ≡ true → j < path_count (length members - 1) r → slice_index round.room.now (slice_index round.begins q + round.width * j) < 254
  pub others_only : (q : ℕ) → has_id round.present q ≡ true → has_id others q ≡ true

-- all paths of r members are gone through, and k are behind: each frame that came is at its entry for the next path that its sender isn't on
pub record IsWalk {N : ℕ} (members others : List ℕ) (r k : ℕ) (round : Round N) : Type 0 where
  pub frames : IsRound members others r round
  pub cursor : (q : ℕ) → has_id round.present q ≡ true → slice_index round.next q ≡ slice_index round.begins q + round.width * passed (paths_of_length members r) q k
