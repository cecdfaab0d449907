-- For how many nodes and rounds there is room.
use Rattle.std.specs.Prelude.{ℕ, ◌≡◌, ◌+◌, ◌-◌, ◌≤◌, ◌<◌, true, List, length}
use Rattle.node_grid.specs.Capacity.{IsCapacity}
use Rattle.node_grid.specs.NodeSet.{has_id}
use Rattle.omh_paths.specs.declared.wrapped.Wrapped.{Wrapped}
use Rattle.settled_paths.specs.Levels.{level_at}

pub record Room : Type 0 where
  pub nodes : ℕ
  pub rounds : ℕ  -- of relaying

-- an item of a member is exchanged among nodes for which there is room, in as many rounds
pub record HasRoomFor (capacity rounds : ℕ) (members : List ℕ) (commander : ℕ) (room : Room) : Type 0 where
  pub capacity_ok : IsCapacity capacity
  pub rounds_are : rounds ≡ room.rounds
  pub nodes_ok : (q : ℕ) → has_id members q ≡ true → q < room.nodes
  pub member_ok : has_id members commander ≡ true

-- places for all paths, for those of m nodes, and for what is settled on the way
pub record HasRoom {V : Type 0} (nodes rounds : ℕ) (laid longest work : List (Wrapped V)) : Type 0 where
  pub nodes_ok : nodes ≤ 16
  pub rounds_ok : rounds ≤ 3
  pub laid_ok : length laid ≡ level_at (nodes - 1) (rounds + 1)
  pub longest_ok : length longest ≡ level_at (nodes - 1) rounds
  pub work_ok : length work ≡ 16 + level_at (nodes - 1) rounds
