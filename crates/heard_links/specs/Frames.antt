-- What private functions ask of a frame, of an entry of it that is read, and of two nodes that hear it.
use Rattle.std.specs.Prelude.{ℕ, ◌≡◌, ◌≢◌, ◌≤◌, ◌<◌, ◌+◌, true, List, length}
use Rattle.node_grid.specs.NodeSet.{has_id, without_id}
use Rattle.protocol.specs.Arrival.{ItemForm}
use Rattle.protocol.specs.Run.{System}
use Rattle.heard_links.specs.declared.links.Links.{Links}
use Rattle.heard_links.specs.declared.phase.Phase.{Phase}
use Rattle.heard_links.specs.Talks.{IsSet, members_at}
use Rattle.heard_links.specs.Hearing.{IsHeard}

-- the frame of a round from one node in use to another
pub record IsLink {N : ℕ} (x : Phase N) (r j i : ℕ) : Type 0 where
  pub set : IsSet x
  pub round : r ≤ x.config.now.m
  pub from : j < x.config.now.nodes
  pub to : i < x.config.now.nodes
  pub link : j ≢ i

-- node i reads an entry for this path in the relay frame of its member q
pub record IsRead {N : ℕ} (x : Phase N) (i q : ℕ) (front : List ℕ) : Type 0 where
  pub set : IsSet x
  pub node : i < N
  pub member : has_id (members_at x i) q ≡ true
  pub within : (k : ℕ) → has_id front k ≡ true → has_id (without_id (members_at x i) q) k ≡ true
  pub short : length front ≤ 3

-- the frame of a round from a node in use to another node that is awake, where what came in the rounds below is laid down
pub record IsJudgeable {V : Type 0} {N : ℕ} (form : ItemForm V) (first : ℕ → ℕ) (tells : System → ℕ → ℕ → V) (x : Phase N) (links : Links V N) (r j i : ℕ) : Type 0 where
  pub heard : IsHeard form first tells x links r
  pub few : r ≤ x.config.now.m
  pub from : j < x.config.now.nodes
  pub to : has_id x.awake i ≡ true
  pub other : i ≢ j

-- two nodes that are awake hear the frames of a round, where what came in all rounds is laid down
pub record AreHearers {V : Type 0} {N : ℕ} (form : ItemForm V) (first : ℕ → ℕ) (tells : System → ℕ → ℕ → V) (x : Phase N) (links : Links V N) (r i j : ℕ) : Type 0 where
  pub heard : IsHeard form first tells x links (x.config.now.m + 1)
  pub few : r ≤ x.config.now.m
  pub one : has_id x.awake i ≡ true
  pub other : has_id x.awake j ≡ true
  pub two : i ≢ j
