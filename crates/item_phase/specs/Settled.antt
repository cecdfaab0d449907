-- What all nodes settle in a phase, by what is laid down of it.
use Rattle.std.specs.Prelude.{ℕ, ◌≡◌, ◌≢◌, ◌<◌, ◌≤◌, ◌+◌, ◌*◌, Bool, true, false, List, [], ◌∷◌, None, slice_index_or}
use Rattle.node_grid.specs.NodeSet.{has_id, IsIdSet}
use Rattle.omh_paths.specs.declared.wrapped.Wrapped.{Wrapped}
use Rattle.omh_paths.specs.declared.wrapped.Wrapped.TheVariants.{Fault}
use Rattle.omh.specs.Omh.{Ear, settled_at}
use Rattle.equivocation.specs.Conviction.{convicts}
use Rattle.protocol.specs.Arrival.{ItemForm}
use Rattle.protocol.specs.Settled.{ear_of}
use Rattle.protocol.specs.Talk.{rounds_upto}
use Rattle.protocol.specs.Run.{System}
use Rattle.heard_links.specs.declared.phase.Phase.{Phase}
use Rattle.heard_links.specs.declared.links.Links.{Links}
use Rattle.heard_links.specs.Talks.{members_at}
use Rattle.heard_links.specs.Hearing.{talk_in, is_even, IsHeard, frame_kind}
use Rattle.heard_links.specs.Passing.{own_in}
use Rattle.item_phase.specs.declared.item_phase.ItemPhase.{ItemPhase}
use Rattle.item_phase.specs.declared.item_phase.Seen.{Seen}
use Rattle.item_phase.specs.Noted.{rounds_of}

-- what node i knows of the items
abbrev pub listener : {V : Type 0} {N : ℕ} → ItemForm V → Phase N → Links V N → ℕ → Ear V
listener form x links i = ear_of x.config.now.m i (has_id x.full i) (members_at x i) (rounds_upto (talk_in form x links) x.config.now.m i)

-- the nodes that are awake go through the phase with these members, of nodes in use
pub record IsOfAll {N : ℕ} (x : Phase N) (members : List ℕ) : Type 0 where
  pub ids : IsIdSet x.config.now.nodes members
  pub same : (i : ℕ) → has_id x.awake i ≡ true → members_at x i ≡ members

-- of the relay frames, those of these nodes alone come otherwise than they were sent
abbrev pub AreOdd : {V : Type 0} {N : ℕ} → ItemForm V → Phase N → Links V N → List ℕ → Type 0
AreOdd form x links odd =
    (r j i : ℕ) → 0 < r → r ≤ x.config.now.m → has_id odd j ≡ false → j < x.config.now.nodes → has_id x.awake i ≡ true → i ≢ j → is_even (talk_in form x links) r j i ≡ true

-- the item of node c, where all nodes that are awake have these members, of which c is one, and of the relay frames these alone come otherwise than they were sent
pub record IsTold {V : Type 0} {N : ℕ} (form : ItemForm V) (first : ℕ → ℕ) (tells : System → ℕ → ℕ → V) (x : Phase N) (links : Links V N) (members odd : List ℕ) (c : ℕ) : Type 0 where
  pub heard : IsHeard form first tells x links (x.config.now.m + 1)
  pub all : IsOfAll x members
  pub odd_are : AreOdd form x links odd
  pub member : has_id members c ≡ true

-- node i settles the item of node c as c says it, and doesn't convict c
pub record IsPlain {V : Type 0} {N : ℕ} (eq : V → V → Bool) (form : ItemForm V) (x : Phase N) (links : Links V N) (i c : ℕ) : Type 0 where
  pub settled : own_in x links c ≡ settled_at eq (listener form x links i) (c ∷ [])
  pub spared : convicts eq (listener form x links i) c ≡ false

-- what node i settles of the item of node c is laid down, and whether it convicts c
pub record IsLaid {V : Type 0} {N : ℕ} (eq : V → V → Bool) (form : ItemForm V) (x : Phase N) (links : Links V N) (each : List (Wrapped V)) (convicting : List (List ℕ)) (i c : ℕ) : Type 0 where
  pub settled : slice_index_or each (c * N + i) (Fault 0) ≡ settled_at eq (listener form x links i) (c ∷ [])
  pub convicted : x.config.now.version ≢ 1 → has_id (slice_index_or convicting c []) i ≡ convicts eq (listener form x links i) c

-- what is said of all is so: all nodes that are awake have the same members, which all settle as they say it; and a node that isn't ill has no bad frame
pub record IsSeen {V : Type 0} {N : ℕ} (form : ItemForm V) (x : Phase N) (links : Links V N) (seen : Seen N) : Type 0 where
  pub same : seen.is_all ≡ true → (i j : ℕ) → has_id x.awake i ≡ true → has_id x.awake j ≡ true → members_at x i ≡ members_at x j
  pub plain : seen.is_all ≡ true → (i c : ℕ) → has_id x.awake i ≡ true → has_id (members_at x i) c ≡ true → has_id seen.plain c ≡ true
  pub used : (j : ℕ) → has_id seen.ill j ≡ true → j < x.config.now.nodes
  pub well : (r j i : ℕ) → r ≤ x.config.now.m → j < x.config.now.nodes → has_id seen.ill j ≡ false → has_id x.awake i ≡ true → i ≢ j → frame_kind (rounds_of form x links i) r j ≡ None

-- so it is of each node that is awake and each of its other members
pub record IsSettled {V : Type 0} {N : ℕ} (eq : V → V → Bool) (form : ItemForm V) (first : ℕ → ℕ) (tells : System → ℕ → ℕ → V) (x : Phase N) (s : ItemPhase V N) : Type 0 where
  pub heard : IsHeard form first tells x s.links (x.config.now.m + 1)
  pub plain : (i c : ℕ) → has_id x.awake i ≡ true → has_id (members_at x i) c ≡ true → c ≢ i → has_id s.seen.plain c ≡ true → IsPlain eq form x s.links i c
  pub laid : (i c : ℕ) → has_id x.awake i ≡ true → has_id (members_at x i) c ≡ true → c ≢ i → has_id s.seen.plain c ≡ false → IsLaid eq form x s.links s.each.items s.convicting i c
  pub seen : IsSeen form x s.links s.seen
