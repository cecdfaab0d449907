-- What the frames of a slot that was closed tell a node.
use Rattle.std.specs.Prelude.{◌≡◌, ◌<◌, ◌≤◌, nat_lt, if◌then◌else◌, true, false, ℕ, List, length, slice_index, Option, None, Some}
use Rattle.node_grid.specs.NodeSet.{has_id}
use Rattle.omh.specs.Heard.{Hearing}
use Rattle.frames.specs.Content.{Expectation, Content, kind_in, round_in}
use Rattle.error_detect.specs.Watching.{Watch, told_at, IsHeardBy}
use Rattle.error_detect.specs.Entries.{body_begin, entries_begin, HoldsBodies}
use Rattle.relay_walk.specs.declared.round.Round.{Round}
use Rattle.protocol.specs.Arrival.{ItemForm}
use Rattle.relay_rules.specs.Hearing.{after_round}

-- a part of what a frame says, if there is one that has it
abbrev pub part_told : {C : Type 0} → (Content → Option C) → Option Content → Option C
part_told part None = None
part_told part (Some c) = part c

-- a slot of relay round r of an item whose relay frames have this kind
pub record IsSlotOf {V : Type 0} (capacity kind r : ℕ) (h : Hearing V) (e : Expectation) : Type 0 where
  pub capacity_is : e.capacity ≡ capacity
  pub kind_is : kind ≡ kind_in e.m e.slot
  pub round_is : round_in e.m e.slot ≡ r
  pub nodes_are : e.nodes ≡ h.nodes
  pub members_are : e.members ≡ h.members

-- a watch of a slot of round r of an item, as the node that heard this watched it until it was closed
pub record IsRoundHeard {V : Type 0} (capacity kind r : ℕ) (h : Hearing V) (w : Watch) : Type 0 where
  pub closed : IsHeardBy w h.nodes h.me
  pub slot : 0 < r → (e : Expectation) → w.expect ≡ Some e → IsSlotOf capacity kind r h e

-- and of a relay round
pub record IsRelayHeard {V : Type 0} (capacity kind r : ℕ) (h : Hearing V) (w : Watch) : Type 0 where
  pub some : 0 < r
  pub within : r ≤ h.rounds
  pub heard : IsRoundHeard capacity kind r h w

-- where the entries begin of what a node told
abbrev pub entries_of_node : Watch → ℕ → Option ℕ
entries_of_node w q = entries_begin (body_begin w q) (told_at w q)

-- the frames of those of these nodes below a bound that came were taken up
pub record ArePut {N : ℕ} (w : Watch) (others : List ℕ) (until : ℕ) (round : Round N) : Type 0 where
  pub room : HoldsBodies w round.room.now
  pub long : length round.begins ≡ N
  pub next : round.next ≡ round.begins
  pub others_only : (q : ℕ) → has_id round.present q ≡ true → has_id others q ≡ true
  pub begins : (q : ℕ) → has_id round.present q ≡ true → entries_of_node w q ≡ Some (slice_index round.begins q)
  pub missing : (q : ℕ) → q < until → has_id others q ≡ true → has_id round.present q ≡ false → entries_of_node w q ≡ None

-- what was heard after the last round, where its terms are kept: a later last round is settled as it is read
abbrev pub IsHeardWhereKept : {V : Type 0} → ItemForm V → Watch → Hearing V → Hearing V → Type 0
IsHeardWhereKept form w was now = now ≡ (if nat_lt was.rounds 2 then after_round form was.nodes w was.rounds was else was)
