-- How values and clocks come together over many periods, each of which is claimed.
use Rattle.std.specs.Prelude.{ℕ, suc, ◌≡◌, ◌+◌, ◌-◌, ◌*◌, ◌/◌, ◌^◌, ◌<◌, ◌≤◌, ℤ, pos, true, List, Some, unsigned_abs, slice_index_or}
use Rattle.node_grid.specs.declared.class.Class.TheVariants.{N}
use Rattle.node_grid.specs.Class.{is_sound}
use Rattle.mme_vote.specs.declared.channel.Channel.TheVariants.{State}
use Rattle.mme_vote.specs.Vote.{distance}
use Rattle.clock_skew.specs.Clock.{ClockView, number_at}
use Rattle.protocol.specs.View.{value_at, own_in, channel}
use Rattle.protocol.specs.FurtherKinds.{convictions}
use Rattle.protocol.specs.Cluster.{Cluster, view}
use Rattle.protocol.specs.Run.{System, run, classes}
use Rattle.protocol.specs.Accepted.{IsAccepted}
use Rattle.protocol.specs.Safe.{Classing, Claim}
use Rattle.protocol.specs.Clocks.{AreClocks, offsets}

-- ---- laws of claimed periods

-- P holds of each claimed period p of each run that is accepted and whose nodes accuse those whom they convict
abbrev pub OfEachClaimed : (System → ℕ → Type 0) → Type 0
OfEachClaimed P = (sys : System) → IsAccepted sys → sys.setting.further ≡ convictions sys.setting.config.m → (p : ℕ) → Claim (run sys) (classes sys) p → P sys p

-- P holds of the periods from p to p + k of such a run, where the last of them is claimed, and so all up to it
abbrev pub OfAllClaimed : (System → ℕ → ℕ → Type 0) → Type 0
OfAllClaimed P = (sys : System) → IsAccepted sys → sys.setting.further ≡ convictions sys.setting.config.m → (p k : ℕ) → Claim (run sys) (classes sys) (p + k) → P sys p k

-- a distance that is halved k times, and rounded up each time: the distance by 2 ^ k, rounded up
unfoldable pub halved : ℕ → ℕ → ℕ
halved k d = (d + (2 ^ k - 1)) / 2 ^ k

-- ---- values of a state channel

-- in period p the own values of any two nonfaulty nodes for channel c are at most d apart
abbrev pub OwnsNear : Cluster → Classing → ℕ → ℕ → ℕ → Type 0
OwnsNear cl class_of p c d = (i j : ℕ) → class_of p i ≡ N → class_of p j ≡ N → distance (own_in (view cl i p).own c) (own_in (view cl j p).own c) ≤ d

-- and so are the votes of any two sound nodes on it, where they have votes
abbrev pub VotesNear : Cluster → Classing → ℕ → ℕ → ℕ → Type 0
VotesNear cl class_of p c d =
    (i j : ℕ) (v w : ℤ) → is_sound (class_of p i) ≡ true → is_sound (class_of p j) ≡ true → value_at (view cl i p).votes c ≡ Some v → value_at (view cl j p).votes c ≡ Some w
    → distance v w ≤ d

-- own values that are at most d apart in period p are at most d by 2 ^ k apart in period p + k, and the votes there half of that, each rounded up
abbrev pub ValuesConverge : System → ℕ → ℕ → Type 0
ValuesConverge sys p k =
    (c : ℕ) (delta : ℤ) (start : List ℤ) (step : ℤ) → channel sys.setting c ≡ State delta start step → (d : ℕ) → OwnsNear (run sys) (classes sys) p c d
    → OwnsNear (run sys) (classes sys) (p + k) c (halved k d) × VotesNear (run sys) (classes sys) (p + k) c (halved (suc k) d)

abbrev pub ValuesConvergeLaw : Type 0
ValuesConvergeLaw = OfAllClaimed ValuesConverge

-- so they are in period p at most d by 2 ^ p apart, where the starts of the nodes in use are at most d apart. The channel's delta is such a d
abbrev pub StartsConverge : System → ℕ → Type 0
StartsConverge sys p =
    (c : ℕ) (delta : ℤ) (start : List ℤ) (step : ℤ) → channel sys.setting c ≡ State delta start step
    → (d : ℕ) → ((i j : ℕ) → i < sys.setting.config.nodes → j < sys.setting.config.nodes → distance (slice_index_or start i (pos 0)) (slice_index_or start j (pos 0)) ≤ d)
    → OwnsNear (run sys) (classes sys) p c (halved p d) × VotesNear (run sys) (classes sys) p c (halved (suc p) d)

abbrev pub StartsConvergeLaw : Type 0
StartsConvergeLaw = OfEachClaimed StartsConverge

-- ---- clocks

-- how far apart clocks settle, in the units of offsets: twice what a period adds, which is twice the reading error, and the drift
abbrev pub settled_skew : ClockView → ℕ
settled_skew c = 4 * unsigned_abs c.epsilon + 2 * unsigned_abs c.drift

-- before period p the offsets of any two nonfaulty nodes are at most d apart
abbrev pub OffsetsNear : Cluster → Classing → ClockView → ℕ → ℕ → Type 0
OffsetsNear cl class_of c p d = (i j : ℕ) → class_of p i ≡ N → class_of p j ≡ N → distance (offsets cl c p i) (offsets cl c p j) ≤ d

-- and after it those of any two sound nodes are
abbrev pub SkewAfter : Cluster → Classing → ClockView → ℕ → ℕ → Type 0
SkewAfter cl class_of c p d = (i j : ℕ) → is_sound (class_of p i) ≡ true → is_sound (class_of p j) ≡ true → distance (offsets cl c (suc p) i) (offsets cl c (suc p) j) ≤ d

-- what clocks are further apart than they settle is halved in each period, rounded up; clocks that are no further apart stay so
abbrev pub ClocksSettle : System → ClockView → ℕ → ℕ → Type 0
ClocksSettle sys c p k =
    (d : ℕ) → OffsetsNear (run sys) (classes sys) c p d
    → OffsetsNear (run sys) (classes sys) c (p + k) (halved k (d - settled_skew c) + settled_skew c)
    × SkewAfter (run sys) (classes sys) c (p + k) (halved (suc k) (d - settled_skew c) + settled_skew c)

abbrev pub ClocksSettleLaw : Type 0
ClocksSettleLaw = OfAllClaimed (λ sys p k. (c : ClockView) → AreClocks (run sys) (classes sys) c → ClocksSettle sys c p k)

-- the same before and after period p, where the clocks of the nodes in use start at most d apart. In the end they are no further apart than they
-- settle, but for one
pub record ClocksSettled (sys : System) (c : ClockView) (p d : ℕ) : Type 0 where
  pub before : OffsetsNear (run sys) (classes sys) c p (halved p (d - settled_skew c) + settled_skew c)
  pub after : SkewAfter (run sys) (classes sys) c p (halved (suc p) (d - settled_skew c) + settled_skew c)
  pub in_the_end : d ≤ settled_skew c + 2 ^ p → OffsetsNear (run sys) (classes sys) c p (settled_skew c + 1)

abbrev pub StartedClocks : System → ClockView → ℕ → Type 0
StartedClocks sys c p = (d : ℕ) → ((i j : ℕ) → i < c.nodes → j < c.nodes → distance (number_at c.start i) (number_at c.start j) ≤ d) → ClocksSettled sys c p d

abbrev pub StartedClocksLaw : Type 0
StartedClocksLaw = OfEachClaimed (λ sys p. (c : ClockView) → AreClocks (run sys) (classes sys) c → StartedClocks sys c p)
