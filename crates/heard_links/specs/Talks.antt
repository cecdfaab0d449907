-- The slots of one kind of item in a period, by what the code has of them.
use Rattle.std.specs.Prelude.{ℕ, ◌≡◌, ◌≤◌, ◌<◌, ◌+◌, ◌≢◌, ◌==◌, ◌||◌, not, true, false, List, [], None, slice_index_or}
use Rattle.std.specs.Cmp.Lexicographic.{pointwise}
use Rattle.node_grid.specs.Capacity.{IsCapacity}
use Rattle.node_grid.specs.NodeSet.{has_id, IsIdSet}
use Rattle.slot_plan.specs.Slots.{slot_count}
use Rattle.fault_classes.specs.Line.{effect_at}
use Rattle.agreed_state.specs.Config.{IsConfig}
use Rattle.agreed_state.specs.Expecting.{expectation}
use Rattle.protocol.specs.Arrival.{ItemForm}
use Rattle.protocol.specs.Talk.{Talk}
use Rattle.protocol.specs.Run.{System, full_at, members_of, goes_in}
use Rattle.protocol.specs.Configured.{setting_of}
use Rattle.protocol.specs.Accepted.{IsAccepted}
use Rattle.heard_links.specs.declared.phase.Phase.{Phase}

-- what a node goes through the period with as its members
abbrev pub members_at : {N : ℕ} → Phase N → ℕ → List ℕ
members_at x i = slice_index_or x.members i []

-- the talk of it, where Full nodes say these items of themselves
abbrev pub phase_talk : {V : Type 0} {N : ℕ} → ItemForm V → Phase N → (ℕ → V) → Talk V
phase_talk form x item = record {
  form = form;
  change = λ r. effect_at x.plan.now.lines x.period (x.first + r);
  expect = λ r j members. expectation x.config.now x.period (x.first + r) j members 0;
  members = members_at x;
  full = has_id x.full;
  item = item;
}

-- slots of the plan behind the first one, and sets of nodes in use; Full nodes are awake
pub record IsSet {N : ℕ} (x : Phase N) : Type 0 where
  pub capacity : IsCapacity N
  pub config : IsConfig N x.config.now
  pub plan_nodes : x.plan.now.nodes ≡ x.config.now.nodes
  pub plan_rounds : x.plan.now.rounds ≡ x.config.now.m
  pub period : x.period < x.plan.now.periods
  pub behind : 0 < x.first
  pub slots : x.first + x.config.now.m < slot_count x.config.now.m
  pub members : (i : ℕ) → IsIdSet x.config.now.nodes (members_at x i)
  pub full : (q : ℕ) → has_id x.full q ≡ true → has_id x.awake q ≡ true
  pub awake : (q : ℕ) → has_id x.awake q ≡ true → q < x.config.now.nodes

-- in a run the items of a form are told in the slots from the first one on, and this is what the nodes in use go through these with
pub record IsPhaseOf {V : Type 0} {N : ℕ} (form : ItemForm V) (first : ℕ → ℕ) (tells : System → ℕ → ℕ → V) (sys : System) (x : Phase N) (item : ℕ → V) : Type 0 where
  pub accepted : IsAccepted sys
  pub setting : sys.setting ≡ setting_of x.config.now
  pub plan : sys.plan ≡ x.plan.now
  pub first_is : x.first ≡ first x.config.now.m
  pub members : (i : ℕ) → i < x.config.now.nodes → members_of sys x.period (goes_in sys x.period) i ≡ members_at x i
  pub full : (i : ℕ) → i < x.config.now.nodes → full_at sys x.period (goes_in sys x.period) i ≡ has_id x.full i
  pub told : (i : ℕ) → i < x.config.now.nodes → has_id x.full i ≡ true → tells sys x.period i ≡ item i

-- nothing befalls the frame of a round from node j to node i, and i reads it by the members by which it was sent
pub record IsEvenTo {N : ℕ} (x : Phase N) (r j i : ℕ) : Type 0 where
  pub whole : effect_at x.plan.now.lines x.period (x.first + r) j i ≡ None
  pub read_alike : (r == 0 || (not (has_id x.full j) || pointwise ◌==◌ (members_at x j) (members_at x i))) ≡ true

-- only frames of these nodes may come otherwise than they were sent
pub record IsJudged {N : ℕ} (x : Phase N) (judged : List ℕ) : Type 0 where
  pub clean : (r j i : ℕ) → r ≤ x.config.now.m → j < x.config.now.nodes → i < x.config.now.nodes → i ≢ j → has_id judged j ≡ false
      → effect_at x.plan.now.lines x.period (x.first + r) j i ≡ None
  pub same : (j i : ℕ) → has_id x.awake j ≡ true → has_id x.awake i ≡ true → has_id judged j ≡ false → members_at x j ≡ members_at x i
  pub used : (j : ℕ) → has_id judged j ≡ true → j < x.config.now.nodes

-- of the frame of a round from node j to nodes that are awake, those to other nodes than these are even
pub record AreUneven {N : ℕ} (x : Phase N) (r j : ℕ) (uneven : List ℕ) : Type 0 where
  pub even : (i : ℕ) → has_id x.awake i ≡ true → i ≢ j → has_id uneven i ≡ false → IsEvenTo x r j i
  pub awake : (i : ℕ) → i < x.config.now.nodes → has_id uneven i ≡ true → has_id x.awake i ≡ true
  pub other : (i : ℕ) → i < x.config.now.nodes → has_id uneven i ≡ true → i ≢ j
