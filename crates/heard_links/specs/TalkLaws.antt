-- The laws of the slots of one kind of item, over the definitions alone.
use Rattle.std.specs.Prelude.{ℕ, ◌≡◌, ◌≤◌, ◌<◌, true, List, None}
use Rattle.node_grid.specs.NodeSet.{has_id}
use Rattle.protocol.specs.Arrival.{ItemForm}
use Rattle.protocol.specs.Heard.{heard}
use Rattle.protocol.specs.Talk.{Talk, rounds_upto}
use Rattle.protocol.specs.Run.{System}
use Rattle.touched_items.specs.Items.{talk_of}
use Rattle.heard_links.specs.declared.phase.Phase.{Phase}
use Rattle.heard_links.specs.Talks.{phase_talk, IsSet, IsPhaseOf}
use Rattle.heard_links.specs.Hearing.{frame_kind, is_even}

-- in the rounds of two talks, nodes below this one have the same of all frames of such nodes
pub record IsSameTalk {V : Type 0} (nodes m : ℕ) (t u : Talk V) : Type 0 where
  pub first : (i j : ℕ) → i < nodes → j < nodes → (rounds_upto t m i).first j ≡ (rounds_upto u m i).first j
  pub relay : (r i j : ℕ) → i < nodes → j < nodes → (rounds_upto t m i).relay r j ≡ (rounds_upto u m i).relay r j
  pub kind : (r i j : ℕ) → i < nodes → j < nodes → frame_kind (rounds_upto t m i) r j ≡ frame_kind (rounds_upto u m i) r j
  pub heard : (i : ℕ) (path : List ℕ) → i < nodes → ((q : ℕ) → has_id path q ≡ true → q < nodes) → heard (rounds_upto t m i) path ≡ heard (rounds_upto u m i) path

-- Talks law: the talk of a phase is that of the run, as far as nodes in use have it
abbrev pub TalksLaw : {V : Type 0} → (N : ℕ) → ItemForm V → (ℕ → ℕ) → (System → ℕ → ℕ → V) → Type 0
TalksLaw {V} N form first tells =
    (sys : System) (x : Phase N) (item : ℕ → V) → IsSet x → IsPhaseOf form first tells sys x item
    → IsSameTalk x.config.now.nodes x.config.now.m (phase_talk form x item) (talk_of form first tells sys x.period)

-- Good law: a frame of a Full node that comes as it was sent has no kind of error
abbrev pub GoodLaw : {V : Type 0} → (N : ℕ) → ItemForm V → (ℕ → ℕ) → (System → ℕ → ℕ → V) → Type 0
GoodLaw {V} N form first tells =
    (sys : System) (x : Phase N) (item : ℕ → V) → IsSet x → IsPhaseOf form first tells sys x item
    → (r j i : ℕ) → r ≤ x.config.now.m → j < x.config.now.nodes → i < x.config.now.nodes → has_id x.full j ≡ true
    → is_even (phase_talk form x item) r j i ≡ true → frame_kind (rounds_upto (phase_talk form x item) x.config.now.m i) r j ≡ None
