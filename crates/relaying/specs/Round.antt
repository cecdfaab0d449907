-- A relay slot of what was heard of an item.
use Rattle.std.specs.Prelude.{◌≡◌, ◌≢◌, ◌<◌, ◌≤◌, ◌*◌, ℕ, List, length, slice_index_or}
use Rattle.omh_paths.specs.declared.wrapped.Wrapped.{Wrapped}
use Rattle.omh_paths.specs.declared.wrapped.Wrapped.TheVariants.{Fault}
use Rattle.omh_paths.specs.Wrapped.{wrapped}
use Rattle.omh.specs.Heard.{Hearing}
use Rattle.frames.specs.Content.{Expectation, kind_in, round_in}
use Rattle.relay_rules.specs.Ranged.{HeardIn, IsRanged}

-- a slot of relay round r of an item whose relay frames have this kind, as the node expects it that heard this, all of it in
-- range
pub record IsRoundOf {V : Type 0} (capacity kind : ℕ) (in_range : Expectation → V → Type 0) (r : ℕ) (h : Hearing V) (e : Expectation) : Type 0 where
  pub capacity_is : e.capacity ≡ capacity
  pub kind_is : kind ≡ kind_in e.m e.slot
  pub round_is : round_in e.m e.slot ≡ r
  pub nodes_are : e.nodes ≡ h.nodes
  pub members_are : e.members ≡ h.members
  pub own_ranged : HeardIn (in_range e) 0 h.own
  pub ranged : IsRanged (in_range e) h.heard

-- a relay round in whose slot the node passes on what it heard
pub record IsOwnRound {V : Type 0} (capacity kind : ℕ) (in_range : Expectation → V → Type 0) (r : ℕ) (h : Hearing V) : Type 0 where
  pub some : 0 < r
  pub within : r ≤ h.rounds
  pub slot : (e : Expectation) × IsRoundOf capacity kind in_range r h e

-- terms can be wrapped and put, entry by entry, into so many bytes: none was wrapped often, and each entry has this width
pub record CanPut {V : Type 0} (width : ℕ) (spell : Wrapped V → List ℕ) (terms : List (Wrapped V)) (size : ℕ) : Type 0 where
  pub few : (k : ℕ) → slice_index_or terms k (Fault 0) ≢ Fault 254
  pub wide : (k : ℕ) → k < length terms → length (spell (wrapped (slice_index_or terms k (Fault 0)))) ≡ width
  pub room : width * length terms ≤ size
