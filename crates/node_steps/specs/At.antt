-- Where a node stands in a period, by what it has of the frames of all its slots.
use Rattle.std.specs.Prelude.{◌≡◌, ◌≢◌, ◌<◌, ℕ, Bool, nat_le, List, map, length, if◌then◌else◌}
use Rattle.omh_paths.specs.declared.wrapped.Wrapped.{Wrapped}
use Rattle.omh_paths.specs.declared.wrapped.Wrapped.TheVariants.{Plain, Fault}
use Rattle.omh.specs.Heard.{Hearing, entry, heard_paths}
use Rattle.error_detect.specs.Watching.{Watch}
use Rattle.protocol.specs.Arrival.{ItemForm}
use Rattle.protocol.specs.Heard.{Rounds, heard, paths_of, with_entries}
use Rattle.noting.specs.Findings.{has_of}

-- what was heard for paths of at most n nodes
abbrev pub heard_upto : {V : Type 0} → ℕ → Rounds V → List ℕ → Wrapped V
heard_upto n x path = if nat_le (length path) n then heard x path else Fault 0

-- the table of a node that has heard so much
abbrev pub table_at : {V : Type 0} → ℕ → ℕ → List ℕ → ℕ → Bool → V → ℕ → Rounds V → Hearing V
table_at nodes m members me full own n x = record {
  nodes = nodes;
  rounds = m;
  members = members;
  me = me;
  full = full;
  own = Plain own;
  heard = map (entry (heard_upto n x)) (heard_paths members me m);
}

-- what the closed slot of round r says of an item is what a node has of it in the rounds
pub record IsRound {V : Type 0} (form : ItemForm V) (members : List ℕ) (me nodes r : ℕ) (w : Watch) (x : Rounds V) : Type 0 where
  pub first : r ≡ 0 → (j : ℕ) → j < nodes → j ≢ me → x.first j ≡ has_of form.item_in w j
  pub relay : 0 < r → (j : ℕ) → j < nodes → j ≢ me → x.relay r j ≡ with_entries (paths_of members r j) (has_of form.relay_in w j)
