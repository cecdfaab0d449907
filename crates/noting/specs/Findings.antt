-- What the slot that was closed says of its senders.
use Rattle.std.specs.Prelude.{◌≡◌, ◌≢◌, ◌<◌, ℕ, Bool, not, ◌&&◌, ◌==◌, List, Option, IfSome, if◌then◌else◌, slice_index_or}
use Rattle.node_grid.specs.Capacity.{IsCapacity}
use Rattle.node_grid.specs.NodeSet.{ids_where}
use Rattle.frames.specs.Content.{Content}
use Rattle.error_detect.specs.declared.finding.Finding.{Finding}
use Rattle.error_detect.specs.declared.finding.Finding.TheVariants.{Good}
use Rattle.error_detect.specs.Finding.{kind_of}
use Rattle.error_detect.specs.Watching.{Watch, finding_at, told_at, IsHeardBy}
use Rattle.error_reports.specs.Notes.{is_kind}
use Rattle.protocol.specs.Arrival.{Arrival, ItemForm, arrived, is_bad, is_good}

-- what a node has of a sender's frame in the slot that was closed
abbrev pub has_of : {C : Type 0} → (Content → Option C) → Watch → ℕ → Arrival C
has_of part w j = arrived part (kind_of (finding_at w j)) (told_at w j)

-- whether the finding of a sender's frame of round r has this kind of error
abbrev pub bad_in : {V : Type 0} → ItemForm V → ℕ → Watch → ℕ → ℕ → Bool
bad_in form r w j k = if r == 0 then is_bad (has_of form.item_in w j) k else is_bad (has_of form.relay_in w j) k

-- the other nodes whose frames in the slot were good, by what each one's frame says
abbrev pub good_in : ℕ → ℕ → (ℕ → Arrival (List ℕ)) → List ℕ
good_in nodes me sync = ids_where (λ j. not (j == me) && is_good (sync j)) nodes

-- whether what was found of a node is this kind of error
abbrev pub found_bad : List Finding → ℕ → ℕ → Bool
found_bad found j k = is_kind (kind_of (slice_index_or found j Good)) k

-- another node, in a slot that was closed of a watch with room for so many
pub record IsOtherHeard (capacity : ℕ) (w : Watch) (j : ℕ) : Type 0 where
  pub capacity_ok : IsCapacity capacity
  pub heard : IsHeardBy w w.nodes w.me
  pub node : j < w.nodes
  pub other : j ≢ w.me

-- a closed sync slot of a node, one of so many
pub record IsSyncOf (nodes me : ℕ) (w : Watch) : Type 0 where
  pub heard : IsHeardBy w nodes me
  pub first : IfSome w.expect (λ e. e.slot ≡ 0)
