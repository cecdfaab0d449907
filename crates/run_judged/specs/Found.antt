-- What is found of each node in a period.
use Rattle.std.specs.Prelude.{ℕ, ◌≡◌, ◌<◌, not, List, slice_index_or}
use Rattle.node_grid.specs.declared.class.Class.{Class}
use Rattle.node_grid.specs.declared.class.Class.TheVariants.{N}
use Rattle.node_grid.specs.Class.{is_sound, is_nonfaulty}
use Rattle.node_grid.specs.NodeSet.{has_id}
use Rattle.run_judged.specs.declared.illness.Sign.{Sign}
use Rattle.run_judged.specs.declared.found.Findings.{Findings}

-- the class of node j among those of all nodes
abbrev pub class_at : List Class → ℕ → Class
class_at classes j = slice_index_or classes j N

abbrev pub sign_by : {capacity : ℕ} → Findings capacity → ℕ → Sign
sign_by f j = record {
  class = class_at f.classes j;
  touched = has_id f.touched j;
  member = has_id f.members j;
  charged = has_id f.charged j;
  left = has_id f.left j;
  joined = has_id f.joined j;
}

-- what is found of a period, by what is seen of each node in use
pub record AreFound {capacity : ℕ} (seen : ℕ → ℕ → Sign) (in_use p : ℕ) (f : Findings capacity) : Type 0 where
  pub period : f.period ≡ p
  pub nodes : f.nodes ≡ in_use
  pub each : (j : ℕ) → j < in_use → sign_by f j ≡ seen j p
  pub sound : (j : ℕ) → j < in_use → has_id f.sound j ≡ is_sound (seen j p).class
  pub faulty : (j : ℕ) → j < in_use → has_id f.faulty j ≡ not (is_nonfaulty (seen j p).class)
