-- The greatest length of a frame.
use Rattle.std.specs.Prelude.{◌≡◌, ℕ, ◌-◌, ◌==◌, ◌<◌, ◌≤◌, length, if◌then◌else◌}
use Rattle.node_grid.specs.NodeSet.{IsIdSet}
use Rattle.omh_paths.specs.Paths.{path_count}
use Rattle.frames.specs.Content.{Expectation, Content}
use Rattle.frames.specs.Spelling.{spelling, head_of, IsInRange}

-- the greatest number of entries of a relay frame: the paths of m of the others, where there are relay rounds
abbrev pub most_entries : ℕ → ℕ → ℕ
most_entries nodes m = if m == 0 then 0 else path_count (nodes - 1) m

-- what is expected has these sizes, at most so many due channels, and any members among the nodes
pub record HasSizes (nodes m state_len due : ℕ) (e : Expectation) : Type 0 where
  pub nodes_is : e.nodes ≡ nodes
  pub m_is : e.m ≡ m
  pub state_len_is : e.state_len ≡ state_len
  pub few_due : e.due ≤ due
  pub members : IsIdSet nodes e.members

-- no frame of these sizes is longer than n, and one is as long
pub record IsGreatest (nodes m state_len due n : ℕ) : Type 0 where
  pub within : (e : Expectation) (c : Content) → HasSizes nodes m state_len due e → IsInRange e c → length (spelling e.nodes (head_of e) c) ≤ n
  pub reached : (e : Expectation) × (c : Content) × HasSizes nodes m state_len due e × (e.sender < nodes) × IsInRange e c × (length (spelling e.nodes (head_of e) c) ≡ n)
