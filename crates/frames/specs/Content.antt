-- What a receiver expects of a frame, what a frame can say, and what of it is in range.
use Rattle.std.specs.Prelude.{◌≡◌, ℕ, ◌+◌, ◌-◌, ◌*◌, ◌^◌, ◌<◌, ◌≤◌, ◌⊎◌, Bool, true, false, ℤ, pos, neg_ℤ, ◌≤ℤ◌, ◌==◌, nat_le, List, length, drop, replicate, All, if◌then◌else◌}
use Rattle.node_grid.specs.Kinds.{no_claim}
use Rattle.node_grid.specs.NodeSet.{has_id}
use Rattle.node_grid.specs.Version.{mask_bound}
use Rattle.omh_paths.specs.Paths.{path_count}
use Rattle.omh_paths.specs.declared.wrapped.Wrapped.{Wrapped}
use Rattle.omh_paths.specs.declared.wrapped.Wrapped.TheVariants.{Plain, Fault}
use Rattle.frames.specs.FrameKinds.{state_kind, claim_kind, claim_relay_kind, data_kind, row_kind, row_relay_kind, cold_kind}

-- what a receiver expects: a slot of a period, a sender, and the sizes of what is sent
pub record Expectation : Type 0 where
  pub version : ℕ  -- which of the two versions of the formats
  pub capacity : ℕ  -- how many masks a row has
  pub nodes : ℕ
  pub m : ℕ  -- how many relay rounds there are
  pub period : ℕ
  pub slot : ℕ
  pub sender : ℕ
  pub members : List ℕ
  pub state_len : ℕ  -- the bytes of a state
  pub tasks : ℕ
  pub due : ℕ  -- how many channels are due

-- what a frame says
pub data Content : Type 0 where
  State : List ℕ → Content  -- the bytes of a state
  Done0 : ℕ → Content  -- a claim: a task, or no_claim
  DoneRelay : List (Wrapped ℕ) → Content  -- what was heard of claims, by path
  Data : List ℤ → Content  -- a value for each due channel
  Report0 : List ℕ → Content  -- a row: a mask for each node
  ReportRelay : List (Wrapped (List ℕ)) → Content  -- what was heard of rows, by path
  Cold : Content

-- whether a content says that its sender is cold
abbrev pub is_cold : Content → Bool
is_cold (State bytes) = false
is_cold (Done0 task) = false
is_cold (DoneRelay entries) = false
is_cold (Data numbers) = false
is_cold (Report0 masks) = false
is_cold (ReportRelay entries) = false
is_cold Cold = true

-- the number of a content's kind
abbrev pub kind : Content → ℕ
kind (State bytes) = state_kind
kind (Done0 task) = claim_kind
kind (DoneRelay entries) = claim_relay_kind
kind (Data numbers) = data_kind
kind (Report0 masks) = row_kind
kind (ReportRelay entries) = row_relay_kind
kind Cold = cold_kind

-- the kind that has its place in a slot, where there are m relay rounds; that of Cold where there is no such slot
abbrev pub kind_in : ℕ → ℕ → ℕ
kind_in m slot =
    if slot == 0 then state_kind
    else (if slot == 1 then claim_kind
    else (if nat_le slot (m + 1) then claim_relay_kind
    else (if slot == m + 2 then data_kind
    else (if slot == m + 3 then row_kind
    else (if nat_le slot (2 * m + 3) then row_relay_kind else cold_kind)))))

-- the relay round of a slot of relay frames
abbrev pub round_in : ℕ → ℕ → ℕ
round_in m slot = if nat_le slot (m + 1) then slot - 1 else slot - (m + 3)

-- how many entries a relay frame has: one for each path of as many distinct members, without the sender, as its round
abbrev pub entries_due : Expectation → ℕ
entries_due e = if has_id e.members e.sender then path_count (length e.members - 1) (round_in e.m e.slot) else 0

-- a task, or none
abbrev pub IsClaim : ℕ → ℕ → Type 0
IsClaim tasks task = (task ≡ no_claim) ⊎ (task < tasks)

-- a mask of the version for each node, and 0 where there is no node
pub record IsRow (version capacity nodes : ℕ) (masks : List ℕ) : Type 0 where
  pub room : nodes ≤ capacity
  pub whole : length masks ≡ capacity
  pub within : All (λ mask. mask < mask_bound version) masks
  pub rest : drop nodes masks ≡ replicate (capacity - nodes) 0

-- from -2^42 to 2^42
pub record IsValue (number : ℤ) : Type 0 where
  pub low : neg_ℤ (pos (2 ^ 42)) ≤ℤ number
  pub high : number ≤ℤ pos (2 ^ 42)

-- a plain value in range, or an error that was wrapped once to r times
abbrev pub IsEntry : {V : Type 0} → (V → Type 0) → ℕ → Wrapped V → Type 0
IsEntry P r (Plain v) = P v
IsEntry P r (Fault k) = (0 < k) × (k ≤ r)

-- what is said has the sizes that are expected, and lies in its ranges
abbrev pub IsSized : Expectation → Content → Type 0
IsSized e (State bytes) = length bytes ≡ e.state_len
IsSized e (Done0 task) = IsClaim e.tasks task
IsSized e (DoneRelay entries) = (length entries ≡ entries_due e) × All (IsEntry (IsClaim e.tasks) (round_in e.m e.slot)) entries
IsSized e (Data numbers) = (length numbers ≡ e.due) × All IsValue numbers
IsSized e (Report0 masks) = IsRow e.version e.capacity e.nodes masks
IsSized e (ReportRelay entries) = (length entries ≡ entries_due e) × All (IsEntry (IsRow e.version e.capacity e.nodes) (round_in e.m e.slot)) entries
IsSized e Cold = Unit {0}
