-- What a node notes against the others: its row of this period, and what it carries over to the next.
use Rattle.std.specs.Prelude.{◌≡◌, ◌≢◌, ℕ, ◌^◌, ◌<◌, ◌≤◌, ◌==◌, ◌||◌, ◌&&◌, not, nat_lt, Bool, false, List, map, Option, None, Some, if◌then◌else◌, slice_index, slice_set, bit_or}
use Rattle.node_grid.specs.Capacity.{IsCapacity}
use Rattle.node_grid.specs.NodeSet.{ids_below, ids_where, mask_of, has_id}
use Rattle.error_reports.specs.Charge.{accuses}

-- the notes of node `me` of so many nodes, of so many kinds
pub record Notes : Type 0 where
  pub nodes : ℕ
  pub me : ℕ
  pub kinds : ℕ
  pub row : List ℕ
  pub carried : List ℕ

-- there is room for them
pub record AreNotes (capacity : ℕ) (n : Notes) : Type 0 where
  pub room : IsCapacity capacity
  pub nodes : n.nodes ≤ capacity
  pub kinds : n.kinds ≤ 16

-- the row that accuses node j of kind k besides
abbrev pub with_kind : List ℕ → ℕ → ℕ → List ℕ
with_kind row j k = slice_set row j (bit_or (slice_index row j) (2 ^ k))

-- the row of node `me` that notes these of the other nodes in use: a mask of so many kinds for each node
abbrev pub noted_row : ℕ → ℕ → ℕ → ℕ → (ℕ → ℕ → Bool) → List ℕ
noted_row capacity kinds nodes me notes = map (λ j. if nat_lt j nodes && not (j == me) then mask_of (ids_where (notes j) kinds) else 0) (ids_below capacity)

-- what a row says of the other nodes in use, and these besides
abbrev pub noted_besides : ℕ → ℕ → ℕ → ℕ → List ℕ → (ℕ → ℕ → Bool) → List ℕ
noted_besides capacity kinds nodes me row notes = noted_row capacity kinds nodes me (λ j k. accuses row j k || notes j k)

-- whether this is the kind, where there is one
abbrev pub is_kind : Option ℕ → ℕ → Bool
is_kind None k = false
is_kind (Some x) k = x == k

-- this kind of each node of a set
abbrev pub of_each : List ℕ → ℕ → ℕ → ℕ → Bool
of_each nodes kind j k = has_id nodes j && k == kind

-- notes with these besides: in this period's row, and in what is carried over
abbrev pub also_noted : ℕ → Notes → (ℕ → ℕ → Bool) → Notes
also_noted capacity n more = record n { row = noted_besides capacity n.kinds n.nodes n.me n.row more }

abbrev pub also_carried : ℕ → Notes → (ℕ → ℕ → Bool) → Notes
also_carried capacity n more = record n { carried = noted_besides capacity n.kinds n.nodes n.me n.carried more }

-- what is given of each other node in use is its kind of error, by a function
abbrev pub GivesKinds : (ℕ → Option ℕ → Type 0) → ℕ → ℕ → ℕ → (ℕ → Option ℕ) → Type 0
GivesKinds gives capacity nodes me kind_of = (j : ℕ) (kind : Option ℕ) → j < capacity → j < nodes → j ≢ me → gives j kind → kind ≡ kind_of j
