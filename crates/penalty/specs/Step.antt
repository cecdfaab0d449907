-- The step of a period: counts of penalties, and streaks of periods without a charge.
use Rattle.std.specs.Prelude.{ℕ, ◌+◌, ◌-◌, ◌<◌, ◌≤◌, ◌==◌, nat_lt, min, List, length, map, if◌then◌else◌, slice_index}
use Rattle.std.specs.List.{sum_by}
use Rattle.std.specs.Int.{bit_at}
use Rattle.node_grid.specs.NodeSet.{ids_below}
use Rattle.penalty.specs.declared.Policy.{Policy}

-- the sum of the weights of all kinds in a mask
abbrev pub penalty : List ℕ → ℕ → ℕ
penalty weights mask = sum_by (λ k. if bit_at mask k == 1 then slice_index weights k else 0) (ids_below 16)

-- the count of a node that is charged with the kinds of the mask, from its count and its streak
abbrev pub count_after : Policy → ℕ → ℕ → ℕ → ℕ
count_after policy mask count streak =
    if mask == 0
    then (if streak + 1 == policy.streak then count - policy.credit else count)
    else min policy.cap (count + penalty policy.weights mask)

abbrev pub streak_after : Policy → ℕ → ℕ → ℕ
streak_after policy mask streak = if mask == 0 then (if streak + 1 == policy.streak then 0 else streak + 1) else 0

-- new values for the nodes in use; the places behind them stay
abbrev pub for_nodes : ℕ → (ℕ → ℕ) → List ℕ → List ℕ
for_nodes nodes value xs = map (λ j. if nat_lt j nodes then value j else slice_index xs j) (ids_below (length xs))

-- the counts after a period, where node j is charged with the kinds of the mask `charge j`
abbrev pub counts_after : Policy → ℕ → (ℕ → ℕ) → List ℕ → List ℕ → List ℕ
counts_after policy nodes charge counts streaks =
    for_nodes nodes (λ j. count_after policy (charge j) (slice_index counts j) (slice_index streaks j)) counts

abbrev pub streaks_after : Policy → ℕ → (ℕ → ℕ) → List ℕ → List ℕ
streaks_after policy nodes charge streaks = for_nodes nodes (λ j. streak_after policy (charge j) (slice_index streaks j)) streaks

-- counts of at most the cap, and streaks that aren't full
pub record IsCounted (policy : Policy) (nodes : ℕ) (counts streaks : List ℕ) : Type 0 where
  pub capped : (j : ℕ) → j < nodes → slice_index counts j ≤ policy.cap
  pub unfilled : (j : ℕ) → j < nodes → slice_index streaks j < policy.streak
