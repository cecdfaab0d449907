-- What the record of a period shows of each node.
use Rattle.std.specs.Prelude.{ℕ, Bool, false, not, ◌&&◌, ◌==◌, List, [], ◌∷◌, Option, None, Some, slice_get, slice_index_or}
use Rattle.node_grid.specs.declared.class.Class.TheVariants.{N}
use Rattle.node_grid.specs.NodeSet.{has_id}
use Rattle.error_reports.specs.Charge.{charged_mask}
use Rattle.fault_classes.specs.Plan.{Plan, is_clean}
use Rattle.agreed_state.specs.Agreed.{AgreedView}
use Rattle.node_steps.specs.Outcome.{Outcome}
use Rattle.cluster_periods.specs.Record.{PeriodView}
use Rattle.run_judged.specs.declared.illness.Sign.{Sign}

-- what the reference node made of the period
abbrev pub outcome_among : List Outcome → Option ℕ → Option Outcome
outcome_among records None = None
outcome_among records (Some r) = slice_get records r

abbrev pub reference_outcome : PeriodView → Option Outcome
reference_outcome r = outcome_among r.records r.reference

-- whether the rows that it settled charge node j with something
abbrev pub is_charged_by : Option Outcome → ℕ → Bool
is_charged_by None j = false
is_charged_by (Some o) j = not (charged_mask o.rows o.members j == 0)

-- the members of its state after the period
abbrev pub members_of : Option AgreedView → Option (List ℕ)
members_of None = None
members_of (Some a) = Some a.standing.members

abbrev pub members_by : Option Outcome → Option (List ℕ)
members_by None = None
members_by (Some o) = members_of o.agreed

abbrev pub members_after : PeriodView → Option (List ℕ)
members_after r = members_by (reference_outcome r)

-- whether node j is one of these and not of those, where there are those after the period
abbrev pub is_left : List ℕ → Option (List ℕ) → ℕ → Bool
is_left before None j = false
is_left before (Some after) j = has_id before j && not (has_id after j)

-- and the other way round, where there are these before it
abbrev pub is_joined : List ℕ → Option (List ℕ) → ℕ → Bool
is_joined [] after j = false
is_joined (x ∷ xs) None j = false
is_joined (x ∷ xs) (Some after) j = has_id after j && not (has_id (x ∷ xs) j)

abbrev pub sign_in : Plan → PeriodView → ℕ → Sign
sign_in plan r j = record {
  class = slice_index_or r.classes j N;
  touched = not (is_clean plan r.period j);
  member = has_id r.members j;
  charged = is_charged_by (reference_outcome r) j;
  left = is_left r.members (members_after r) j;
  joined = is_joined r.members (members_after r) j;
}
