-- Who is a member after a period, how often each node left, and where members, counts, streaks and these numbers stand together.
use Rattle.std.specs.Prelude.{ℕ, ◌+◌, Bool, ◌||◌, ◌&&◌, not, ◌==◌, nat_lt, nat_le, min, List, replicate, if◌then◌else◌, slice_index}
use Rattle.std.specs.List.{list_all}
use Rattle.node_grid.specs.NodeSet.{ids_below, has_id, ids_where}
use Rattle.penalty.specs.declared.Policy.{Policy}
use Rattle.penalty.specs.Step.{for_nodes, counts_after, streaks_after}

-- whether a member with this count stays one; `all` says whether all members would leave
abbrev pub remains : Policy → Bool → ℕ → Bool
remains policy all count = nat_lt count policy.exclude || all

-- whether another node joins, with this count and after it left so often
abbrev pub joins : Policy → ℕ → ℕ → Bool
joins policy count times = nat_le count policy.readmit && (policy.retire == 0 || nat_lt times policy.retire)

-- whether the count of each member is high enough to leave
abbrev pub all_would_leave : Policy → List ℕ → (ℕ → ℕ) → Bool
all_would_leave policy members count = list_all (λ j. nat_le policy.exclude (count j)) members

-- whether node q is a member after the step, by the members before it, the new counts, and how often each node left before it
abbrev pub stays : Policy → List ℕ → (ℕ → ℕ) → (ℕ → ℕ) → ℕ → Bool
stays policy members count times q =
    if has_id members q
    then remains policy (all_would_leave policy members count) (count q)
    else joins policy (count q) (times q)

abbrev pub members_after : Policy → ℕ → List ℕ → (ℕ → ℕ) → (ℕ → ℕ) → List ℕ
members_after policy nodes members count times = ids_where (stays policy members count times) nodes

-- whether node q is a member before the step and not after it
abbrev pub leaves : Policy → List ℕ → (ℕ → ℕ) → ℕ → Bool
leaves policy members count q = has_id members q && not (remains policy (all_would_leave policy members count) (count q))

-- how often a node left, which is counted where nodes retire, up to the greatest number of two bytes
abbrev pub times_after : Policy → Bool → ℕ → ℕ
times_after policy leaves_now times = if leaves_now && not (policy.retire == 0) then min 65535 (times + 1) else times

-- how often each node in use left, after the step
abbrev pub left_after : Policy → ℕ → List ℕ → (ℕ → ℕ) → List ℕ → List ℕ
left_after policy nodes members count left = for_nodes nodes (λ q. times_after policy (leaves policy members count q) (slice_index left q)) left

-- members, counts, streaks, and how often each node left the members
pub record Standing : Type 0 where
  pub members : List ℕ
  pub counts : List ℕ
  pub streaks : List ℕ
  pub left : List ℕ

-- all nodes are members, nothing counts against any of them, and none left; the lists have room for this many nodes
abbrev pub first_standing : ℕ → ℕ → Standing
first_standing room nodes = record { members = ids_below nodes; counts = replicate room 0; streaks = replicate room 0; left = replicate room 0 }

-- a period's step, where node j is charged with the kinds of the mask `charge j`
unfoldable pub standing_after : Policy → ℕ → (ℕ → ℕ) → Standing → Standing
standing_after policy nodes charge s =
    let counts = counts_after policy nodes charge s.counts s.streaks in
    record {
      members = members_after policy nodes s.members (λ j. slice_index counts j) (λ j. slice_index s.left j);
      counts = counts;
      streaks = streaks_after policy nodes charge s.streaks;
      left = left_after policy nodes s.members (λ j. slice_index counts j) s.left;
    }
