-- By how much a period keeps its budget.
use Rattle.std.specs.Prelude.{ℕ, ◌+◌, ◌*◌, nat_le, ℤ, pos, ◌-ℤ◌, if◌then◌else◌}
use Rattle.std.specs.Int.{int_min}
use Rattle.fault_classes.specs.declared.budget.Budget.{Budget}

-- n - (2a + 2s + b + m), and at most 0 where a > m: at least 1 exactly where the budget is kept
abbrev pub margin : Budget → ℕ → ℤ
margin b m =
    let left = pos b.n -ℤ pos (2 * b.a + 2 * b.s + b.b + m) in
    if nat_le b.a m then left else int_min left (pos 0)
