-- The budget of a period as its record tells it, and what the protocol says of it.
use Rattle.std.proofs.Common.{ℕ, zero, suc, ◌≡◌, ◌<◌, ◌+◌, ◌*◌, Bool, true, false, refl, sym, subst, arith, inl, inr}
use Rattle.std.specs.Prelude.{nat_le, nat_lt}
use Rattle.std.proofs.lemmas.Bool.{cases_lt, and_parts, and_from, leb-true, ltb-true, le-leb, lt-ltb}
use Rattle.fault_classes.specs.declared.budget.Budget.{Budget}
use Rattle.fault_classes.specs.Budget.{IsBudget, Holds}
use Rattle.protocol.specs.Run.{System, run, classes}
use Rattle.protocol.specs.Safe.{Claim, members_at, KeepsBound as BudgetOf}
use Rattle.cluster_periods.specs.Record.{holds, budget_in, within_in, claimed_before}

-- where the counts hold, the members are within the budget, and the other way round
pub within_if : (sys : System) (p : ℕ) → within_in sys p ≡ true → BudgetOf (run sys) (classes sys) p
within_if sys p h =
    let b : Budget = budget_in sys p in
    let m : ℕ = sys.setting.config.m in
    let x = and_parts (nat_le b.a m) (nat_lt (2 * b.a + 2 * b.s + b.b + m) b.n) h in
    record { enough = ltb-true (2 * b.a + 2 * b.s + b.b + m) b.n x.1; few = leb-true b.a m x.0 }

pub if_within : (sys : System) (p : ℕ) → BudgetOf (run sys) (classes sys) p → within_in sys p ≡ true
if_within sys p h =
    let b : Budget = budget_in sys p in
    let m : ℕ = sys.setting.config.m in
    and_from (nat_le b.a m) (nat_lt (2 * b.a + 2 * b.s + b.b + m) b.n) (le-leb b.a m h.few) (lt-ltb (2 * b.a + 2 * b.s + b.b + m) b.n h.enough)

claimed_each : (sys : System) (p : ℕ) → claimed_before sys p ≡ true → (q : ℕ) → q < p → BudgetOf (run sys) (classes sys) q
unfolding claimed_before
claimed_each sys zero h q low = absurd (omega arith)
claimed_each sys (suc p) h q low =
    let x = and_parts (claimed_before sys p) (within_in sys p) h in
    elim (cases_lt q p) [
      | inl earlier ↦ claimed_each sys p x.0 q earlier
      | inr late ↦ let same : p ≡ q = omega arith in subst (λ (r : ℕ). BudgetOf (run sys) (classes sys) r) same (within_if sys p x.1)
    ]

each_claimed : (sys : System) (p : ℕ) → ((q : ℕ) → q < p → BudgetOf (run sys) (classes sys) q) → claimed_before sys p ≡ true
unfolding claimed_before
each_claimed sys zero h = refl
each_claimed sys (suc p) h = and_from (claimed_before sys p) (within_in sys p) (each_claimed sys p (λ q l. h q (omega arith))) (if_within sys p (h p (omega arith)))

-- a record claims its period exactly where the protocol does
pub claim_is : (sys : System) (p : ℕ) → claimed_before sys (suc p) ≡ true → Claim (run sys) (classes sys) p
claim_is sys p h q low = claimed_each sys (suc p) h q (omega arith)

pub is_claim : (sys : System) (p : ℕ) → Claim (run sys) (classes sys) p → claimed_before sys (suc p) ≡ true
is_claim sys p h = each_claimed sys (suc p) (λ q l. h q (omega arith))

-- ---- in code

-- a test that decides whether the counts hold
pub holds_is : (b : Budget) (m : ℕ) (result : Bool) → (result ≡ true → Holds b m) → (Holds b m → result ≡ true) → result ≡ holds b m
holds_is b m true tells decides = let h = tells refl in sym (and_from (nat_le b.a m) (nat_lt (2 * b.a + 2 * b.s + b.b + m) b.n) (le-leb b.a m h.few) (lt-ltb (2 * b.a + 2 * b.s + b.b + m) b.n h.enough))
holds_is b m false tells decides = go (holds b m) refl where
  go : (t : Bool) → holds b m ≡ t → false ≡ t
  go false e = refl
  go true e =
      let x = and_parts (nat_le b.a m) (nat_lt (2 * b.a + 2 * b.s + b.b + m) b.n) e in
      decides (record { enough = ltb-true (2 * b.a + 2 * b.s + b.b + m) b.n x.1; few = leb-true b.a m x.0 })

pub budget_is : (sys : System) (p : ℕ) (b : Budget) → IsBudget sys.plan p (members_at (run sys) (classes sys) p) b → b ≡ budget_in sys p
budget_is sys p b h = rw (← h.all, ← h.asymmetric, ← h.symmetric, ← h.silent) refl
