use Rattle.std.specs.Prelude.{◌≡◌, ℕ, ◌+◌, ◌-◌, ◌^◌, ◌≤◌, min, List, length, take, Result, OnOk, OnErr, MatchResult, Option}
use Rattle.std.specs.Io.KnownBytes.{Appends, Consumes}

-- a count that stands still at 2^64 - 1 rose
abbrev pub Rose : ℕ → ℕ → Type 0
Rose before now = min (before + 1) (2 ^ 64 - 1) ≤ now

-- a fault is answered exactly where the count of faults rises: an Ok leaves it, and it never falls
pub record HasCause {T E : Type 0} (before now : ℕ) (result : Result T E) : Type 0 where
  pub later : before ≤ now
  pub faultless : OnOk result (now ≡ before)
  pub failed : OnErr result (Rose before now)

-- the number of bytes given rises by those of an `Ok`, up to 2^64 - 1
abbrev pub CountsGiven : {E : Type 0} → ℕ → ℕ → Result ℕ E → Type 0
CountsGiven before now r = MatchResult r (λ k. now ≡ min (before + k) (2 ^ 64 - 1)) (λ _. now ≡ before)

-- from 1 to n
abbrev pub IsOneTo : ℕ → ℕ → Type 0
IsOneTo n k = (1 ≤ k) × (k ≤ n)

-- known bytes grow by a prefix of bs
abbrev pub AppendsPrefix : Option (List ℕ) → Option (List ℕ) → List ℕ → Type 0
AppendsPrefix old new bs = (k : ℕ) × (k ≤ length bs) × Appends old new (take k bs)

-- the number of bytes given rose by more than n, or stands at 2^64 - 1
abbrev pub GivenPast : ℕ → ℕ → ℕ → Type 0
GivenPast n before now = min (before + n + 1) (2 ^ 64 - 1) ≤ now

-- what is left is a suffix of what was left
abbrev pub TakesSome : Option (List ℕ) → Option (List ℕ) → Type 0
TakesSome old new = (bs : List ℕ) × Consumes old new bs

-- n bytes of what was left were taken
abbrev pub Takes : ℕ → Option (List ℕ) → Option (List ℕ) → Type 0
Takes n old new = (bs : List ℕ) × (length bs ≡ n) × Consumes old new bs

-- All of the bytes were written, and the count of faults stayed; or a prefix of them, and the count rose.
pub record Writes {T E : Type 0} (old new : Option (List ℕ)) (before now : ℕ) (bytes : List ℕ) (result : Result T E) : Type 0 where
  pub whole : OnOk result (Appends old new bytes)
  pub prefix : OnErr result (AppendsPrefix old new bytes)
  pub later : before ≤ now
  pub faultless : OnOk result (now ≡ before)
  pub failed : OnErr result (Rose before now)
