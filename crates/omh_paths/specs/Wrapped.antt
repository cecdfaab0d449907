-- Values in transit: wrapping, and when two are the same.
use Rattle.std.specs.Prelude.{◌≡◌, ◌+◌, ◌-◌, Bool, true, false, ◌==◌}
use Rattle.omh_paths.specs.declared.wrapped.Wrapped.{Wrapped}
use Rattle.omh_paths.specs.declared.wrapped.Wrapped.TheVariants.{Plain, Fault}

-- an error is wrapped once more, and a plain value stays
abbrev pub wrapped : {V : Type 0} → Wrapped V → Wrapped V
wrapped (Plain v) = Plain v
wrapped (Fault k) = Fault (k + 1)

abbrev pub unwrapped : {V : Type 0} → Wrapped V → Wrapped V
unwrapped (Plain v) = Plain v
unwrapped (Fault k) = Fault (k - 1)

-- whether this is the error itself, Fault 0
abbrev pub is_error : {V : Type 0} → Wrapped V → Bool
is_error (Plain v) = false
is_error (Fault k) = k == 0

-- whether two values are the same, by a test on plain values
abbrev pub same : {V : Type 0} → (V → V → Bool) → Wrapped V → Wrapped V → Bool
same eq (Plain x) (Plain y) = eq x y
same eq (Fault j) (Fault k) = j == k
same eq _ _ = false

-- the test on plain values is true exactly between equals
pub record IsExact {V : Type 0} (eq : V → V → Bool) : Type 0 where
  pub finds : (x : V) → eq x x ≡ true
  pub tells : (x y : V) → eq x y ≡ true → x ≡ y
