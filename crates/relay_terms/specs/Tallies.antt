-- A majority in the making.
use Rattle.std.specs.Prelude.{ℕ, ◌≡◌, ◌≤◌, ◌<◌, ◌+◌, ◌*◌, Bool, true, false, not, List}
use Rattle.node_grid.specs.Count.{count}
use Rattle.omh_paths.specs.declared.wrapped.Wrapped.{Wrapped}
use Rattle.omh_paths.specs.Wrapped.{same, is_error}
use Rattle.relay_terms.specs.declared.tally.Tally.{Tally}
use Rattle.relay_terms.specs.declared.count.Count.{Count}
use Rattle.relay_terms.specs.Terms.{said}

-- how many aren't the error itself
abbrev pub votes : {V : Type 0} → List (Wrapped V) → ℕ
votes seen = count (λ x. not (is_error x)) seen

-- all good terms so far are c, and there are n
pub record AreOne {V : Type 0} (eq : V → V → Bool) (seen : List (Wrapped V)) (c : Wrapped V) (n : ℕ) : Type 0 where
  pub voted : votes seen ≡ n
  pub counted : is_error c ≡ false → count (same eq c) seen ≡ n
  pub some : is_error c ≡ false → 0 < n

-- no term but c, which leads by n, can stand at more than half of the votes so far
pub record Leads {V : Type 0} (eq : V → V → Bool) (seen : List (Wrapped V)) (c : Wrapped V) (n : ℕ) : Type 0 where
  pub none : is_error c ≡ true → votes seen ≡ 0
  pub own : is_error c ≡ false → 2 * count (same eq c) seen ≤ votes seen + n
  pub others : (y : Wrapped V) → is_error y ≡ false → same eq y c ≡ false → 2 * count (same eq y) seen + n ≤ votes seen

-- the tally of what was seen
pub record IsTally {V : Type 0} (eq : V → V → Bool) (seen : List (Wrapped V)) (t : Tally V) : Type 0 where
  pub leads : Leads eq seen (said t.candidate) t.lead
  pub calm : t.clash ≡ false → AreOne eq seen (said t.candidate) t.lead

-- the count of what was seen
pub record IsCount {V : Type 0} (eq : V → V → Bool) (seen : List (Wrapped V)) (t : Count V) : Type 0 where
  pub voted : t.votes ≡ votes seen
  pub supported : t.support ≡ count (same eq (said t.value)) seen
