-- Facts that several crates cite.
use Rattle.std.proofs.Common.{None, Option, Some, refl, true, ◌≡◌}
use Rattle.std.specs.Prelude.{is_some}
use Rattle.agreed_state.specs.Agreed.{AgreedView}

pub none_unless : (o : Option AgreedView) → (is_some o ≡ true → ⊥) → o ≡ None
none_unless None h = refl
none_unless (Some a) h = absurd (h refl)
