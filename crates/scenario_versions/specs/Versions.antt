-- What the versions of the formats have words for.
use Rattle.std.specs.Prelude.{◌≡◌, ℤ, pos, Bool, true, false, Option, None}
use Rattle.std.specs.Ordering.{int_eq}
use Rattle.std.specs.List.{AllByRecursion}
use Rattle.scenario.specs.Parts.{PolicyParts, ChannelParts, ScenarioParts}
use Rattle.scenario.specs.Parts.ChannelParts.{state, sensor, copy}

-- version 1 is the one that knows less
abbrev pub is_first : ℤ → Bool
is_first version = int_eq version (pos 1)

-- version 1 retires nobody
abbrev pub IsPolicyOf : ℤ → PolicyParts → Type 0
IsPolicyOf version p = is_first version ≡ true → p.retire ≡ pos 0

-- version 1 has no copies
abbrev pub IsChannelOf : ℤ → ChannelParts → Type 0
IsChannelOf version (state delta start step) = Unit {0}
IsChannelOf version (sensor delta task readings) = Unit {0}
IsChannelOf version (copy delta task lies readings) = is_first version ≡ false

-- the parts of a scenario are of their version: of version 1 they retire nobody, and have no copies and no clocks
pub record IsOfVersion (p : ScenarioParts) : Type 0 where
  pub policy : IsPolicyOf p.version p.policy
  pub channels : AllByRecursion (IsChannelOf p.version) p.channels
  pub clock : is_first p.version ≡ true → p.clock ≡ None
