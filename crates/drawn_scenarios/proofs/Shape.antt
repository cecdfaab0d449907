-- What the bouts of a scenario are, whatever was drawn.
use Rattle.std.proofs.Common.{◌≡◌, ◌≢◌, ℕ, ◌+◌, ◌-◌, ◌^◌, ◌<◌, ◌≤◌, true, List, [], ◌∷◌, length, ◌⊎◌, Option, None, Some, ℤ, pos}
use Rattle.std.specs.Prelude.{neg_ℤ}
use Rattle.std.specs.List.{AllByRecursion}
use Rattle.scenario.specs.Numbers.{is_between}
use Rattle.drawn_scenarios.specs.declared.choices.Choices.{Choices}
use Rattle.drawn_scenarios.specs.declared.bout.Fault.{Fault}
use Rattle.drawn_scenarios.specs.declared.bout.Fault.TheVariants.{Silent, Late, Twice, Value, Accusation}
use Rattle.drawn_scenarios.specs.declared.bout.Conduct.{Conduct}
use Rattle.drawn_scenarios.specs.declared.bout.Conduct.TheVariants.{Alike, Apart}
use Rattle.drawn_scenarios.specs.declared.bout.Bout.{Bout}

abbrev pub IsFault : Choices → Fault → Type 0
IsFault c Silent = Unit {0}
IsFault c Late = Unit {0}
IsFault c Twice = Unit {0}
IsFault c (Value channel v) = (channel < 2) × (v < 4001)
IsFault c (Accusation accused kinds) = (accused < c.nodes) × (kinds < 256)

abbrev pub IsMaybeFault : Choices → Option Fault → Type 0
IsMaybeFault c None = Unit {0}
IsMaybeFault c (Some f) = IsFault c f

-- what the rest are told is nothing wrong, or another value of the same channel
abbrev pub Differs : Fault → Option Fault → Type 0
Differs f None = Unit {0}
Differs (Value channel v) (Some (Value channel' w)) = (channel ≡ channel') × (v ≢ w)
Differs Silent (Some g) = ⊥
Differs Late (Some g) = ⊥
Differs Twice (Some g) = ⊥
Differs (Accusation accused kinds) (Some g) = ⊥
Differs (Value channel v) (Some Silent) = ⊥
Differs (Value channel v) (Some Late) = ⊥
Differs (Value channel v) (Some Twice) = ⊥
Differs (Value channel v) (Some (Accusation accused kinds)) = ⊥

abbrev pub IsLie : ℤ → Type 0
IsLie by = is_between (neg_ℤ (pos (2 ^ 40))) (pos (2 ^ 40)) by ≡ true

abbrev pub IsMaybeLie : Option ℤ → Type 0
IsMaybeLie None = Unit {0}
IsMaybeLie (Some by) = IsLie by

abbrev pub AreMaybeLies : Option (ℤ × ℤ) → Type 0
AreMaybeLies None = Unit {0}
AreMaybeLies (Some bys) = IsLie bys.0 × IsLie bys.1

-- what some are told and what the rest are
pub record IsSplit (c : Choices) (told : Fault × Option Fault) : Type 0 where
  pub fault : IsFault c told.0
  pub rest : IsMaybeFault c told.1
  pub differs : Differs told.0 told.1

-- some of the other nodes, but not none and not all
pub record AreSome (c : Choices) (some : ℕ) : Type 0 where
  pub some_are : 0 < some
  pub not_all : some + 1 < 2 ^ (c.nodes - 1)

abbrev pub IsConduct : Choices → Conduct → Type 0
IsConduct c (Alike fault lie) = IsFault c fault × IsMaybeLie lie
IsConduct c (Apart some fault rest lies) = AreSome c some × IsSplit c (fault, rest) × AreMaybeLies lies

pub record IsBout (c : Choices) (b : Bout) : Type 0 where
  pub node : b.node < c.nodes
  pub first : 1 ≤ b.first
  pub some : b.first ≤ b.last
  pub last : b.last < c.periods
  pub conduct : IsConduct c b.conduct

-- of a later node, or of the same node in later periods
abbrev pub Comes : Bout → Bout → Type 0
Comes b x = (b.node < x.node) ⊎ ((b.node ≡ x.node) × (b.last < x.first))

-- each comes after all that stand before it
abbrev pub Ordered : List Bout → Type 0
Ordered [] = Unit {0}
Ordered (b ∷ bs) = AllByRecursion (Comes b) bs × Ordered bs

pub record AreBouts (c : Choices) (bs : List Bout) : Type 0 where
  pub each : AllByRecursion (IsBout c) bs
  pub ordered : Ordered bs
  pub few : length bs ≤ 2048
