-- The policies that a cluster may run under.
use Rattle.std.specs.Prelude.{◌<◌, ◌≤◌, All}
use Rattle.penalty.specs.declared.Policy.{Policy}

pub record IsPolicy (policy : Policy) : Type 0 where
  pub weights : All (λ w. w ≤ 1000) policy.weights
  pub some_cap : 1 ≤ policy.cap
  pub cap : policy.cap ≤ 60000
  pub some_exclude : 1 ≤ policy.exclude
  pub exclude : policy.exclude ≤ policy.cap
  pub readmit : policy.readmit < policy.exclude
  pub credit : policy.credit ≤ 60000
  pub some_streak : 1 ≤ policy.streak
  pub streak : policy.streak ≤ 60000
  pub retire : policy.retire ≤ 60000
