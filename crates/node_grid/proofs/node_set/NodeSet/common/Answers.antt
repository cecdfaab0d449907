use Rattle.std.proofs.Common.{ap₂, ◌∙◌, ℕ, ◌≤◌, ◌<◌, arith}
use Rattle.node_grid.specs.NodeSet.{common_of}
use Rattle.node_grid.specs.NodeSetLaws.{bits_set-common}
use Rattle.std.proofs.lemmas.Nat.{and_le_l}
use Rattle.node_grid.proofs.node_set.NodeSet.common.Goals as goal

still_fits : (a b n : ℕ) → a ≤ b → b < n → a < n
still_fits a b n le fits = omega arith

pub returns : goal.returns
returns g c =
    bits_set-common g.row.N c.self.inside.mask c.other.inside.mask
    ∙ ap₂ (λ s t. common_of s t) c.self.view_is c.other.view_is

pub invariant_of-result : goal.invariant_of-result
invariant_of-result g c = (still_fits _ _ _ (and_le_l c.self.inside.mask _) c.self.invariant.0, c.self.invariant.1)
