use Rattle.std.proofs.Common.{ap, ◌∙◌, ℕ, ◌≤◌, ◌<◌, arith}
use Rattle.node_grid.specs.NodeSet.{without_id}
use Rattle.node_grid.specs.NodeSetLaws.{bits_set-cut}
use Rattle.std.proofs.lemmas.Nat.{and_le_l}
use Rattle.node_grid.proofs.node_set.NodeSet.cut.Goals as goal

still_fits : (a b n : ℕ) → a ≤ b → b < n → a < n
still_fits a b n le fits = omega arith

pub returns : goal.returns
returns g c = bits_set-cut g.row.N c.self.inside.mask c.args.id c.self.invariant.1 c.requires ∙ ap (λ s. without_id s c.args.id) c.self.view_is

pub overflow_shl-self : goal.overflow_shl-self
overflow_shl-self g c = omega (arith, c.requires, c.self.invariant.1)

pub invariant_of-self : goal.invariant_of-self
invariant_of-self g c = (still_fits _ _ _ (and_le_l c.self.inside.mask _) c.self.invariant.0, c.self.invariant.1)
