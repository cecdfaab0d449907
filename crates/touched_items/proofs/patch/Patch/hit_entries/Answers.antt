use Rattle.std.proofs.Common.{ℕ, ◌<◌, ◌-◌, length, ap, inl, inr, arith}
use Rattle.touched_items.proofs.Patches.{clear_before, clear_behind}
use Rattle.touched_items.proofs.patch.Patch.hit_entries.Goals as goal

pub returns-then-begin-end-clause-clear : goal.returns-then-begin-end-clause-clear
returns-then-begin-end-clause-clear c = λ k low away.
    let at : ℕ = c.args.self.now.at in
    let count : ℕ = length c.args.self.now.bytes.now in
    let some : 0 < c.saturating_sub-end.result = omega (arith, c.if-begin-end.true) in
    elim away [
      | inl before ↦ clear_before at count (c.max-begin.result - 14) c.args.width k (ap (λ (n : ℕ). n - 14) c.max-begin.ensures) c.requires.width before
      | inr behind ↦ clear_behind at count c.saturating_sub-end.result c.args.width k c.saturating_sub-end.ensures some c.requires.width (omega (arith, c.min.ensures, behind, low))
    ]
