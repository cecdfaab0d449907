use Rattle.std.proofs.Common.{◌≡◌, ℕ, true, false, cond, get_or, sym, ◌∙◌, arith, eq-eqb, refl}
use Rattle.std.specs.Prelude.{◌==◌}
use Rattle.std.specs.Int.{bit_at}
use Rattle.std.proofs.lemmas.Nat.Bits.{shr_and_one}
use Rattle.penalty.proofs.Sums.{sum_by-ids_more}
use Rattle.penalty.proofs.counts.weight_of.Goals as goal
use Rattle.penalty.proofs.counts.weight_of.Goals.{then-charged-kind-eq1, else-charged-kind-eq1}

pub loop-kind-preserved : goal.loop-kind-preserved
loop-kind-preserved c =
    let mask = c.args.charged in
    let i = c.loop-kind.kind in
    let f : ℕ → ℕ = λ k. cond (bit_at mask k == 1) (get_or c.args.policy.now.weights k 0) 0 in
    let more = sum_by-ids_more f i in
    elim c.if-charged-kind-eq1.branch [
      | then-charged-kind-eq1 w ↦
          let set : (bit_at mask i == 1) ≡ true = eq-eqb (bit_at mask i) 1 (sym (shr_and_one mask i) ∙ w.if-charged-kind-eq1.true) in
          let worth : f i ≡ get_or c.args.policy.now.weights i 0 = rw set refl in
          record { so_far = omega (arith, w.sum-is, w.from-sum.ensures, c.loop-kind.invariant.so_far, more, worth); bound = grind arith }
      | else-charged-kind-eq1 w ↦
          let clear : (bit_at mask i == 1) ≡ false = let e = shr_and_one mask i in let n = w.if-charged-kind-eq1.false in grind arith in
          let worth : f i ≡ 0 = rw clear refl in
          record { so_far = omega (arith, w.sum-is, c.loop-kind.invariant.so_far, more, worth); bound = grind arith }
    ]
