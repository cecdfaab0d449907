use Rattle.std.proofs.Common.{◌≡◌, arith}
use Rattle.std.proofs.lemmas.Bool.{eqb-true}
use Rattle.run_print.proofs.Zeros.{all_zero}
use Rattle.run_print.proofs.pieces.are_zero.Goals as goal

pub returns : goal.returns
returns c e =
    let none : c.loop-n.most ≡ 0 = eqb-true c.loop-n.most 0 e in
    all_zero c.args.numbers.now (λ k less. omega (arith, c.loop-n.invariant k (omega (arith, less, c.loop-n-test.false)), none))
