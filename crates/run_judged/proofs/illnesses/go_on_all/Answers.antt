use Rattle.std.proofs.Common.{ℕ, ◌≡◌, ◌<◌, List, ◌++◌, length, map, take, drop, get_or, arith}
use Rattle.std.specs.Prelude.{All}
use Rattle.run_judged.specs.declared.illness.Illness.{Illness}
use Rattle.run_judged.specs.declared.found.Findings.{Findings}
use Rattle.run_judged.specs.Found.{sign_by}
use Rattle.run_judged.specs.Growing.{IsOf, grown}
use Rattle.run_judged.proofs.Loops.{goes_on, held}
use Rattle.run_judged.proofs.illnesses.go_on_all.Goals as goal

of_held : {capacity : ℕ} (f : Findings capacity) (xs ys : List Illness) (i : ℕ) (d : Illness) → i < length xs → length ys ≡ length xs
    → ys ≡ map (λ x. grown f.period (sign_by f x.node) x) (take i xs) ++ drop i xs → All (IsOf f.nodes f.period) xs → (get_or ys i d).node < capacity
of_held f xs ys i d low long e all =
    let is : IsOf f.nodes f.period (get_or ys i d) = held (IsOf f.nodes f.period) _ xs ys i d low long e all in
    omega (arith, is.node, f.few)

pub loop-illness-preserved : goal.loop-illness-preserved
loop-illness-preserved g c =
    goes_on c.args.findings.now c.args.illnesses.now c.loop-illness.illnesses c.loop-illness.illness-index _ _ _ c.loop-illness-test.true c.loop-illness.auto.illnesses c.loop-illness.invariant c.sign-sign.ensures c.go_on.ensures

pub sign-sign-requires : goal.sign-sign-requires
sign-sign-requires g c = (assumption, of_held c.args.findings.now c.args.illnesses.now c.loop-illness.illnesses c.loop-illness.illness-index _ c.loop-illness-test.true c.loop-illness.auto.illnesses c.loop-illness.invariant c.requires)
