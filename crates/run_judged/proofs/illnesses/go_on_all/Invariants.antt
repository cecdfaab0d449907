use Rattle.std.proofs.Common.{◌≡◌, ◌++◌, map, take, drop}
use Rattle.run_judged.specs.Found.{sign_by}
use Rattle.run_judged.specs.Growing.{grown}
use Rattle.run_judged.proofs.illnesses.go_on_all.Given as goal

abbrev pub invariant-loop-illness : goal.invariant-loop-illness
invariant-loop-illness g l =
    l.illnesses ≡ map (λ x. grown l.findings.period (sign_by l.findings x.node) x) (take l.illness-index l.initial.illnesses) ++ drop l.illness-index l.initial.illnesses
