use Rattle.std.proofs.Common.{List, sym, subst}
use Rattle.std.specs.Prelude.{All}
use Rattle.run_judged.specs.declared.illness.Illness.{Illness}
use Rattle.run_judged.specs.Growing.{IsOf}
use Rattle.run_judged.proofs.illnesses.Illnesses.add.Goals as goal

pub go_on_all-requires : goal.go_on_all-requires
go_on_all-requires g c =
    (assumption, subst (λ (xs : List Illness). All (IsOf c.args.findings.now.nodes c.args.findings.now.period) xs) (sym c.as_mut_slice.ensures.value) c.requires.each)
