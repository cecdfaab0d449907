use Rattle.std.proofs.Common.{◌∙◌, lit<, arith}
use Rattle.std.proofs.lemmas.List.{length-map}
use Rattle.std.proofs.lemmas.List.Elements.{All-map}
use Rattle.clock_skew.specs.Clock.{IsLie, lie_of}
use Rattle.worked_alike.proofs.Standing.{standing}
use Rattle.worked_alike.proofs.lies.plan_of.Goals as goal

pub new-plan-requires : goal.new-plan-requires
new-plan-requires c =
    let told = c.args.told.now in
    let few = length-map told.lies.items (lie_of {n = 16}) in (
      lit< tt,
      (
        lit< tt,
        rw (c.in_ok-drifts.ensures.items, c.in_ok-errors.ensures.items, c.in_ok-lies.ensures.items ∙ c.as_slice.ensures.value)
            (standing _ (omega (arith, few, told.few)) (All-map (IsLie 12) (lie_of {n = 16}) told.lies.items told.are)),
      ),
    )
