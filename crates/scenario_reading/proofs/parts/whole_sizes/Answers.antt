use Rattle.scenario_reading.specs.Pieces.{size_fields}
use Rattle.scenario_reading.specs.Sizes.{sizes_view}
use Rattle.json_parts.proofs.Unread.{then_by, none_by, unread}
use Rattle.scenario_reading.proofs.parts.whole_sizes.Goals as goal

pub returns-in_err-required : goal.returns-in_err-required
unfolding size_fields
returns-in_err-required c =
    unread sizes_view _ _ c.from_residual.result _ c.from_residual.ensures.1 c.in_err-required.ensures
    (λ n. none_by _ n)

pub returns-in_err-required-2 : goal.returns-in_err-required-2
unfolding size_fields
returns-in_err-required-2 c =
    unread sizes_view _ _ c.from_residual-in_err-required-2.result _ c.from_residual-in_err-required-2.ensures.1 c.in_err-required-2.ensures
    (λ n. then_by _ c.in_ok-required.ensures (none_by _ n))

pub returns-in_err-required-3 : goal.returns-in_err-required-3
unfolding size_fields
returns-in_err-required-3 c =
    unread sizes_view _ _ c.from_residual-in_err-required-3.result _ c.from_residual-in_err-required-3.ensures.1 c.in_err-required-3.ensures
    (λ n. then_by _ c.in_ok-required.ensures (then_by _ c.in_ok-required-2.ensures (none_by _ n)))

pub returns-in_err-optional : goal.returns-in_err-optional
unfolding size_fields
returns-in_err-optional c =
    unread sizes_view _ _ c.from_residual-in_err-optional.result _ c.from_residual-in_err-optional.ensures.1 c.in_err-optional.ensures
    (λ n. then_by _ c.in_ok-required.ensures (then_by _ c.in_ok-required-2.ensures (then_by _ c.in_ok-required-3.ensures (none_by _ n))))

pub returns-in_err-number_or : goal.returns-in_err-number_or
unfolding size_fields
returns-in_err-number_or c =
    unread sizes_view _ _ c.from_residual-in_err-number_or.result _ c.from_residual-in_err-number_or.ensures.1 c.in_err-number_or.ensures
    (λ n. then_by _ c.in_ok-required.ensures (then_by _ c.in_ok-required-2.ensures (then_by _ c.in_ok-required-3.ensures
    (then_by _ c.in_ok-optional.ensures (none_by _ n)))))
