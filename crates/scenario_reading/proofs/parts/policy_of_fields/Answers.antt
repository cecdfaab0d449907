use Rattle.scenario.specs.Seen.{policy_view}
use Rattle.json_parts.proofs.Unread.{then_by, none_by, unread}
use Rattle.scenario_reading.proofs.parts.policy_of_fields.Goals as goal

pub returns-in_err-required : goal.returns-in_err-required
returns-in_err-required c =
    unread policy_view _ _ c.from_residual.result _ c.from_residual.ensures.1 c.in_err-required.ensures
    (λ n. none_by _ n)

pub returns-in_err-required-2 : goal.returns-in_err-required-2
returns-in_err-required-2 c =
    unread policy_view _ _ c.from_residual-in_err-required-2.result _ c.from_residual-in_err-required-2.ensures.1 c.in_err-required-2.ensures
    (λ n. then_by _ c.in_ok-required.ensures (none_by _ n))

pub returns-in_err-required-3 : goal.returns-in_err-required-3
returns-in_err-required-3 c =
    unread policy_view _ _ c.from_residual-in_err-required-3.result _ c.from_residual-in_err-required-3.ensures.1 c.in_err-required-3.ensures
    (λ n. then_by _ c.in_ok-required.ensures (then_by _ c.in_ok-required-2.ensures (none_by _ n)))

pub returns-in_err-required-4 : goal.returns-in_err-required-4
returns-in_err-required-4 c =
    unread policy_view _ _ c.from_residual-in_err-required-4.result _ c.from_residual-in_err-required-4.ensures.1 c.in_err-required-4.ensures
    (λ n. then_by _ c.in_ok-required.ensures (then_by _ c.in_ok-required-2.ensures (then_by _ c.in_ok-required-3.ensures (none_by _ n))))

pub returns-in_err-required-5 : goal.returns-in_err-required-5
returns-in_err-required-5 c =
    unread policy_view _ _ c.from_residual-in_err-required-5.result _ c.from_residual-in_err-required-5.ensures.1 c.in_err-required-5.ensures
    (λ n. then_by _ c.in_ok-required.ensures (then_by _ c.in_ok-required-2.ensures (then_by _ c.in_ok-required-3.ensures
    (then_by _ c.in_ok-required-4.ensures (none_by _ n)))))

pub returns-in_err-required-6 : goal.returns-in_err-required-6
returns-in_err-required-6 c =
    unread policy_view _ _ c.from_residual-in_err-required-6.result _ c.from_residual-in_err-required-6.ensures.1 c.in_err-required-6.ensures
    (λ n. then_by _ c.in_ok-required.ensures (then_by _ c.in_ok-required-2.ensures (then_by _ c.in_ok-required-3.ensures
    (then_by _ c.in_ok-required-4.ensures (then_by _ c.in_ok-required-5.ensures (none_by _ n))))))

pub returns-in_err-number_or : goal.returns-in_err-number_or
returns-in_err-number_or c =
    unread policy_view _ _ c.from_residual-in_err-number_or.result _ c.from_residual-in_err-number_or.ensures.1 c.in_err-number_or.ensures
    (λ n. then_by _ c.in_ok-required.ensures (then_by _ c.in_ok-required-2.ensures (then_by _ c.in_ok-required-3.ensures
    (then_by _ c.in_ok-required-4.ensures (then_by _ c.in_ok-required-5.ensures (then_by _ c.in_ok-required-6.ensures (none_by _ n)))))))
