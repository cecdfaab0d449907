use Rattle.json_parts.proofs.Unread.{then_by, none_by, unread}
use Rattle.option_reading.proofs.parts.fields.Goals as goal

pub returns-in_err-required : goal.returns-in_err-required
returns-in_err-required c =
    unread (λ p. p) _ _ c.from_residual.result _ c.from_residual.ensures.1 c.in_err-required.ensures
    (λ n. none_by _ n)

pub returns-in_err-required-2 : goal.returns-in_err-required-2
returns-in_err-required-2 c =
    unread (λ p. p) _ _ c.from_residual-in_err-required-2.result _ c.from_residual-in_err-required-2.ensures.1 c.in_err-required-2.ensures
    (λ n. then_by _ c.in_ok-required.ensures (none_by _ n))

pub returns-in_err-required-3 : goal.returns-in_err-required-3
returns-in_err-required-3 c =
    unread (λ p. p) _ _ c.from_residual-in_err-required-3.result _ c.from_residual-in_err-required-3.ensures.1 c.in_err-required-3.ensures
    (λ n. then_by _ c.in_ok-required.ensures (then_by _ c.in_ok-required-2.ensures (none_by _ n)))

pub returns-in_err-required-4 : goal.returns-in_err-required-4
returns-in_err-required-4 c =
    unread (λ p. p) _ _ c.from_residual-in_err-required-4.result _ c.from_residual-in_err-required-4.ensures.1 c.in_err-required-4.ensures
    (λ n. then_by _ c.in_ok-required.ensures (then_by _ c.in_ok-required-2.ensures (then_by _ c.in_ok-required-3.ensures (none_by _ n))))

pub returns-in_err-required-5 : goal.returns-in_err-required-5
returns-in_err-required-5 c =
    unread (λ p. p) _ _ c.from_residual-in_err-required-5.result _ c.from_residual-in_err-required-5.ensures.1 c.in_err-required-5.ensures
    (λ n. then_by _ c.in_ok-required.ensures (then_by _ c.in_ok-required-2.ensures (then_by _ c.in_ok-required-3.ensures (then_by _ c.in_ok-required-4.ensures (none_by _ n)))))

pub returns-in_err-required-6 : goal.returns-in_err-required-6
returns-in_err-required-6 c =
    unread (λ p. p) _ _ c.from_residual-in_err-required-6.result _ c.from_residual-in_err-required-6.ensures.1 c.in_err-required-6.ensures
    (λ n. then_by _ c.in_ok-required.ensures (then_by _ c.in_ok-required-2.ensures (then_by _ c.in_ok-required-3.ensures (then_by _ c.in_ok-required-4.ensures (then_by _ c.in_ok-required-5.ensures (none_by _ n))))))

pub returns-in_err-required-7 : goal.returns-in_err-required-7
returns-in_err-required-7 c =
    unread (λ p. p) _ _ c.from_residual-in_err-required-7.result _ c.from_residual-in_err-required-7.ensures.1 c.in_err-required-7.ensures
    (λ n. then_by _ c.in_ok-required.ensures (then_by _ c.in_ok-required-2.ensures (then_by _ c.in_ok-required-3.ensures (then_by _ c.in_ok-required-4.ensures (then_by _ c.in_ok-required-5.ensures (then_by _ c.in_ok-required-6.ensures (none_by _ n)))))))

pub returns-in_err-required-8 : goal.returns-in_err-required-8
returns-in_err-required-8 c =
    unread (λ p. p) _ _ c.from_residual-in_err-required-8.result _ c.from_residual-in_err-required-8.ensures.1 c.in_err-required-8.ensures
    (λ n. then_by _ c.in_ok-required.ensures (then_by _ c.in_ok-required-2.ensures (then_by _ c.in_ok-required-3.ensures (then_by _ c.in_ok-required-4.ensures (then_by _ c.in_ok-required-5.ensures (then_by _ c.in_ok-required-6.ensures (then_by _ c.in_ok-required-7.ensures (none_by _ n))))))))

pub returns-in_err-copies : goal.returns-in_err-copies
returns-in_err-copies c =
    unread (λ p. p) _ _ c.from_residual-in_err-copies.result _ c.from_residual-in_err-copies.ensures.1 c.in_err-copies.ensures
    (λ n. then_by _ c.in_ok-required.ensures (then_by _ c.in_ok-required-2.ensures (then_by _ c.in_ok-required-3.ensures (then_by _ c.in_ok-required-4.ensures (then_by _ c.in_ok-required-5.ensures (then_by _ c.in_ok-required-6.ensures (then_by _ c.in_ok-required-7.ensures (then_by _ c.in_ok-required-8.ensures (none_by _ n)))))))))

pub returns-in_err-optional : goal.returns-in_err-optional
returns-in_err-optional c =
    unread (λ p. p) _ _ c.from_residual-in_err-optional.result _ c.from_residual-in_err-optional.ensures.1 c.in_err-optional.ensures
    (λ n. then_by _ c.in_ok-required.ensures (then_by _ c.in_ok-required-2.ensures (then_by _ c.in_ok-required-3.ensures (then_by _ c.in_ok-required-4.ensures (then_by _ c.in_ok-required-5.ensures (then_by _ c.in_ok-required-6.ensures (then_by _ c.in_ok-required-7.ensures (then_by _ c.in_ok-required-8.ensures (then_by _ c.in_ok-copies.ensures (none_by _ n))))))))))
