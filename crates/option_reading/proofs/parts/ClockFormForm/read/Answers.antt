use Rattle.json_parts.specs.Meaning.{view}
use Rattle.option_reading.specs.Keys.{clock_names, clock_fields}
use Rattle.json_parts.proofs.Unread.{then_by, none_by, keyed, no_keys, unread}
use Rattle.option_reading.proofs.parts.ClockFormForm.read.Goals as goal

pub returns-in_err-required : goal.returns-in_err-required
returns-in_err-required c =
    unread (λ p. p) _ _ c.from_residual.result _ c.from_residual.ensures.1 c.in_err-required.ensures
    (λ n. keyed clock_names clock_fields (view c.args.value.now) c.has_keys.ensures c.if-not-has_keys.false (none_by _ n))

pub returns-in_err-required-2 : goal.returns-in_err-required-2
returns-in_err-required-2 c =
    unread (λ p. p) _ _ c.from_residual-in_err-required-2.result _ c.from_residual-in_err-required-2.ensures.1 c.in_err-required-2.ensures
    (λ n. keyed clock_names clock_fields (view c.args.value.now) c.has_keys.ensures c.if-not-has_keys.false (then_by _ c.in_ok-required.ensures (none_by _ n)))

pub returns-in_err-required-3 : goal.returns-in_err-required-3
returns-in_err-required-3 c =
    unread (λ p. p) _ _ c.from_residual-in_err-required-3.result _ c.from_residual-in_err-required-3.ensures.1 c.in_err-required-3.ensures
    (λ n. keyed clock_names clock_fields (view c.args.value.now) c.has_keys.ensures c.if-not-has_keys.false (then_by _ c.in_ok-required.ensures (then_by _ c.in_ok-required-2.ensures (none_by _ n))))

pub returns-in_err-required-4 : goal.returns-in_err-required-4
returns-in_err-required-4 c =
    unread (λ p. p) _ _ c.from_residual-in_err-required-4.result _ c.from_residual-in_err-required-4.ensures.1 c.in_err-required-4.ensures
    (λ n. keyed clock_names clock_fields (view c.args.value.now) c.has_keys.ensures c.if-not-has_keys.false (then_by _ c.in_ok-required.ensures (then_by _ c.in_ok-required-2.ensures (then_by _ c.in_ok-required-3.ensures (none_by _ n)))))

pub returns-then-not-has_keys : goal.returns-then-not-has_keys
returns-then-not-has_keys c = no_keys clock_names clock_fields (view c.args.value.now) c.has_keys.ensures c.if-not-has_keys.true
