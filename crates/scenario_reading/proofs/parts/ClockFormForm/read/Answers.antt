use Rattle.json_parts.specs.Meaning.{view}
use Rattle.scenario_reading.specs.Keys.{clock_names, clock_fields}
use Rattle.scenario.specs.Seen.{clock_view}
use Rattle.json_parts.proofs.Unread.{then_by, none_by, keyed, unread}
use Rattle.scenario_reading.proofs.parts.ClockFormForm.read.Goals as goal

pub returns-in_err-required : goal.returns-in_err-required
returns-in_err-required c =
    unread clock_view _ _ c.from_residual.result _ c.from_residual.ensures.1 c.in_err-required.ensures
    (λ n. keyed clock_names clock_fields (view c.args.value.now) c.has_keys.ensures c.if-not-has_keys.false (none_by _ n))

pub returns-in_err-required-2 : goal.returns-in_err-required-2
returns-in_err-required-2 c =
    unread clock_view _ _ c.from_residual-in_err-required-2.result _ c.from_residual-in_err-required-2.ensures.1 c.in_err-required-2.ensures
    (λ n. keyed clock_names clock_fields (view c.args.value.now) c.has_keys.ensures c.if-not-has_keys.false (then_by _ c.in_ok-required.ensures (none_by _ n)))

pub returns-in_err-required-3 : goal.returns-in_err-required-3
returns-in_err-required-3 c =
    unread clock_view _ _ c.from_residual-in_err-required-3.result _ c.from_residual-in_err-required-3.ensures.1 c.in_err-required-3.ensures
    (λ n. keyed clock_names clock_fields (view c.args.value.now) c.has_keys.ensures c.if-not-has_keys.false
    (then_by _ c.in_ok-required.ensures (then_by _ c.in_ok-required-2.ensures (none_by _ n))))

pub returns-in_err-required_list : goal.returns-in_err-required_list
returns-in_err-required_list c =
    unread clock_view _ _ c.from_residual-in_err-required_list.result _ c.from_residual-in_err-required_list.ensures.1 c.in_err-required_list.ensures
    (λ n. keyed clock_names clock_fields (view c.args.value.now) c.has_keys.ensures c.if-not-has_keys.false
    (then_by _ c.in_ok-required.ensures (then_by _ c.in_ok-required-2.ensures (then_by _ c.in_ok-required-3.ensures (none_by _ n)))))

pub returns-in_err-required_list-2 : goal.returns-in_err-required_list-2
returns-in_err-required_list-2 c =
    unread clock_view _ _ c.from_residual-in_err-required_list-2.result _ c.from_residual-in_err-required_list-2.ensures.1 c.in_err-required_list-2.ensures
    (λ n. keyed clock_names clock_fields (view c.args.value.now) c.has_keys.ensures c.if-not-has_keys.false
    (then_by _ c.in_ok-required.ensures (then_by _ c.in_ok-required-2.ensures (then_by _ c.in_ok-required-3.ensures
    (then_by _ c.in_ok-required_list.ensures (none_by _ n))))))

pub returns-in_err-required_list-3 : goal.returns-in_err-required_list-3
returns-in_err-required_list-3 c =
    unread clock_view _ _ c.from_residual-in_err-required_list-3.result _ c.from_residual-in_err-required_list-3.ensures.1 c.in_err-required_list-3.ensures
    (λ n. keyed clock_names clock_fields (view c.args.value.now) c.has_keys.ensures c.if-not-has_keys.false
    (then_by _ c.in_ok-required.ensures (then_by _ c.in_ok-required-2.ensures (then_by _ c.in_ok-required-3.ensures (then_by _ c.in_ok-required_list.ensures
    (then_by _ c.in_ok-required_list-2.ensures (none_by _ n)))))))
