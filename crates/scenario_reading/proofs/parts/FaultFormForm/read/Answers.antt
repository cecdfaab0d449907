use Rattle.json_parts.specs.Meaning.{view}
use Rattle.scenario_reading.specs.Keys.{fault_names, fault_fields}
use Rattle.scenario.specs.Seen.{fault_view}
use Rattle.json_parts.proofs.Unread.{then_by, none_by, keyed, unread}
use Rattle.scenario_reading.proofs.parts.FaultFormForm.read.Goals as goal

pub returns-in_err-required : goal.returns-in_err-required
returns-in_err-required c =
    unread fault_view _ _ c.from_residual.result _ c.from_residual.ensures.1 c.in_err-required.ensures
    (λ n. keyed fault_names fault_fields (view c.args.value.now) c.has_keys.ensures c.if-not-has_keys.false (none_by _ n))

pub returns-in_err-required-2 : goal.returns-in_err-required-2
returns-in_err-required-2 c =
    unread fault_view _ _ c.from_residual-in_err-required-2.result _ c.from_residual-in_err-required-2.ensures.1 c.in_err-required-2.ensures
    (λ n. keyed fault_names fault_fields (view c.args.value.now) c.has_keys.ensures c.if-not-has_keys.false (then_by _ c.in_ok-required.ensures (none_by _ n)))

pub returns-in_err-required-3 : goal.returns-in_err-required-3
returns-in_err-required-3 c =
    unread fault_view _ _ c.from_residual-in_err-required-3.result _ c.from_residual-in_err-required-3.ensures.1 c.in_err-required-3.ensures
    (λ n. keyed fault_names fault_fields (view c.args.value.now) c.has_keys.ensures c.if-not-has_keys.false
    (then_by _ c.in_ok-required.ensures (then_by _ c.in_ok-required-2.ensures (none_by _ n))))

pub returns-in_err-required-4 : goal.returns-in_err-required-4
returns-in_err-required-4 c =
    unread fault_view _ _ c.from_residual-in_err-required-4.result _ c.from_residual-in_err-required-4.ensures.1 c.in_err-required-4.ensures
    (λ n. keyed fault_names fault_fields (view c.args.value.now) c.has_keys.ensures c.if-not-has_keys.false
    (then_by _ c.in_ok-required.ensures (then_by _ c.in_ok-required-2.ensures (then_by _ c.in_ok-required-3.ensures (none_by _ n)))))

pub returns-in_err-required-5 : goal.returns-in_err-required-5
returns-in_err-required-5 c =
    unread fault_view _ _ c.from_residual-in_err-required-5.result _ c.from_residual-in_err-required-5.ensures.1 c.in_err-required-5.ensures
    (λ n. keyed fault_names fault_fields (view c.args.value.now) c.has_keys.ensures c.if-not-has_keys.false
    (then_by _ c.in_ok-required.ensures (then_by _ c.in_ok-required-2.ensures (then_by _ c.in_ok-required-3.ensures
    (then_by _ c.in_ok-required-4.ensures (none_by _ n))))))
