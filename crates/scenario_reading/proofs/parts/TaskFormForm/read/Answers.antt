use Rattle.json_parts.specs.Meaning.{view}
use Rattle.scenario_reading.specs.Keys.{task_names, task_fields}
use Rattle.scenario.specs.Seen.{task_view}
use Rattle.json_parts.proofs.Unread.{then_by, none_by, keyed, no_keys, unread}
use Rattle.scenario_reading.proofs.Later.{no_need, no_min, no_max}
use Rattle.scenario_reading.proofs.parts.TaskFormForm.read.Goals as goal

pub returns-in_err-required : goal.returns-in_err-required
returns-in_err-required c =
    unread task_view _ _ c.from_residual.result _ c.from_residual.ensures.1 c.in_err-required.ensures
    (λ n. keyed task_names task_fields (view c.args.value.now) c.has_keys.ensures c.if-not-has_keys.false (no_need (view c.args.value.now) n))

pub returns-in_err-required-2 : goal.returns-in_err-required-2
returns-in_err-required-2 c =
    unread task_view _ _ c.from_residual-in_err-required-2.result _ c.from_residual-in_err-required-2.ensures.1 c.in_err-required-2.ensures
    (λ n. keyed task_names task_fields (view c.args.value.now) c.has_keys.ensures c.if-not-has_keys.false (no_min (view c.args.value.now) n))

pub returns-in_err-required-3 : goal.returns-in_err-required-3
returns-in_err-required-3 c =
    unread task_view _ _ c.from_residual-in_err-required-3.result _ c.from_residual-in_err-required-3.ensures.1 c.in_err-required-3.ensures
    (λ n. keyed task_names task_fields (view c.args.value.now) c.has_keys.ensures c.if-not-has_keys.false (no_max (view c.args.value.now) n))

pub returns-in_err-required-4 : goal.returns-in_err-required-4
returns-in_err-required-4 c =
    unread task_view _ _ c.from_residual-in_err-required-4.result _ c.from_residual-in_err-required-4.ensures.1 c.in_err-required-4.ensures
    (λ n. keyed task_names task_fields (view c.args.value.now) c.has_keys.ensures c.if-not-has_keys.false (none_by _ n))

pub returns-in_err-required-5 : goal.returns-in_err-required-5
returns-in_err-required-5 c =
    unread task_view _ _ c.from_residual-in_err-required-5.result _ c.from_residual-in_err-required-5.ensures.1 c.in_err-required-5.ensures
    (λ n. keyed task_names task_fields (view c.args.value.now) c.has_keys.ensures c.if-not-has_keys.false (then_by _ c.in_ok-required-4.ensures (none_by _ n)))

pub returns-in_err-required-6 : goal.returns-in_err-required-6
returns-in_err-required-6 c =
    unread task_view _ _ c.from_residual-in_err-required-6.result _ c.from_residual-in_err-required-6.ensures.1 c.in_err-required-6.ensures
    (λ n. keyed task_names task_fields (view c.args.value.now) c.has_keys.ensures c.if-not-has_keys.false (then_by _ c.in_ok-required-4.ensures (then_by _ c.in_ok-required-5.ensures (then_by _ c.in_ok-required.ensures (then_by _ c.in_ok-required-2.ensures
    (then_by _ c.in_ok-required-3.ensures (none_by _ n)))))))

pub returns-then-not-has_keys : goal.returns-then-not-has_keys
returns-then-not-has_keys c = no_keys task_names task_fields (view c.args.value.now) c.has_keys.ensures c.if-not-has_keys.true
