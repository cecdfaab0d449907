use Rattle.json_parts.specs.Meaning.{view}
use Rattle.scenario_reading.specs.Keys.{sensor_names, sensor_fields}
use Rattle.scenario.specs.Seen.{channel_view}
use Rattle.json_parts.proofs.Unread.{then_by, none_by, keyed, no_keys, unread}
use Rattle.scenario_reading.proofs.parts.sensor.Goals as goal

pub returns-in_err-required : goal.returns-in_err-required
returns-in_err-required c =
    unread channel_view _ _ c.from_residual.result _ c.from_residual.ensures.1 c.in_err-required.ensures
    (λ n. keyed sensor_names sensor_fields (view c.args.value.now) c.has_keys.ensures c.if-not-has_keys.false (none_by _ n))

pub returns-in_err-optional : goal.returns-in_err-optional
returns-in_err-optional c =
    unread channel_view _ _ c.from_residual-in_err-optional.result _ c.from_residual-in_err-optional.ensures.1 c.in_err-optional.ensures
    (λ n. keyed sensor_names sensor_fields (view c.args.value.now) c.has_keys.ensures c.if-not-has_keys.false (then_by _ c.in_ok-required.ensures (none_by _ n)))

pub returns-in_err-required_list : goal.returns-in_err-required_list
returns-in_err-required_list c =
    unread channel_view _ _ c.from_residual-in_err-required_list.result _ c.from_residual-in_err-required_list.ensures.1 c.in_err-required_list.ensures
    (λ n. keyed sensor_names sensor_fields (view c.args.value.now) c.has_keys.ensures c.if-not-has_keys.false
    (then_by _ c.in_ok-required.ensures (then_by _ c.in_ok-optional.ensures (none_by _ n))))

pub returns-then-not-has_keys : goal.returns-then-not-has_keys
returns-then-not-has_keys c = no_keys sensor_names sensor_fields (view c.args.value.now) c.has_keys.ensures c.if-not-has_keys.true
