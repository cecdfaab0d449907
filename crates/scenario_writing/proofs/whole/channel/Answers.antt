use Rattle.std.proofs.Common.{rules, w64}
use Rattle.std.proofs.lemmas.Int.{to_z-of_z}
use Rattle.std.proofs.lemmas.Result.{IfOk-weaker}
use mir.Val.{SFits}
use Rattle.serde_json.specs.View.{view}
use Rattle.scenario_writing.proofs.Channels.{copy_at, both}
use Rattle.scenario_writing.proofs.whole.channel.Goals as goal

pub returns-in-State : goal.returns-in-State
returns-in-State c =
    let delta : SFits w64 c.in-State.delta = search rules in
    let step : SFits w64 c.in-State.step = search rules in
    rw c.in-State.is
    (IfOk-weaker c.state.result _ _ (λ v read. rw (to_z-of_z w64 c.in-State.delta delta, to_z-of_z w64 c.in-State.step step, c.as_slice.ensures.value) at read)
    (c.state.ensures c.args.version))

pub returns-in-Sensor : goal.returns-in-Sensor
returns-in-Sensor c =
    let delta : SFits w64 c.in-Sensor.delta = search rules in
    rw c.in-Sensor.is
    (IfOk-weaker c.sensor.result _ _ (λ v read. rw (to_z-of_z w64 c.in-Sensor.delta delta, c.as_slice-in-Sensor.ensures.value) at read) (c.sensor.ensures c.args.version))

pub returns-in-Copy : goal.returns-in-Copy
returns-in-Copy c =
    let delta : SFits w64 c.in-Copy.delta = search rules in
    let task : SFits w64 c.in-Copy.task = search rules in
    let lies : SFits w64 c.in-Copy.lies = search rules in
    rw c.in-Copy.is
    (both c.copy.result
    (λ v kind fields. copy_at c.args.version (view v) _ (rw c.in-Copy.is at c.requires) kind
    (rw (to_z-of_z w64 c.in-Copy.delta delta, to_z-of_z w64 c.in-Copy.task task, to_z-of_z w64 c.in-Copy.lies lies, c.as_slice-in-Copy.ensures.value) at fields))
    c.copy.ensures.kind c.copy.ensures.fields)
