use Rattle.std.proofs.Common.{rules, w64, length, ◌<◌, arith}
use mir.Val.{SFits}
use Rattle.live_node.proofs.Keeping.{put_reading, left_reading}
use Rattle.live_node.proofs.event_node.replace.Goals as goal
use Rattle.live_node.proofs.event_node.replace.Goals.{in-Some, in_default}

pub loop-channel-preserved : goal.loop-channel-preserved
loop-channel-preserved c =
    let i = c.loop-channel.channel in
    let test = c.loop-channel-test.true in
    let low : i < length c.args.given.now = omega (arith, test, c.told-given) in
    let fits : i < length c.args.readings.now = omega (arith, test, c.told-readings) in
    elim c.match-given-channel.branch [
      | in-Some w ↦
          let whole : SFits w64 w.in-Some.value = search rules in
          put_reading c.args.given.now c.args.readings.now c.loop-channel.readings c.match-given-channel.readings i w.in-Some.value c.loop-channel.invariant low fits w.in-Some.is whole w.readings-is
      | in_default w ↦ left_reading c.args.given.now c.args.readings.now c.loop-channel.readings c.match-given-channel.readings i c.loop-channel.invariant low w.in_default.is w.readings-is
    ]
