use Rattle.std.proofs.Common.{◌≡◌, take}
use Rattle.live_node.specs.Live.{replaced}
use Rattle.live_node.proofs.event_node.replace.Given as goal

abbrev pub invariant-loop-channel : goal.invariant-loop-channel
invariant-loop-channel l = l.readings ≡ replaced (take l.channel l.given) l.initial.readings
