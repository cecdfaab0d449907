use Rattle.std.proofs.Common.{Some, ap, ◌∙◌, w64, to_z, of_z}
use Rattle.std.proofs.lemmas.Int.{to_z-of_z}
use Rattle.scenario.specs.Seen.{channel_view}
use Rattle.scenario_reading.specs.Keys.{channel_at}
use Rattle.scenario_versions.specs.Versions.{IsChannelOf}
use Rattle.scenario_writing.proofs.Grown.{next, all}
use Rattle.scenario_writing.proofs.Channels.{of_each}
use Rattle.scenario_writing.proofs.whole.channels.Goals as goal

pub channel-requires : goal.channel-requires
channel-requires c =
    rw (to_z-of_z w64 c.args.version c.ranges.version, c.part-item.is)
    (of_each (IsChannelOf c.args.version) channel_view c.args.parts.now c.loop-part.part-index c.part-item.result c.loop-part-test.true c.requires)

pub loop-part-preserved : goal.loop-part-preserved
loop-part-preserved c =
    next (channel_at (to_z w64 (of_z w64 c.args.version))) channel_view c.args.parts.now c.loop-part.part-index c.part-item.result c.in_ok-channel.field-0 c.loop-part.values.items
    c.push.new.self.items c.loop-part-test.true (c.in_ok-channel.ensures ∙ ap (λ p. Some (channel_view p)) c.part-item.is) c.in_ok-push.ensures.items c.loop-part.invariant

pub returns : goal.returns
returns c =
    rw (to_z-of_z w64 c.args.version c.ranges.version)
    at (all (channel_at (to_z w64 (of_z w64 c.args.version))) channel_view c.args.parts.now c.loop-part.part-index c.loop-part.values c.loop-part-test.false c.loop-part.invariant)
