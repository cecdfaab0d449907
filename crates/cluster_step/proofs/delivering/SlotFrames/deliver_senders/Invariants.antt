use Rattle.std.proofs.Common.{◌≡◌, ◌≤◌, ◌-◌, map}
use Rattle.cluster_periods.specs.Slots.{by_senders, frame_by}
use Rattle.cluster_step.proofs.delivering.SlotFrames.deliver_senders.Given as goal

abbrev pub invariant-loop-from : goal.invariant-loop-from
invariant-loop-from g l =
    (l.node ≡ by_senders l.self.period.now.scenario.now.plan l.self.period.now.number l.self.slot (frame_by (map (λ f. f.items) l.self.frames.now)) l.fn.senders.start (l.from - l.fn.senders.start) l.initial.node) × (l.fn.senders.start ≤ l.from)
