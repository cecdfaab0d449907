use Rattle.std.proofs.Common.{arith, ◌+◌, ◌-◌, ◌^◌, min, ap, ◌∙◌}
use Rattle.span_io.specs.Memory.{SinkState}
use Rattle.span_io.proofs.memory.MemSinkSink.write.Goals as goal

pub overflow_sub-room : goal.overflow_sub-room
overflow_sub-room c = omega (arith, c.self.invariant.1, c.len.ensures)

pub invariant_of-self : goal.invariant_of-self
invariant_of-self c = c.self.invariant

pub returns-then-room-eq0-clause-bound : goal.returns-then-room-eq0-clause-bound
returns-then-room-eq0-clause-bound c = tt

pub returns-then-room-eq0-clause-amount : goal.returns-then-room-eq0-clause-amount
returns-then-room-eq0-clause-amount c = tt

pub returns-then-room-eq0-clause-bytes : goal.returns-then-room-eq0-clause-bytes
returns-then-room-eq0-clause-bytes c = ap (λ (s : SinkState). s.written) c.self.view_is

pub returns-then-room-eq0-clause-cause : goal.returns-then-room-eq0-clause-cause
returns-then-room-eq0-clause-cause c =
    let same = ap (λ (s : SinkState). s.faults) c.self.view_is in
    record {
      later = omega (arith, same, c.saturating_add-self-inside-then-room-eq0.ensures, c.self.ranges);
      faultless = tt;
      failed = omega (arith, same, c.saturating_add-self-inside-then-room-eq0.ensures);
    }

pub returns-then-room-eq0-clause-call : goal.returns-then-room-eq0-clause-call
returns-then-room-eq0-clause-call c = c.saturating_add-self-inside.ensures ∙ ap (λ (s : SinkState). min (s.call + 1) (2 ^ 64 - 1)) c.self.view_is

pub returns-clause-call : goal.returns-clause-call
returns-clause-call c = c.saturating_add-self-inside.ensures ∙ ap (λ (s : SinkState). min (s.call + 1) (2 ^ 64 - 1)) c.self.view_is

pub returns-clause-cause : goal.returns-clause-cause
returns-clause-cause c =
    let same = ap (λ (s : SinkState). s.faults) c.self.view_is in
    record { later = omega (arith, same); faultless = same; failed = tt }

pub returns-then-room-eq0-clause-same_room : goal.returns-then-room-eq0-clause-same_room
returns-then-room-eq0-clause-same_room c = ap (λ (s : SinkState). s.room) c.self.view_is

pub returns-then-room-eq0-clause-same_piece : goal.returns-then-room-eq0-clause-same_piece
returns-then-room-eq0-clause-same_piece c = ap (λ (s : SinkState). s.piece) c.self.view_is

pub returns-then-room-eq0-clause-same_fails : goal.returns-then-room-eq0-clause-same_fails
returns-then-room-eq0-clause-same_fails c = ap (λ (s : SinkState). s.fails) c.self.view_is

pub returns-clause-same_room : goal.returns-clause-same_room
returns-clause-same_room c = ap (λ (s : SinkState). s.room) c.self.view_is

pub returns-clause-same_piece : goal.returns-clause-same_piece
returns-clause-same_piece c = ap (λ (s : SinkState). s.piece) c.self.view_is

pub returns-clause-same_fails : goal.returns-clause-same_fails
returns-clause-same_fails c = ap (λ (s : SinkState). s.fails) c.self.view_is
