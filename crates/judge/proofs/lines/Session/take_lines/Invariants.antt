use Rattle.std.proofs.Common.{ℕ, List, length}
use Rattle.input_lines.specs.Devices.{sink_seen, WritesAll}
use Rattle.judge.specs.Session.{IsReady, Took, stand}
use Rattle.judge.proofs.lines.Session.take_lines.Given as goal

abbrev pub invariant-lines : goal.invariant-lines
invariant-lines g l = record {
  lines : List (List ℕ);
  text : List ℕ;
  took : Took (stand l.initial.self) (stand l.self) lines text;
  wrote : WritesAll (sink_seen g.K.Sink.written g.K.Sink.faults l.initial.sink) (sink_seen g.K.Sink.written g.K.Sink.faults l.sink) text;
  ready : IsReady l.self;
}

abbrev pub decreases-lines : goal.decreases-lines
decreases-lines g l = length l.self.lines.rest
