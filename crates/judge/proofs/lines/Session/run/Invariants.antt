use Rattle.std.proofs.Common.{ℕ, ◌≤◌, List, length}
use Rattle.input_lines.specs.Reading.{GivesBytes}
use Rattle.input_lines.specs.Devices.{sink_seen, source_seen, WritesAll}
use Rattle.judge.specs.Session.{IsReady, CaughtUp, stand, with_more}
use Rattle.judge.proofs.lines.Session.run.Given as goal

abbrev pub invariant-rounds : goal.invariant-rounds
invariant-rounds g l = record {
  more : List ℕ;
  text : List ℕ;
  many : l.counter ≤ length more;
  given : GivesBytes (source_seen g.S.Source.left g.S.Source.given g.S.Source.faults l.fn.source) (source_seen g.S.Source.left g.S.Source.given g.S.Source.faults l.source) more;
  caught_up : CaughtUp (with_more (stand l.fn.self) more) (stand l.self) text;
  wrote : WritesAll (sink_seen g.K.Sink.written g.K.Sink.faults l.fn.sink) (sink_seen g.K.Sink.written g.K.Sink.faults l.sink) text;
  ready : IsReady l.self;
}
