use Rattle.std.proofs.Common.{ℕ, ◌≡◌, ◌+◌}
use Rattle.input_lines.specs.Devices.{sink_seen, WritesAll}
use Rattle.judge.specs.Rows.{all_drawn_rows}
use Rattle.judge.proofs.judging.draw_rows.Given as goal

abbrev pub invariant-draws : goal.invariant-draws
invariant-draws g l = record {
  drawn : ℕ;
  place : l.index ≡ l.fn.draws.first + drawn;
  wrote : WritesAll (sink_seen g.K.Sink.written g.K.Sink.faults l.fn.sink) (sink_seen g.K.Sink.written g.K.Sink.faults l.sink) (all_drawn_rows l.fn.options.choices l.fn.draws.seed l.fn.draws.first drawn);
}
