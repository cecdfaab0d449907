use Rattle.std.proofs.Common.{◌≡◌, ℕ, ◌+◌, ◌-◌, List, ◌++◌, length}
use Rattle.input_lines.specs.Reading.{GivesBytes}
use Rattle.input_lines.specs.Devices.{source_seen}
use Rattle.input_lines.proofs.lines.Lines.read_line.Given as goal

abbrev pub invariant-reads : goal.invariant-reads
invariant-reads g l = record {
  bytes : List ℕ;
  given : GivesBytes (source_seen g.S.Source.left g.S.Source.given g.S.Source.faults l.initial.source) (source_seen g.S.Source.left g.S.Source.given g.S.Source.faults l.source) bytes;
  rest : l.self.rest ≡ l.initial.self.rest ++ bytes;
  limit : l.self.limit ≡ l.initial.self.limit;
}

abbrev pub decreases-reads : goal.decreases-reads
decreases-reads g l = (l.self.limit + 1) - length l.self.rest
