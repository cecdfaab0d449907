use Rattle.std.proofs.Common.{◌-◌, ◌+◌, ◌^◌, min, ◌≡◌, ◌≤◌, vec_len}
use Rattle.std.specs.Io.KnownBytes.{Consumes}
use Rattle.span_io.proofs.reading.read_all.Given as goal

abbrev pub invariant-loop-count : goal.invariant-loop-count
invariant-loop-count g l =
    (vec_len l.bytes ≤ l.limit)
    × Consumes (g.S.Source.left l.initial.source) (g.S.Source.left l.source) l.bytes.items
    × (min (g.S.Source.given l.initial.source + vec_len l.bytes) (2 ^ 64 - 1) ≤ g.S.Source.given l.source)
    × (g.S.Source.faults l.source ≡ g.S.Source.faults l.initial.source)

abbrev pub decreases-loop-count : goal.decreases-loop-count
decreases-loop-count g l = l.limit + 1 - vec_len l.bytes
