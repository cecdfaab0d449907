use Rattle.std.proofs.Common.{◌≡◌, ◌*◌, take, drop}
use Rattle.hex.specs.Hex.{encode_lower}
use Rattle.run_print.specs.Printing.{Prints}
use Rattle.run_print.proofs.printer.Printer.bytes.Given as goal

abbrev pub invariant-loop-piece : goal.invariant-loop-piece
invariant-loop-piece g l = record {
  rest : l.rest ≡ drop (512 * l._piece) l.bytes;
  prints : Prints g.K.Sink.written g.K.Sink.faults l.initial.self l.initial.sink l.self l.sink
      (encode_lower (take (512 * l._piece) l.bytes));
}
