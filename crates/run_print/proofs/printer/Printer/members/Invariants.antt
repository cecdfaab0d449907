use Rattle.std.proofs.Common.{◌≡◌, ◌++◌, ◌≤◌, length, map}
use Rattle.std.specs.Prelude.{codes, decimal}
use Rattle.run_print.specs.Printing.{Prints}
use Rattle.run_text.specs.Text.{separated}
use Rattle.run_print.proofs.printer.Printer.members.Given as goal

abbrev pub invariant-loop-node : goal.invariant-loop-node
invariant-loop-node g l = record {
  can : (goal.iterator-loop-node g).can_next l.node-iterator;
  ends : (goal.iterator-loop-node g).is_finite l.node-iterator;
  split : l.set ≡ l.yielded ++ l.node-iterator;
  few : length l.set ≤ 16;
  place : l.printed ≡ length l.yielded;
  prints : Prints g.K.Sink.written g.K.Sink.faults l.initial.self l.initial.sink l.self l.sink
      (separated (codes ",") (map decimal l.yielded));
}
