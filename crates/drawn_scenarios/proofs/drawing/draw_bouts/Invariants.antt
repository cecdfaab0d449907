use Rattle.std.proofs.Common.{◌+◌, ◌*◌, ◌^◌, ◌≤◌, []}
use Rattle.draws.specs.Draws.{generator_of}
use Rattle.drawn_scenarios.specs.Bouts.{stories}
use Rattle.drawn_scenarios.proofs.GoesOn.{GoesOn, onward}
use Rattle.drawn_scenarios.proofs.drawing.draw_bouts.Given as goal

abbrev pub invariant-loop-node : goal.invariant-loop-node
invariant-loop-node l = record {
  few : l.ill ≤ l.options.choices.faulty;
  goes_on : GoesOn [] l.bouts.items (generator_of (2 ^ 32 * l.seed + l.index)) l.generator (stories l.options.choices l.options.choices.nodes 0 l.options.choices.faulty) (onward l.options.choices l.node l.ill);
}
