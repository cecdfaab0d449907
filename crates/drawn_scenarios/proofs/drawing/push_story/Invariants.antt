use Rattle.drawn_scenarios.specs.Bouts.{story}
use Rattle.drawn_scenarios.proofs.GoesOn.{GoesOn, from}
use Rattle.drawn_scenarios.proofs.drawing.push_story.Given as goal

abbrev pub invariant-loop-period : goal.invariant-loop-period
invariant-loop-period l =
    GoesOn l.fn.bouts.items l.bouts.items l.fn.generator l.generator (story l.options.choices l.node) (from l.options.choices l.node l.class l.period l.well l.left)
