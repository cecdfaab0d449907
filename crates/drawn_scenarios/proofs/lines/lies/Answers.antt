use Rattle.std.proofs.Common.{map, ap, ◌∙◌, arith}
use Rattle.std.specs.List.{flat_map}
use Rattle.std.proofs.lemmas.List.{take_all}
use Rattle.scenario.specs.Seen.{lie_view}
use Rattle.drawn_scenarios.specs.Lines.{lies_of}
use Rattle.drawn_scenarios.proofs.Pushed.{bout_more}
use Rattle.drawn_scenarios.proofs.lines.lies.Goals as goal

pub loop-bout-preserved : goal.loop-bout-preserved
loop-bout-preserved c =
    bout_more (lies_of c.args.options.now.choices) c.args.bouts.now c.loop-bout.bout-index _ (map lie_view c.loop-bout.lies.items) (map lie_view c.push_lies.new.lies.items) c.loop-bout-test.true c.loop-bout.invariant c.in_ok-push_lies.ensures

pub returns : goal.returns
returns c =
    c.loop-bout.invariant ∙ ap (flat_map (lies_of c.args.options.now.choices)) (take_all c.loop-bout.bout-index c.args.bouts.now (omega (arith, c.loop-bout-test.false)))
