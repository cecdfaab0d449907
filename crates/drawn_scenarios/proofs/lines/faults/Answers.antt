use Rattle.std.proofs.Common.{map, ap, ◌∙◌, arith}
use Rattle.std.specs.List.{flat_map}
use Rattle.std.proofs.lemmas.List.{take_all}
use Rattle.scenario.specs.Seen.{fault_view}
use Rattle.drawn_scenarios.specs.Lines.{lines_of}
use Rattle.drawn_scenarios.proofs.Pushed.{bout_more}
use Rattle.drawn_scenarios.proofs.lines.faults.Goals as goal

pub loop-bout-preserved : goal.loop-bout-preserved
loop-bout-preserved c =
    bout_more (lines_of c.args.options.now.choices) c.args.bouts.now c.loop-bout.bout-index _ (map fault_view c.loop-bout.faults.items) (map fault_view c.push_lines.new.faults.items) c.loop-bout-test.true c.loop-bout.invariant c.in_ok-push_lines.ensures

pub returns : goal.returns
returns c =
    c.loop-bout.invariant ∙ ap (flat_map (lines_of c.args.options.now.choices)) (take_all c.loop-bout.bout-index c.args.bouts.now (omega (arith, c.loop-bout-test.false)))
