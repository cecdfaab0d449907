use Rattle.std.proofs.Common.{rules, w64, refl, sym, subst}
use Rattle.std.proofs.lemmas.List.{length-replicate}
use Rattle.std.specs.Prelude.{All}
use mir.Val.{SFits}
use Rattle.clock_skew.specs.Correction.{IsReading}
use Rattle.live_node.proofs.Told.{one_more, all_numbers, numbers_read}
use Rattle.live_node.proofs.correcting.told_numbers.Goals as goal

pub loop-node-init : goal.loop-node-init
loop-node-init g c = record { each = length-replicate _ _; front = refl }

pub loop-node-preserved : goal.loop-node-preserved
loop-node-preserved g c =
    let fits : SFits w64 c.unwrap_or.result = search rules in
    one_more g.row.N c.args.ahead.now c.loop-node.node c.loop-node.numbers c.unwrap_or.result c.told-ahead c.loop-node-test.true fits c.unwrap_or.ensures c.loop-node.invariant

pub returns-clause-numbers : goal.returns-clause-numbers
returns-clause-numbers g c = all_numbers g.row.N c.args.ahead.now c.loop-node.node c.loop-node.numbers c.told-ahead c.loop-node-test.false c.loop-node.invariant

pub returns-clause-readings : goal.returns-clause-readings
returns-clause-readings g c =
    subst (All IsReading) (sym (all_numbers g.row.N c.args.ahead.now c.loop-node.node c.loop-node.numbers c.told-ahead c.loop-node-test.false c.loop-node.invariant))
    (numbers_read c.args.ahead.now c.requires.values)
