use Rattle.std.proofs.Common.{rules, w64}
use mir.Val.{SFits}
use Rattle.clock_skew.specs.Reading.{start_of}
use Rattle.clock_skew.proofs.Written.{more_written, all_written}
use Rattle.clock_skew.proofs.clocks.starts.Goals as goal

pub loop-i-preserved : goal.loop-i-preserved
loop-i-preserved g c =
    let fits : SFits w64 c.start_of.result = search rules in
    more_written (λ z. Unit {0}) (start_of c.args.plan.now c.args.nodes) g.row.N c.loop-i.i c.loop-i.offset c.start_of.result c.loop-i-test.true fits c.start_of.ensures tt c.loop-i.invariant

pub returns : goal.returns
returns g c = all_written (λ z. Unit {0}) (start_of c.args.plan.now c.args.nodes) g.row.N c.loop-i.i c.loop-i.offset c.loop-i-test.false c.loop-i.invariant
