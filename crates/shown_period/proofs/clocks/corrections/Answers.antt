use Rattle.std.proofs.Common.{inl, inr, lit<, arith}
use Rattle.std.proofs.lemmas.List.{length-replicate}
use Rattle.clock_skew.specs.Correction.{IsReading}
use Rattle.cluster_record.specs.Clocking.{correction_by}
use Rattle.shown_period.specs.Outcomes.{outcomes}
use Rattle.clock_skew.proofs.Sums.{reading_fits}
use Rattle.clock_skew.proofs.Written.{none_written, more_written, all_written, all_hold}
use Rattle.shown_period.proofs.clocks.corrections.Goals as goal

pub correction_of-requires : goal.correction_of-requires
correction_of-requires g c = (lit< tt, (elim c.requires.steady.capacity [ inl e ↦ rw e (lit< tt) | inr e ↦ rw e (lit< tt) ], (c.loop-i-test.true, (c.requires.steady, c.requires.others))))

pub loop-i-preserved : goal.loop-i-preserved
loop-i-preserved g c =
    more_written IsReading (correction_by g.row.N c.args.clocks.now.plan.now c.args.m c.args.clocks.now.offset.now c.args.clocks.now.period (outcomes c.args.made.now c.args.clocks.now.nodes)) g.row.N c.loop-i.i c.loop-i.corrections c.correction_of.result c.loop-i-test.true (reading_fits c.correction_of.result c.correction_of.ensures.range) c.correction_of.ensures.correction c.correction_of.ensures.range c.loop-i.invariant

pub returns-clause-corrections : goal.returns-clause-corrections
returns-clause-corrections g c = all_written IsReading (correction_by g.row.N c.args.clocks.now.plan.now c.args.m c.args.clocks.now.offset.now c.args.clocks.now.period (outcomes c.args.made.now c.args.clocks.now.nodes)) g.row.N c.loop-i.i c.loop-i.corrections c.loop-i-test.false c.loop-i.invariant

pub returns-clause-range : goal.returns-clause-range
returns-clause-range g c = all_hold IsReading (correction_by g.row.N c.args.clocks.now.plan.now c.args.m c.args.clocks.now.offset.now c.args.clocks.now.period (outcomes c.args.made.now c.args.clocks.now.nodes)) g.row.N c.loop-i.i c.loop-i.corrections c.loop-i-test.false c.loop-i.invariant

pub bounds-corrections-i : goal.bounds-corrections-i
bounds-corrections-i g c = c.loop-i-test.true

pub loop-i-init : goal.loop-i-init
loop-i-init g c = none_written IsReading (correction_by g.row.N c.args.clocks.now.plan.now c.args.m c.args.clocks.now.offset.now c.args.clocks.now.period (outcomes c.args.made.now c.args.clocks.now.nodes)) g.row.N _ (length-replicate g.row.N _)

pub loop-i-smaller : goal.loop-i-smaller
loop-i-smaller g c = omega (arith, c.loop-i-test.true)

pub offset_bounds-corrections-i : goal.offset_bounds-corrections-i
offset_bounds-corrections-i g c = elim c.requires.steady.capacity [ inl e ↦ omega (arith, e, c.loop-i-test.true) | inr e ↦ omega (arith, e, c.loop-i-test.true) ]

pub overflow_cast-i : goal.overflow_cast-i
overflow_cast-i g c = elim c.requires.steady.capacity [ inl e ↦ omega (arith, e, c.loop-i-test.true) | inr e ↦ omega (arith, e, c.loop-i-test.true) ]

pub overflow_cast-i-end : goal.overflow_cast-i-end
overflow_cast-i-end g c = elim c.requires.steady.capacity [ inl e ↦ omega (arith, e) | inr e ↦ omega (arith, e) ]
