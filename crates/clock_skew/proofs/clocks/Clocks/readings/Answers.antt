use Rattle.std.proofs.Common.{inl, inr, lit<, arith}
use Rattle.clock_skew.specs.Correction.{IsReading}
use Rattle.std.proofs.lemmas.List.{length-replicate}
use Rattle.clock_skew.specs.Reading.{read_by}
use Rattle.clock_skew.proofs.Sums.{reading_fits}
use Rattle.clock_skew.proofs.Written.{none_written, more_written, all_written, all_hold}
use Rattle.clock_skew.proofs.clocks.Clocks.readings.Goals as goal

pub loop-j-preserved : goal.loop-j-preserved
loop-j-preserved g c =
    more_written IsReading (read_by c.args.self.now.plan.now c.args.self.now.nodes c.args.self.now.offset.now c.args.self.now.period c.args.i) g.row.N c.loop-j.j c.loop-j.readings c.reading.result c.loop-j-test.true (reading_fits c.reading.result c.reading.ensures.range) c.reading.ensures.reading c.reading.ensures.range c.loop-j.invariant

pub returns-clause-readings : goal.returns-clause-readings
returns-clause-readings g c = all_written IsReading (read_by c.args.self.now.plan.now c.args.self.now.nodes c.args.self.now.offset.now c.args.self.now.period c.args.i) g.row.N c.loop-j.j c.loop-j.readings c.loop-j-test.false c.loop-j.invariant

pub returns-clause-range : goal.returns-clause-range
returns-clause-range g c = all_hold IsReading (read_by c.args.self.now.plan.now c.args.self.now.nodes c.args.self.now.offset.now c.args.self.now.period c.args.i) g.row.N c.loop-j.j c.loop-j.readings c.loop-j-test.false c.loop-j.invariant

pub bounds-readings-j : goal.bounds-readings-j
bounds-readings-j g c = c.loop-j-test.true

pub loop-j-init : goal.loop-j-init
loop-j-init g c = none_written IsReading (read_by c.args.self.now.plan.now c.args.self.now.nodes c.args.self.now.offset.now c.args.self.now.period c.args.i) g.row.N _ (length-replicate g.row.N _)

pub loop-j-smaller : goal.loop-j-smaller
loop-j-smaller g c = omega (arith, c.loop-j-test.true)

pub offset_bounds-readings-j : goal.offset_bounds-readings-j
offset_bounds-readings-j g c = elim c.requires.steady.capacity [ inl e ↦ omega (arith, e, c.loop-j-test.true) | inr e ↦ omega (arith, e, c.loop-j-test.true) ]

pub overflow_cast-j : goal.overflow_cast-j
overflow_cast-j g c = elim c.requires.steady.capacity [ inl e ↦ omega (arith, e, c.loop-j-test.true) | inr e ↦ omega (arith, e, c.loop-j-test.true) ]

pub overflow_cast-j-end : goal.overflow_cast-j-end
overflow_cast-j-end g c = elim c.requires.steady.capacity [ inl e ↦ omega (arith, e) | inr e ↦ omega (arith, e) ]

pub reading-requires : goal.reading-requires
reading-requires g c = (
  lit< tt,
  (
    elim c.requires.steady.capacity [ inl e ↦ rw e (lit< tt) | inr e ↦ rw e (lit< tt) ],
    (c.requires.steady, (c.requires.reader, (c.lies_to-lies.ensures.lies, c.lies_to-lies.ensures.range))),
  ),
)
