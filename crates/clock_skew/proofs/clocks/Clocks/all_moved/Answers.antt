use Rattle.std.proofs.Common.{rules, w64, inl, inr, lit<, arith}
use mir.Val.{SFits}
use Rattle.std.proofs.lemmas.List.{length-replicate}
use Rattle.clock_skew.specs.Reading.{moved}
use Rattle.clock_skew.proofs.Written.{none_written, more_written, all_written}
use Rattle.clock_skew.proofs.clocks.Clocks.all_moved.Goals as goal

pub loop-i-preserved : goal.loop-i-preserved
loop-i-preserved g c =
    let fits : SFits w64 c.moved.result = search rules in
    more_written (λ z. Unit {0}) (moved c.args.self.now.plan.now c.args.self.now.nodes c.args.self.now.offset.now c.args.correction.now c.args.self.now.period) g.row.N c.loop-i.i c.loop-i.after c.moved.result c.loop-i-test.true fits c.moved.ensures tt c.loop-i.invariant

pub returns : goal.returns
returns g c = all_written (λ z. Unit {0}) (moved c.args.self.now.plan.now c.args.self.now.nodes c.args.self.now.offset.now c.args.correction.now c.args.self.now.period) g.row.N c.loop-i.i c.loop-i.after c.loop-i-test.false c.loop-i.invariant

pub bounds-after-i : goal.bounds-after-i
bounds-after-i g c = c.loop-i-test.true

pub loop-i-init : goal.loop-i-init
loop-i-init g c = none_written (λ z. Unit {0}) (moved c.args.self.now.plan.now c.args.self.now.nodes c.args.self.now.offset.now c.args.correction.now c.args.self.now.period) g.row.N _ (length-replicate g.row.N _)

pub loop-i-smaller : goal.loop-i-smaller
loop-i-smaller g c = omega (arith, c.loop-i-test.true)

pub moved-requires : goal.moved-requires
moved-requires g c = (lit< tt, (elim c.requires.steady.capacity [ inl e ↦ rw e (lit< tt) | inr e ↦ rw e (lit< tt) ], (c.requires.steady, c.requires.corrections)))

pub offset_bounds-after-i : goal.offset_bounds-after-i
offset_bounds-after-i g c = elim c.requires.steady.capacity [ inl e ↦ omega (arith, e, c.loop-i-test.true) | inr e ↦ omega (arith, e, c.loop-i-test.true) ]

pub overflow_cast-i : goal.overflow_cast-i
overflow_cast-i g c = elim c.requires.steady.capacity [ inl e ↦ omega (arith, e, c.loop-i-test.true) | inr e ↦ omega (arith, e, c.loop-i-test.true) ]

pub overflow_cast-i-end : goal.overflow_cast-i-end
overflow_cast-i-end g c = elim c.requires.steady.capacity [ inl e ↦ omega (arith, e) | inr e ↦ omega (arith, e) ]
