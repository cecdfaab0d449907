use Rattle.std.proofs.Common.{◌<◌, ℤ, pos, ◌+ℤ◌, sym, ap, ◌∙◌, arith, lt-ltb, nat_lt, inl, inr, lit<}
use Rattle.std.proofs.lemmas.Bool.{cond-true}
use Rattle.std.specs.Prelude.{slice_index_or}
use Rattle.clock_skew.specs.Clock.{drift_at}
use Rattle.clock_skew.specs.Correction.{IsReading}
use Rattle.clock_skew.specs.Reading.{IsOffset}
use Rattle.clock_skew.proofs.Sums.{number_is, zero_offset, zero_reading, zero_error, corrected_fits, drift_fits, drifted_is}
use Rattle.clock_skew.proofs.clocks.Clocks.moved.Goals as goal

pub bounds-self-i : goal.bounds-self-i
bounds-self-i g c = omega (arith, c.if-i-self.false, c.requires.steady.nodes, c.requires.steady.clock.nodes)

pub bounds-correction-i : goal.bounds-correction-i
bounds-correction-i g c = omega (arith, c.if-i-self.false, c.requires.steady.nodes, c.requires.steady.clock.nodes)

pub overflow_add-result : goal.overflow_add-result
overflow_add-result g c =
    corrected_fits (slice_index_or c.args.self.now.offset.now c.args.i (pos 0)) (slice_index_or c.args.correction.now c.args.i (pos 0)) (pos 0)
    (number_is IsOffset zero_offset c.args.self.now.offset.now c.args.i c.requires.steady.offsets) (number_is IsReading zero_reading c.args.correction.now c.args.i c.requires.corrections) zero_error

pub drift_of-requires : goal.drift_of-requires
drift_of-requires g c = (elim c.requires.steady.capacity [ inl e ↦ rw e (lit< tt) | inr e ↦ rw e (lit< tt) ], omega (arith, c.if-i-self.false, c.requires.steady.nodes))

pub overflow_add-result-2 : goal.overflow_add-result-2
overflow_add-result-2 g c =
    drift_fits (slice_index_or c.args.self.now.offset.now c.args.i (pos 0)) (slice_index_or c.args.correction.now c.args.i (pos 0)) c.drift_of.result
    (number_is IsOffset zero_offset c.args.self.now.offset.now c.args.i c.requires.steady.offsets) (number_is IsReading zero_reading c.args.correction.now c.args.i c.requires.corrections) c.drift_of.ensures.range

pub returns : goal.returns
returns g c =
    let low : c.args.i < c.args.self.now.nodes = omega (arith, c.if-i-self.false) in
    let x : ℤ = slice_index_or c.args.self.now.offset.now c.args.i (pos 0) in
    let y : ℤ = slice_index_or c.args.correction.now c.args.i (pos 0) in
    drifted_is x y c.drift_of.result (number_is IsOffset zero_offset c.args.self.now.offset.now c.args.i c.requires.steady.offsets) (number_is IsReading zero_reading c.args.correction.now c.args.i c.requires.corrections) c.drift_of.ensures.range
    ∙ ap (λ (d : ℤ). (x +ℤ y) +ℤ d) c.drift_of.ensures.drift
    ∙ sym (cond-true (nat_lt c.args.i c.args.self.now.nodes) ((x +ℤ y) +ℤ drift_at c.args.self.now.plan.now c.args.i c.args.self.now.period) (pos 0) (lt-ltb c.args.i c.args.self.now.nodes low))
