use Rattle.std.proofs.Common.{◌≡◌, ◌<◌, ◌^◌, ℕ, ℤ, List, pos, ◌+ℤ◌, ◌-ℤ◌, sym, ap, ap₂, ◌∙◌, arith, lt-ltb, nat_lt, inl, inr, lit<}
use Rattle.std.proofs.lemmas.Bool.{cond-true}
use Rattle.std.specs.Prelude.{slice_index_or}
use Rattle.clock_skew.specs.Reading.{reading_at, IsOffset}
use Rattle.std.proofs.lemmas.List.FromFn.{get_or-map-range_with_len}
use Rattle.clock_skew.specs.Clock.{IsUpTo, lie_at, number_at}
use Rattle.clock_skew.proofs.Sums.{number_is, zero_offset, zero_lie, zero_error, zero_reading, error_small, ahead_fits, error_fits, lie_fits, reading_is, reading_within}
use Rattle.clock_skew.proofs.clocks.Clocks.reading.Goals as goal

pub returns-then-j-self-clause-range : goal.returns-then-j-self-clause-range
returns-then-j-self-clause-range g c = zero_reading

pub bounds-self-j : goal.bounds-self-j
bounds-self-j g c = omega (arith, c.if-j-self.false, c.requires.steady.nodes, c.requires.steady.clock.nodes)

pub bounds-self-i : goal.bounds-self-i
bounds-self-i g c = omega (arith, c.requires.reader, c.requires.steady.nodes, c.requires.steady.clock.nodes)

pub overflow_sub-ahead : goal.overflow_sub-ahead
overflow_sub-ahead g c =
    let xs = c.args.self.now.offset.now in
    let at : (k : ℕ) → IsOffset (slice_index_or xs k (pos 0)) = λ k. number_is IsOffset zero_offset xs k c.requires.steady.offsets in
    ahead_fits (slice_index_or xs c.args.j (pos 0)) (slice_index_or xs c.args.i (pos 0)) (pos 0) (pos 0) (at c.args.j) (at c.args.i) zero_error zero_lie

pub error-requires : goal.error-requires
error-requires g c = (elim c.requires.steady.capacity [ inl e ↦ rw e (lit< tt) | inr e ↦ rw e (lit< tt) ], (omega (arith, c.requires.reader, c.requires.steady.nodes), omega (arith, c.if-j-self.false, c.requires.steady.nodes)))

pub bounds-lies-j : goal.bounds-lies-j
bounds-lies-j g c = omega (arith, c.if-j-self.false, c.requires.steady.nodes, c.requires.steady.clock.nodes)

pub overflow_add-result : goal.overflow_add-result
overflow_add-result g c =
    let xs = c.args.self.now.offset.now in
    let at : (k : ℕ) → IsOffset (slice_index_or xs k (pos 0)) = λ k. number_is IsOffset zero_offset xs k c.requires.steady.offsets in
    error_fits (slice_index_or xs c.args.j (pos 0)) (slice_index_or xs c.args.i (pos 0)) c.error.result (pos 0) (at c.args.j) (at c.args.i) (error_small c.args.self.now.plan.now.epsilon c.error.result c.requires.steady.clock.epsilon c.error.ensures.range) zero_lie

pub overflow_add-result-2 : goal.overflow_add-result-2
overflow_add-result-2 g c =
    let xs = c.args.self.now.offset.now in
    let at : (k : ℕ) → IsOffset (slice_index_or xs k (pos 0)) = λ k. number_is IsOffset zero_offset xs k c.requires.steady.offsets in
    lie_fits (slice_index_or xs c.args.j (pos 0)) (slice_index_or xs c.args.i (pos 0)) c.error.result (slice_index_or c.args.lies.now c.args.j (pos 0)) (at c.args.j) (at c.args.i) (error_small c.args.self.now.plan.now.epsilon c.error.result c.requires.steady.clock.epsilon c.error.ensures.range) (number_is (IsUpTo (pos (2 ^ 40))) zero_lie c.args.lies.now c.args.j c.requires.near)

pub returns-clause-reading : goal.returns-clause-reading
returns-clause-reading g c =
    let xs = c.args.self.now.offset.now in
    let at : (k : ℕ) → IsOffset (slice_index_or xs k (pos 0)) = λ k. number_is IsOffset zero_offset xs k c.requires.steady.offsets in
    let low : c.args.j < c.args.self.now.nodes = omega (arith, c.if-j-self.false) in
    let within : c.args.j < g.row.N = omega (arith, low, c.requires.steady.nodes, c.requires.steady.clock.nodes) in
    let told : slice_index_or c.args.lies.now c.args.j (pos 0) ≡ lie_at c.args.self.now.plan.now c.args.j c.args.i c.args.self.now.period =
    ap (λ (ys : List ℤ). slice_index_or ys c.args.j (pos 0)) c.requires.lies
    ∙ get_or-map-range_with_len (λ k. lie_at c.args.self.now.plan.now k c.args.i c.args.self.now.period) 0 g.row.N c.args.j c.args.j (pos 0) within (omega arith) in
    reading_is (slice_index_or xs c.args.j (pos 0)) (slice_index_or xs c.args.i (pos 0)) c.error.result (slice_index_or c.args.lies.now c.args.j (pos 0)) (at c.args.j) (at c.args.i) (error_small c.args.self.now.plan.now.epsilon c.error.result c.requires.steady.clock.epsilon c.error.ensures.range) (number_is (IsUpTo (pos (2 ^ 40))) zero_lie c.args.lies.now c.args.j c.requires.near)
    ∙ ap₂ (λ (e l : ℤ). (slice_index_or xs c.args.j (pos 0) -ℤ slice_index_or xs c.args.i (pos 0)) +ℤ e +ℤ l) c.error.ensures.error told
    ∙ sym (cond-true (nat_lt c.args.j c.args.self.now.nodes) (reading_at c.args.self.now.plan.now (number_at xs) c.args.self.now.period c.args.i c.args.j) (pos 0) (lt-ltb c.args.j c.args.self.now.nodes low))

pub returns-clause-range : goal.returns-clause-range
returns-clause-range g c =
    let xs = c.args.self.now.offset.now in
    let at : (k : ℕ) → IsOffset (slice_index_or xs k (pos 0)) = λ k. number_is IsOffset zero_offset xs k c.requires.steady.offsets in
    reading_within (slice_index_or xs c.args.j (pos 0)) (slice_index_or xs c.args.i (pos 0)) c.error.result (slice_index_or c.args.lies.now c.args.j (pos 0)) (at c.args.j) (at c.args.i) (error_small c.args.self.now.plan.now.epsilon c.error.result c.requires.steady.clock.epsilon c.error.ensures.range) (number_is (IsUpTo (pos (2 ^ 40))) zero_lie c.args.lies.now c.args.j c.requires.near)
