use Rattle.std.proofs.Common.{ℕ, ◌≡◌, ◌<◌, ◌≤◌, ◌*◌, ◌^◌, length, inl, inr, lit<, ap, ◌∙◌, arith}
use Rattle.std.proofs.lemmas.Nat.{mul-le}
use Rattle.node_steps.specs.Parts.{NodeView}
use Rattle.cluster_record.proofs.Taking.{more_records, all_records}
use Rattle.cluster_record.proofs.record.filling.take_records.Goals as goal

-- the place of an element has a number
offset_fits : (i few many size : ℕ) → i < few → many ≡ few → many * size < 2 ^ 63 → i * size < 2 ^ 64
offset_fits i few many size low same fits = let m : i * size ≤ many * size = mul-le i size many size (omega (arith, low, same)) (omega arith) in omega (arith, m, fits)

pub loop-i-init : goal.loop-i-init
loop-i-init g c = λ k d low. absurd (omega (arith, low))

pub offset_bounds-nodes-i : goal.offset_bounds-nodes-i
offset_bounds-nodes-i g c = omega (arith, c.loop-i-test.true)

pub bounds-nodes-i : goal.bounds-nodes-i
bounds-nodes-i g c = c.loop-i-test.true

pub loop-i-smaller : goal.loop-i-smaller
loop-i-smaller g c = omega (arith, c.loop-i-test.true)

pub bounds-records-i : goal.bounds-records-i
bounds-records-i g c = omega (arith, c.loop-i-test.true, c.loop-i.auto.records, c.requires.each)

pub record-requires : goal.record-requires
record-requires g c = (
  elim g.bound-1.eight_or_sixteen [ inl e ↦ rw e (lit< tt) | inr e ↦ rw e (lit< tt) ],
  (
    elim g.bound-1.eight_or_sixteen [ inl e ↦ rw e (lit< tt) | inr e ↦ rw e (lit< tt) ],
    ap (λ (v : NodeView g.row.N). v.phase.is_open) c.index-nodes-i.is ∙ c.requires.closed c.loop-i.i c.index-nodes-i.result c.loop-i-test.true,
  ),
)

pub loop-i-preserved : goal.loop-i-preserved
loop-i-preserved g c =
    more_records c.args.nodes.now c.loop-i.records c.loop-i.i c.index-nodes-i.result c.record.result (omega (arith, c.loop-i-test.true, c.loop-i.auto.records, c.requires.each)) c.loop-i-test.true c.index-nodes-i.is c.record.ensures c.loop-i.invariant

pub returns : goal.returns
returns g c = all_records c.args.nodes.now c.loop-i.records c.loop-i.i (omega (arith, c.loop-i.auto.records, c.requires.each)) (omega (arith, c.loop-i-test.false)) c.loop-i.invariant

pub offset_bounds-records-i : goal.offset_bounds-records-i
offset_bounds-records-i g c = record { fits = offset_fits c.loop-i.i (length c.args.nodes.now) (length c.args.records.now) _ c.loop-i-test.true c.requires.each c.well_formed.1.0.1 }
