use Rattle.std.proofs.Common.{ℕ, ◌≡◌, ◌<◌, ◌≤◌, ◌*◌, ◌^◌, map, length, get_or, inl, inr, lit<, refl, ap, ◌∙◌, arith}
use Rattle.std.proofs.lemmas.List.{length-map}
use Rattle.std.proofs.lemmas.Nat.{mul-le}
use Rattle.std.proofs.lemmas.List.Elements.{All-get_or, All-set}
use Rattle.node_steps.specs.Parts.{NodeView}
use Rattle.node_steps.specs.Steps.{frame_of}
use Rattle.cluster_record.specs.Buffers.{IsBuffer}
use Rattle.cluster_record.proofs.Taking.{bytes_of, at_node, fits, buffer_refilled, more_taken, all_taken}
use Rattle.cluster_record.proofs.record.taking.say_all.Goals as goal

-- the place of an element has a number
offset_fits : (i few many size : ℕ) → i < few → many ≡ few → many * size < 2 ^ 63 → i * size < 2 ^ 64
offset_fits i few many size low same fits = let m : i * size ≤ many * size = mul-le i size many size (omega (arith, low, same)) (omega arith) in omega (arith, m, fits)

pub offset_bounds-nodes-i : goal.offset_bounds-nodes-i
offset_bounds-nodes-i g c = omega (arith, c.loop-i-test.true)

pub bounds-nodes-i : goal.bounds-nodes-i
bounds-nodes-i g c = c.loop-i-test.true

pub bounds-frames-i : goal.bounds-frames-i
bounds-frames-i g c = omega (arith, c.loop-i-test.true, c.loop-i.auto.frames, c.requires.each)

pub loop-i-init : goal.loop-i-init
loop-i-init g c = (λ k low. absurd (omega (arith, low)), c.requires.buffers)

pub loop-i-smaller : goal.loop-i-smaller
loop-i-smaller g c = omega (arith, c.loop-i-test.true)

pub returns-clause-buffers : goal.returns-clause-buffers
returns-clause-buffers g c = c.loop-i.invariant.1

pub say-requires : goal.say-requires
say-requires g c =
    let h : IsBuffer c.args.room (get_or c.loop-i.frames c.loop-i.i c.index-frames-i.result) = All-get_or (IsBuffer c.args.room) c.loop-i.frames c.loop-i.i c.index-frames-i.result
    (omega (arith, c.loop-i-test.true, c.loop-i.auto.frames, c.requires.each)) c.loop-i.invariant.1 in
    let s = fits c.args.nodes.now c.loop-i.i c.args.room c.index-nodes-i.result c.index-nodes-i.result.arrived.frame_max c.loop-i-test.true c.index-nodes-i.is (omega arith) c.requires.short in (
      elim g.bound-1.eight_or_sixteen [ inl e ↦ rw e (lit< tt) | inr e ↦ rw e (lit< tt) ],
      (ap (λ (v : NodeView g.row.N). v.phase.is_open) c.index-nodes-i.is ∙ c.requires.open c.loop-i.i c.index-nodes-i.result c.loop-i-test.true, omega (arith, h.roomy, s)),
    )

pub loop-i-preserved : goal.loop-i-preserved
loop-i-preserved g c =
    let there : c.loop-i.i < length c.loop-i.frames = omega (arith, c.loop-i-test.true, c.loop-i.auto.frames, c.requires.each) in
    let s = fits c.args.nodes.now c.loop-i.i c.args.room c.index-nodes-i.result (length c.say.new.out.items) c.loop-i-test.true c.index-nodes-i.is c.say.ensures.short c.requires.short in (
      more_taken c.loop-i.frames c.loop-i.i c.say.new.out (map frame_of c.args.nodes.now) there
          (at_node c.args.nodes.now c.loop-i.i c.index-nodes-i.result c.say.new.out.items c.loop-i-test.true c.index-nodes-i.is c.say.ensures.bytes) c.loop-i.invariant.0,
      All-set (IsBuffer c.args.room) c.loop-i.frames c.loop-i.i c.say.new.out
          (buffer_refilled c.args.room (get_or c.loop-i.frames c.loop-i.i c.index-frames-i.result) c.say.new.out c.say.new.out.items (All-get_or (IsBuffer c.args.room) c.loop-i.frames c.loop-i.i c.index-frames-i.result there c.loop-i.invariant.1)
          c.say.ensures.room refl s) c.loop-i.invariant.1,
    )

pub returns-clause-bytes : goal.returns-clause-bytes
returns-clause-bytes g c =
    let long : length c.loop-i.frames ≡ length c.args.nodes.now = omega (arith, c.loop-i.auto.frames, c.requires.each) in
    let a : length (map bytes_of c.loop-i.frames) ≡ length c.loop-i.frames = length-map c.loop-i.frames bytes_of in
    let b : length (map frame_of c.args.nodes.now) ≡ length c.args.nodes.now = length-map c.args.nodes.now frame_of in
    all_taken (map bytes_of c.loop-i.frames) (map frame_of c.args.nodes.now) c.loop-i.i (omega (arith, a, b, long)) (omega (arith, a, long, c.loop-i-test.false)) c.loop-i.invariant.0

pub offset_bounds-frames-i : goal.offset_bounds-frames-i
offset_bounds-frames-i g c = record { fits = offset_fits c.loop-i.i (length c.args.nodes.now) (length c.args.frames.now) 24 c.loop-i-test.true c.requires.each c.well_formed.1.0.1 }
