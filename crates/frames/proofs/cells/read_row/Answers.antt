use Rattle.std.proofs.Common.{◌≡◌, ◌<◌, ◌+◌, ◌-◌, ◌*◌, ◌/◌, ℕ, List, get_or, length, take, drop, sym, ap, ◌∙◌, arith, map, set, replicate, ◌++◌, refl, lit<, inl, inr}
use Rattle.std.proofs.lemmas.List.{length-map}
use Rattle.std.specs.Int.{w16, from_be_bytes}
use Rattle.node_grid.specs.ListFacts.{two_long}
use Rattle.node_grid.specs.NumberFacts.{two_within, two_more}
use Rattle.frames.specs.Reading.{pieces_of_width, piece}
use Rattle.frames.specs.PieceLaws.{length-cut, read_at}
use Rattle.frames.specs.EntryLaws.{row_in_more}
use Rattle.frames.proofs.cells.read_row.Goals as goal

pub loop-j-preserved : goal.loop-j-preserved
loop-j-preserved g c =
    let masks : List ℕ = map (from_be_bytes w16) (pieces_of_width 2 c.args.bytes.now) in
    let n : length masks ≡ length c.args.bytes.now / 2 = length-map (pieces_of_width 2 c.args.bytes.now) (from_be_bytes w16) ∙ length-cut 2 c.args.bytes.now in
    let l : c.loop-j.j < length c.args.bytes.now / 2 = omega (arith, c.requires.whole) in
    let two : 2 * c.loop-j.j + 2 - 2 * c.loop-j.j ≡ 2 = omega arith in
    let mask : c.copy_from_slice.new.self ≡ piece 2 c.args.bytes.now c.loop-j.j = c.copy_from_slice.ensures.after ∙ ap (λ (n : ℕ). take n (drop (2 * c.loop-j.j) c.args.bytes.now)) two in
    let v : c.from_be_bytes.result ≡ get_or masks c.loop-j.j 0 = c.from_be_bytes.ensures ∙ ap (from_be_bytes w16) mask ∙ sym (read_at 2 (from_be_bytes w16) c.args.bytes.now c.loop-j.j 0 l) in
    ap (λ xs. set xs c.loop-j.j c.from_be_bytes.result) c.loop-j.invariant
    ∙ row_in_more g.row.N masks c.loop-j.j c.from_be_bytes.result (omega arith) (omega (arith, c.requires.nodes)) v

pub bounds-row-inside-j : goal.bounds-row-inside-j
bounds-row-inside-j g c = omega (arith, c.loop-j-test.true, c.requires.nodes)

pub copy_from_slice-requires : goal.copy_from_slice-requires
copy_from_slice-requires g c = two_long c.loop-j.j c.args.nodes c.args.bytes.now c.loop-j-test.true c.requires.whole

pub from_be_bytes-requires : goal.from_be_bytes-requires
from_be_bytes-requires g c = tt

pub loop-j-init : goal.loop-j-init
loop-j-init g c = c.row.view_is ∙ c.zero-row.ensures ∙ ap (λ n. replicate n 0) (omega arith)

pub loop-j-smaller : goal.loop-j-smaller
loop-j-smaller g c = omega (arith, c.loop-j-test.true)

pub offset_bounds-row-inside-j : goal.offset_bounds-row-inside-j
offset_bounds-row-inside-j g c = omega (arith, c.loop-j-test.true, c.ranges.nodes.fits)

pub overflow_add-j : goal.overflow_add-j
overflow_add-j g c = omega (arith, c.loop-j-test.true, c.ranges.nodes.fits)

pub overflow_mul-j : goal.overflow_mul-j
overflow_mul-j g c = omega (arith, c.loop-j-test.true, c.ranges.nodes.fits)

pub overflow_mul-j-in-loop-j : goal.overflow_mul-j-in-loop-j
overflow_mul-j-in-loop-j g c = omega (arith, c.loop-j-test.true, c.ranges.nodes.fits)

pub returns : goal.returns
returns g c =
    let masks : List ℕ = map (from_be_bytes w16) (pieces_of_width 2 c.args.bytes.now) in
    let all : c.loop-j.j ≡ c.args.nodes = omega (arith, c.loop-j-test.false, c.loop-j.auto.j-end) in
    c.loop-j.invariant ∙ ap (λ n. take n masks ++ replicate (g.row.N - n) 0) all

pub slice_bounds-copy_from_slice-count : goal.slice_bounds-copy_from_slice-count
slice_bounds-copy_from_slice-count g c = two_more c.loop-j.j

pub slice_bounds-copy_from_slice-end : goal.slice_bounds-copy_from_slice-end
slice_bounds-copy_from_slice-end g c = refl

pub slice_bounds-copy_from_slice-end-in-loop-j : goal.slice_bounds-copy_from_slice-end-in-loop-j
slice_bounds-copy_from_slice-end-in-loop-j g c = two_within c.loop-j.j c.args.nodes (length c.args.bytes.now) c.loop-j-test.true c.requires.whole

pub slice_bounds-copy_from_slice-start : goal.slice_bounds-copy_from_slice-start
slice_bounds-copy_from_slice-start g c = two_more c.loop-j.j

pub zero-row-requires : goal.zero-row-requires
zero-row-requires g c = elim g.bound-1.eight_or_sixteen [ inl e ↦ rw e (lit< tt) | inr e ↦ rw e (lit< tt) ]
