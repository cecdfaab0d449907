use Rattle.std.proofs.Common.{◌≡◌, ℕ, zero, suc, ◌+◌, ◌*◌, ◌<◌, ◌≤◌, None, replicate, [], ◌∷◌, ◌++◌, true, false, List, inr, map, length, take, drop, get_or, sym, ap, ◌∙◌, refl, Fits, w64, arith, lit<, subst}
use Rattle.std.specs.Prelude.{slice_index}
use Rattle.std.specs.List.{list_any}
use Rattle.std.proofs.lemmas.List.{length-map, length-take-le, length-replicate, take-append-le, take_all, drop_all}
use Rattle.node_grid.specs.NumberFacts.{fewer_left}
use Rattle.fault_classes.specs.Line.{Line, line_of, shares}
use Rattle.fault_classes.specs.Rules.{is_line, first_overlap}
use Rattle.fault_classes.specs.Cells.{IsTable, touches_block, touches_cell, place_at, mark_of, IsMarked, IsShape}
use Rattle.fault_classes.specs.declared.blocks.Blocks.{Blocks}
use Rattle.fault_classes.specs.Blocks.{AreBlocks}
use Rattle.fault_classes.proofs.Placing.{numbered_of, table_small}
use Rattle.fault_classes.proofs.Entries.{entry_none, table_push, apart_if_marked, overlaps_if_taken, all_taken, all_here, any_here}
use Rattle.fault_classes.proofs.Places.{line_at, rest_at, front_at}
use Rattle.fault_classes.proofs.Ranges.{few_nodes, place_fits, mark_fits}
use Rattle.fault_classes.proofs.cells.cells_of.Goals as goal

none_put : (nodes slots : ℕ) (blocks : Blocks) (cells : List ℕ) → cells ≡ replicate ((blocks.last + 1) * slots * nodes) 0 → IsTable nodes slots blocks [] cells
none_put nodes slots blocks cells e = record {
  whole = ap length e ∙ length-replicate ((blocks.last + 1) * slots * nodes) 0;
  entries = λ c. ap (λ xs. slice_index xs (place_at nodes slots blocks.numbers.items c)) e ∙ zeros ((blocks.last + 1) * slots * nodes) (place_at nodes slots blocks.numbers.items c)
      ∙ sym (entry_none (touches_cell nodes slots c) [] refl);
}
  where
    zeros : (n c : ℕ) → slice_index (replicate n 0) c ≡ 0
    zeros zero c = refl
    zeros (suc n) zero = refl
    zeros (suc n) (suc c) = zeros n c

all_put : (nodes slots : ℕ) (blocks : Blocks) (lines : List Line) (k : ℕ) (cells : List ℕ) → length lines ≤ k → IsTable nodes slots blocks (take k lines) cells → first_overlap [] lines ≡ first_overlap (take k lines) (drop k lines)
    → IsTable nodes slots blocks lines cells × (first_overlap [] lines ≡ None)
all_put nodes slots blocks lines k cells past table apart =
    (subst (λ xs. IsTable nodes slots blocks xs cells) (take_all k lines past) table, apart ∙ ap (first_overlap (take k lines)) (drop_all k lines past))

written : (new old : List ℕ) (n : ℕ) → length new ≡ length old → length old ≡ n → take n (new ++ drop (length new) old) ≡ new
written new old n a b = take-append-le n new (drop (length new) old) (omega arith) ∙ take_all n new (omega arith)

-- the blocks of all lines serve the line at place k
line_blocks : (nodes periods : ℕ) (blocks : Blocks) (lines : List Line) (k : ℕ) (l : Line) → k < length lines → get_or lines k l ≡ l → AreBlocks (λ b. list_any (touches_block nodes b) lines) nodes periods blocks
    → AreBlocks (λ b. touches_block nodes b l) nodes periods blocks
line_blocks nodes periods blocks lines k l many at b = record {
  long = b.long;
  numbered = numbered_of (λ d. list_any (touches_block nodes d) lines) (λ d. touches_block nodes d l) (periods * nodes) blocks.numbers.items blocks.last b.numbered
      (λ d low on. any_here (touches_block nodes d) lines k l many (ap (touches_block nodes d) at ∙ on));
}

pub mark_line-requires : goal.mark_line-requires
mark_line-requires g c =
    let n = c.args.shape.now.nodes in
    let s = c.args.shape.now.slots in
    let t = c.args.shape.now.periods in
    let x = c.index-lines-place.result in
    let at : get_or (map line_of c.args.lines.now) c.loop-place.place (line_of x) ≡ line_of x = line_at c.args.lines.now c.loop-place.place x c.loop-place-test.true c.index-lines-place.is in
    let many : c.loop-place.place < length (map (line_of {n = g.row.N}) c.args.lines.now) = omega (arith, length-map c.args.lines.now (line_of {n = g.row.N})) in (
      lit< tt,
      (
        c.requires.shape,
        (
          line_blocks n t c.args.blocks.now (map line_of c.args.lines.now) c.loop-place.place (line_of x) many at c.requires.blocks,
          (
            ap (is_line n s t) (sym at) ∙ all_here (is_line n s t) (map line_of c.args.lines.now) c.loop-place.place (line_of x) many c.requires.lines,
            ap length c.as_mut_slice.ensures.value ∙ c.loop-place.invariant.table.whole,
          ),
        ),
      ),
    )

pub returns-then-not-mark_line : goal.returns-then-not-mark_line
returns-then-not-mark_line g c =
    let n = c.args.shape.now.nodes in
    let s = c.args.shape.now.slots in
    let t = c.args.shape.now.periods in
    let b = c.args.blocks.now in
    let x = c.index-lines-place.result in
    let k = c.loop-place.place in
    let all : List Line = map line_of c.args.lines.now in
    let many : k < length all = omega (arith, length-map c.args.lines.now (line_of {n = g.row.N})) in
    let rest : drop k all ≡ line_of x ∷ drop (k + 1) all = rest_at c.args.lines.now k x c.loop-place-test.true c.index-lines-place.is in
    let some : list_any (shares (line_of x)) (take k all) ≡ true = overlaps_if_taken n s b (take k all) (line_of x) c.as_mut_slice.result.now
    (subst (λ v. IsTable n s b (take k all) v) (sym c.as_mut_slice.ensures.value) c.loop-place.invariant.table) c.if-not-mark_line.ensures
    in
    let place : length (take k all) ≡ k = length-take-le k all (omega arith) in
    inr (k, refl, c.loop-place.invariant.apart ∙ ap (first_overlap (take k all)) rest ∙ rw (some, place) refl)

pub loop-place-preserved : goal.loop-place-preserved
loop-place-preserved g c =
    let n = c.args.shape.now.nodes in
    let s = c.args.shape.now.slots in
    let t = c.args.shape.now.periods in
    let b = c.args.blocks.now in
    let x = c.index-lines-place.result in
    let k = c.loop-place.place in
    let all : List Line = map line_of c.args.lines.now in
    let many : k < length all = omega (arith, length-map c.args.lines.now (line_of {n = g.row.N})) in
    let at : get_or all k (line_of x) ≡ line_of x = line_at c.args.lines.now k x c.loop-place-test.true c.index-lines-place.is in
    let rest : drop k all ≡ line_of x ∷ drop (k + 1) all = rest_at c.args.lines.now k x c.loop-place-test.true c.index-lines-place.is in
    let front : take (k + 1) all ≡ take k all ++ line_of x ∷ [] = front_at c.args.lines.now k x c.loop-place-test.true c.index-lines-place.is in
    let place : length (take k all) ≡ k = length-take-le k all (omega arith) in
    let old = c.as_mut_slice.result.now in
    let new = c.mark_line.new.cells in
    let table : IsTable n s b (take k all) old = subst (λ v. IsTable n s b (take k all) v) (sym c.as_mut_slice.ensures.value) c.loop-place.invariant.table in
    let marked : IsMarked (place_at n s b.numbers.items) (λ y. touches_cell n s y (line_of x)) (mark_of k) old new = subst (λ m. IsMarked (place_at n s b.numbers.items) (λ y. touches_cell n s y (line_of x)) (m + 1) old new) c.min.ensures c.if-not-mark_line.ensures in
    let ok : is_line n s t (line_of x) ≡ true = ap (is_line n s t) (sym at) ∙ all_here (is_line n s t) all k (line_of x) many c.requires.lines in
    let none : list_any (shares (line_of x)) (take k all) ≡ false = apart_if_marked n s t b (take k all) (line_of x) (mark_of k) old new table marked ok (all_taken (is_line n s t) all k c.requires.lines) in
    let next : IsTable n s b (take k all ++ line_of x ∷ []) new = table_push n s b (take k all) (line_of x) k old new table place marked in
    let items : take c.loop-place.cells.len (new ++ drop (length new) c.loop-place.cells.items) ≡ new =
    written new c.loop-place.cells.items c.loop-place.cells.len (omega (arith, marked.whole, ap length c.as_mut_slice.ensures.value)) (omega (arith, c.as_mut_slice.ensures.len, ap length c.as_mut_slice.ensures.value))
    in
    record {
      table = rw (items, front) next;
      apart = c.loop-place.invariant.apart ∙ ap (first_overlap (take k all)) rest ∙ rw (none, front) refl;
    }

pub loop-place-init : goal.loop-place-init
loop-place-init g c = record {
  table = none_put c.args.shape.now.nodes c.args.shape.now.slots c.args.blocks.now c.in-Ok.cells.items (c.in-Ok.ensures.items_if_clones_equal (λ y e. e));
  apart = refl;
}

pub overflow_cast-mark : goal.overflow_cast-mark
overflow_cast-mark g c = (mark_fits c.loop-place.place c.min.result c.min.ensures).0

pub overflow_add-mark : goal.overflow_add-mark
overflow_add-mark g c = (mark_fits c.loop-place.place c.min.result c.min.ensures).1

pub overflow_cast-result : goal.overflow_cast-result
overflow_cast-result g c = place_fits c.loop-place.place (length c.args.lines.now) c.loop-place-test.true c.requires.few

pub loop-place-smaller : goal.loop-place-smaller
loop-place-smaller g c = fewer_left (length c.args.lines.now) c.loop-place.place c.loop-place-test.true

pub returns : goal.returns
returns g c =
    all_put c.args.shape.now.nodes c.args.shape.now.slots c.args.blocks.now (map line_of c.args.lines.now) c.loop-place.place c.loop-place.cells.items
    (omega (arith, length-map c.args.lines.now (line_of {n = g.row.N}), c.loop-place-test.false)) c.loop-place.invariant.table c.loop-place.invariant.apart

sizes : (n nodes slots periods last : ℕ) → IsShape n nodes slots periods → last ≤ periods * nodes → Fits w64 (last + 1) × Fits w64 ((last + 1) * slots) × Fits w64 ((last + 1) * slots * nodes)
sizes n nodes slots periods last h few =
    let z = table_small last nodes slots periods few (few_nodes n nodes slots periods h) h.few_slots h.few_periods in
    (omega (arith, z.0), omega (arith, z.1), omega (arith, z.2))

pub overflow_add-count : goal.overflow_add-count
overflow_add-count g c = (sizes g.row.N c.args.shape.now.nodes c.args.shape.now.slots c.args.shape.now.periods c.args.blocks.now.last c.requires.shape c.requires.blocks.numbered.few).0

pub overflow_mul-count : goal.overflow_mul-count
overflow_mul-count g c = (sizes g.row.N c.args.shape.now.nodes c.args.shape.now.slots c.args.shape.now.periods c.args.blocks.now.last c.requires.shape c.requires.blocks.numbered.few).1

pub overflow_mul-count-2 : goal.overflow_mul-count-2
overflow_mul-count-2 g c = (sizes g.row.N c.args.shape.now.nodes c.args.shape.now.slots c.args.shape.now.periods c.args.blocks.now.last c.requires.shape c.requires.blocks.numbered.few).2
