use Rattle.std.proofs.Common.{◌≡◌, ◌+◌, ◌*◌, ◌<◌, true, false, sym, length, ◌∙◌, arith, lit<}
use Rattle.std.specs.Prelude.{◌==◌}
use Rattle.node_grid.specs.NodeSet.{has_id}
use Rattle.node_grid.specs.NumberFacts.{fewer_left}
use Rattle.fault_classes.specs.Cells.{in_row}
use Rattle.fault_classes.proofs.Marking.{digits_below, digits_yes, digits_no, digits_here, marked_more, marked_same, marked_cell, taken_cell, taken_later}
use Rattle.fault_classes.proofs.cells.mark_row.Goals as goal
use Rattle.fault_classes.proofs.cells.mark_row.Goals.{then-has+else-cells-cell-ne0, else-has}

pub returns-then-cells-cell-ne0 : goal.returns-then-cells-cell-ne0
returns-then-cells-cell-ne0 g c =
    let n = c.args.nodes in
    let r = c.args.row in
    let k = c.loop-id.id in
    let on : has_id c.args.to.now k ≡ true = sym c.has.ensures ∙ c.if-has.true in
    let h : k < n = c.loop-id-test.true in
    taken_later (digits_below (has_id c.args.to.now) n r k) (λ x. x == r * n + k) (in_row n r c.args.to.now) c.args.mark c.args.cells.now c.loop-id.cells
    c.loop-id.invariant (taken_cell (r * n + k) c.loop-id.cells c.if-cells-cell-ne0.true)
    (λ x e. (digits_here (has_id c.args.to.now) n r k x h on e).0) (λ x e. (digits_here (has_id c.args.to.now) n r k x h on e).1)

pub loop-id-preserved : goal.loop-id-preserved
loop-id-preserved g c =
    let n = c.args.nodes in
    let r = c.args.row in
    let k = c.loop-id.id in
    let to = c.args.to.now in
    let m = c.args.mark in
    let h : k < n = c.loop-id-test.true in
    let old = c.args.cells.now in
    let now = c.loop-id.cells in
    elim c.if-has.branch [
      | then-has+else-cells-cell-ne0 w ↦
          let on : has_id to k ≡ true = sym c.has.ensures ∙ w.if-has.true in
          let within : r * n + k < length now = omega arith in
          rw w.cells-is (marked_more (digits_below (has_id to) n r k) (λ x. x == r * n + k) (digits_below (has_id to) n r (k + 1)) m old now _
          c.loop-id.invariant (marked_cell (r * n + k) m now within w.if-cells-cell-ne0.false) (λ x. digits_yes (has_id to) n r k x h on))
      | else-has w ↦
          let off : has_id to k ≡ false = sym c.has.ensures ∙ w.if-has.false in
          rw w.cells-is (marked_same (digits_below (has_id to) n r k) (digits_below (has_id to) n r (k + 1)) m old now c.loop-id.invariant (λ x. digits_no (has_id to) n r k x off))
    ]

pub overflow_mul-start : goal.overflow_mul-start
overflow_mul-start g c = omega (arith, c.requires.within, c.requires.few)

pub has-requires : goal.has-requires
has-requires g c = lit< tt

pub overflow_cast-cell : goal.overflow_cast-cell
overflow_cast-cell g c = omega (arith, c.ranges.nodes, c.loop-id-test.true)

pub overflow_add-cell : goal.overflow_add-cell
overflow_add-cell g c = omega (arith, c.requires.within, c.requires.few, c.loop-id-test.true)

pub offset_bounds-cells-cell : goal.offset_bounds-cells-cell
offset_bounds-cells-cell g c = omega (arith, c.requires.within, c.requires.few, c.loop-id-test.true)

pub bounds-cells-cell : goal.bounds-cells-cell
bounds-cells-cell g c = omega (arith, c.requires.within, c.loop-id-test.true, c.loop-id.auto.cells)

pub offset_bounds-cells-cell-then-has : goal.offset_bounds-cells-cell-then-has
offset_bounds-cells-cell-then-has g c = omega (arith, c.requires.within, c.requires.few, c.loop-id-test.true)

pub bounds-cells-cell-then-has : goal.bounds-cells-cell-then-has
bounds-cells-cell-then-has g c = omega (arith, c.requires.within, c.loop-id-test.true, c.loop-id.auto.cells)

pub loop-id-smaller : goal.loop-id-smaller
loop-id-smaller g c = fewer_left c.args.nodes c.loop-id.id c.loop-id-test.true
