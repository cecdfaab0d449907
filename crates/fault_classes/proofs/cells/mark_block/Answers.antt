use Rattle.std.proofs.Common.{◌≡◌, ℕ, ◌+◌, ◌*◌, ◌<◌, ◌≤◌, ◌^◌, true, false, length, sym, subst, arith, lit<}
use Rattle.node_grid.specs.NodeSet.{has_id}
use Rattle.node_grid.specs.NumberFacts.{fewer_left}
use Rattle.fault_classes.specs.Line.{slots_in}
use Rattle.fault_classes.specs.Cells.{in_row, in_block}
use Rattle.fault_classes.proofs.Marking.{marked_more, marked_same, taken_later}
use Rattle.fault_classes.proofs.Touching.{slot_on, slot_off, block_below, block_yes, block_no, block_here}
use Rattle.fault_classes.proofs.Ranges.{row_fits, row_within}
use Rattle.fault_classes.proofs.cells.mark_block.Goals as goal
use Rattle.fault_classes.proofs.cells.mark_block.Goals.{then-slots-slot-eq1+else-not-mark_row, else-slots-slot-eq1}

some_below : (n : ℕ) → 3 ≤ n → 0 < n
some_below n h = omega arith

pub returns-then-not-mark_row : goal.returns-then-not-mark_row
returns-then-not-mark_row g c =
    let n = c.args.shape.now.nodes in
    let s = c.args.shape.now.slots in
    let b = c.args.block in
    let to = c.args.line.now.to in
    let chosen = slots_in c.args.line.now.slots in
    let k = c.loop-slot.slot in
    let fits : c.args.line.now.slots < 2 ^ 16 = omega arith in
    let on : has_id chosen k ≡ true = slot_on c.args.line.now.slots k fits c.if-slots-slot-eq1.true in
    taken_later (block_below n s b to chosen k) (in_row n (b * s + k) to) (in_block n s b to chosen) c.args.mark c.args.cells.now c.loop-slot.cells
    c.loop-slot.invariant c.if-not-mark_row.ensures
    (λ x e. (block_here n s b to chosen k x c.loop-slot-test.true on e).0) (λ x e. (block_here n s b to chosen k x c.loop-slot-test.true on e).1)

pub loop-slot-preserved : goal.loop-slot-preserved
loop-slot-preserved g c =
    let n = c.args.shape.now.nodes in
    let s = c.args.shape.now.slots in
    let b = c.args.block in
    let to = c.args.line.now.to in
    let mask = c.args.line.now.slots in
    let k = c.loop-slot.slot in
    let fits : mask < 2 ^ 16 = omega arith in
    elim c.if-slots-slot-eq1.branch [
      | then-slots-slot-eq1+else-not-mark_row w ↦
          let on : has_id (slots_in mask) k ≡ true = slot_on mask k fits w.if-slots-slot-eq1.true in
          rw w.cells-is (marked_more (block_below n s b to (slots_in mask) k) (in_row n (b * s + k) to) (block_below n s b to (slots_in mask) (k + 1)) c.args.mark c.args.cells.now c.loop-slot.cells w.mark_row.new.cells
          c.loop-slot.invariant w.if-not-mark_row.ensures (λ x. block_yes n s b to (slots_in mask) k x c.loop-slot-test.true on))
      | else-slots-slot-eq1 w ↦
          let off : has_id (slots_in mask) k ≡ false = slot_off mask k fits w.if-slots-slot-eq1.false in
          rw w.cells-is (marked_same (block_below n s b to (slots_in mask) k) (block_below n s b to (slots_in mask) (k + 1)) c.args.mark c.args.cells.now c.loop-slot.cells
          c.loop-slot.invariant (λ x. block_no n s b to (slots_in mask) k x off))
    ]

pub overflow_mul-row : goal.overflow_mul-row
overflow_mul-row g c = (row_fits c.args.block c.args.shape.now.slots c.loop-slot.slot c.requires.small c.requires.shape.few_slots c.loop-slot-test.true).0

pub overflow_add-row : goal.overflow_add-row
overflow_add-row g c = (row_fits c.args.block c.args.shape.now.slots c.loop-slot.slot c.requires.small c.requires.shape.few_slots c.loop-slot-test.true).1

pub mark_row-requires : goal.mark_row-requires
mark_row-requires g c =
    let s = c.args.shape.now in (
      lit< tt,
      (
        subst (λ n. n < 2 ^ 32) (sym c.loop-slot.auto.cells) c.requires.few,
        (
          subst (λ n. (c.args.block * s.slots + c.loop-slot.slot) * s.nodes + s.nodes ≤ n) (sym c.loop-slot.auto.cells)
              (row_within c.args.block s.slots c.loop-slot.slot s.nodes (length c.args.cells.now) c.loop-slot-test.true c.requires.within),
          some_below s.nodes c.requires.shape.some_nodes,
        ),
      ),
    )

pub loop-slot-smaller : goal.loop-slot-smaller
loop-slot-smaller g c = fewer_left c.args.shape.now.slots c.loop-slot.slot c.loop-slot-test.true

pub overflow_shr-slots : goal.overflow_shr-slots
overflow_shr-slots g c = let t = c.loop-slot-test.true in let f = c.requires.shape.few_slots in omega arith

pub overflow_cast-slot : goal.overflow_cast-slot
overflow_cast-slot g c = let t = c.loop-slot-test.true in let f = c.requires.shape.few_slots in omega arith

pub overflow_cast-row-then-slots-slot-eq1 : goal.overflow_cast-row-then-slots-slot-eq1
overflow_cast-row-then-slots-slot-eq1 g c = let t = c.loop-slot-test.true in let f = c.requires.shape.few_slots in omega arith
