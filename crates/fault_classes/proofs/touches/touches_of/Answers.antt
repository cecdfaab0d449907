use Rattle.std.proofs.Common.{ℕ, ◌*◌, ◌/◌, ◌%◌, ◌<◌, ◌≤◌, List, map, ap, ◌∙◌, arith, lit<, subst}
use Rattle.std.specs.List.{list_any}
use Rattle.std.proofs.lemmas.Nat.{mod_below}
use Rattle.std.proofs.Math.Nat.{div-lt_iff_lt-mul}
use Rattle.node_grid.specs.NodeSet.{has_id}
use Rattle.node_grid.specs.NodeSetLaws.{has-filter}
use Rattle.fault_classes.specs.declared.blocks.Blocks.{Blocks}
use Rattle.fault_classes.specs.Line.{Line, line_of}
use Rattle.fault_classes.specs.Blocks.{AreBlocks, is_in}
use Rattle.fault_classes.specs.Cells.{touches_sender, touches_block}
use Rattle.fault_classes.specs.Touches.{IsTouched}
use Rattle.fault_classes.proofs.Placing.{numbered_of}
use Rattle.fault_classes.proofs.touches.touches_of.Goals as goal

period_low : (k nodes periods : ℕ) → 0 < nodes → k < periods * nodes → k / nodes < periods
period_low k nodes periods some h = (div-lt_iff_lt-mul some).1 h

-- the blocks of the senders in the sets are those of the senders that lines touch
line_blocks : (n nodes periods : ℕ) (lines : List Line) (sets : List (List ℕ)) (blocks : Blocks) → 0 < nodes → nodes ≤ n → IsTouched n periods lines sets → AreBlocks (is_in nodes sets) nodes periods blocks
    → AreBlocks (λ k. list_any (touches_block nodes k) lines) nodes periods blocks
line_blocks n nodes periods lines sets blocks some within t b = record {
  long = b.long;
  numbered = numbered_of (is_in nodes sets) (λ k. list_any (touches_block nodes k) lines) (periods * nodes) blocks.numbers.items blocks.last b.numbered
      (λ k low on.
      let sender : k % nodes < nodes = mod_below k nodes some in
      ap (λ (s : List ℕ). has_id s (k % nodes)) (t.members (k / nodes) (period_low k nodes periods some low))
      ∙ has-filter (λ i. list_any (touches_sender (k / nodes) i) lines) n (k % nodes) (omega arith) ∙ on);
}

pub cells_of-requires : goal.cells_of-requires
cells_of-requires g c =
    let n = c.args.shape.now.nodes in
    let t = c.args.shape.now.periods in
    let h = c.requires.shape in
    let blocks : AreBlocks (is_in n c.in-Ok.senders.items) n t c.in-Ok-blocks_of.blocks = subst (λ s. AreBlocks (is_in n s) n t c.in-Ok-blocks_of.blocks) c.as_slice.ensures.value c.in-Ok-blocks_of.ensures in (
      lit< tt,
      (
        h,
        (
          line_blocks g.row.N n t (map line_of c.args.lines.now) c.in-Ok.senders.items c.in-Ok-blocks_of.blocks (omega (arith, h.some_nodes)) h.few_nodes c.in-Ok.ensures blocks,
          (c.requires.few, c.requires.lines),
        ),
      ),
    )

pub returns : goal.returns
returns g c =
    let n = c.args.shape.now.nodes in
    let t = c.args.shape.now.periods in
    let h = c.requires.shape in
    let blocks : AreBlocks (is_in n c.in-Ok.senders.items) n t c.in-Ok-blocks_of.blocks = subst (λ s. AreBlocks (is_in n s) n t c.in-Ok-blocks_of.blocks) c.as_slice.ensures.value c.in-Ok-blocks_of.ensures in (
      record {
        senders = c.in-Ok.ensures;
        blocks = line_blocks g.row.N n t (map line_of c.args.lines.now) c.in-Ok.senders.items c.in-Ok-blocks_of.blocks (omega (arith, h.some_nodes)) h.few_nodes c.in-Ok.ensures blocks;
        table = c.in_ok-cells.ensures.0;
      },
      c.in_ok-cells.ensures.1,
    )
