use Rattle.std.proofs.Common.{◌≡◌, ◌≢◌, ℕ, ◌+◌, ◌*◌, ◌/◌, ◌%◌, ◌<◌, ◌≤◌, true, length, sym, ap, ◌∙◌, refl, arith, lit<, subst}
use Rattle.std.specs.Prelude.{slice_index}
use Rattle.std.proofs.Common.{eq-eqb}
use Rattle.std.proofs.lemmas.Bool.{and_from, le-leb}
use Rattle.std.proofs.lemmas.List.{get_or_read}
use Rattle.std.proofs.lemmas.Nat.{div-mul-add, mod-mul-add, mul-add-lt}
use Rattle.std.proofs.Math.Nat.{mul_comm}
use Rattle.fault_classes.specs.declared.blocks.Blocks.{Blocks}
use Rattle.fault_classes.specs.Line.{Line, line_of}
use Rattle.fault_classes.specs.Rules.{is_line}
use Rattle.fault_classes.specs.Blocks.{AreBlocks}
use Rattle.fault_classes.specs.Cells.{IsMarked, IsTaken, itself, in_block, touches_block, touches_cell, place_at}
use Rattle.fault_classes.proofs.Marking.{marked_more, marked_same, taken_later}
use Rattle.fault_classes.proofs.Touching.{touched_before, line_step, line_all, line_here}
use Rattle.fault_classes.proofs.Placing.{marked_placed, taken_placed, block_within, table_small}
use Rattle.fault_classes.proofs.Ranges.{LineFacts, line_facts, few_nodes}
use Rattle.fault_classes.proofs.cells.mark_line.Goals as goal

-- the block of the line's sender in a period of the line
record Here (nodes slots periods : ℕ) (blocks : Blocks) (l : Line) (q : ℕ) : Type 0 where
  facts : LineFacts nodes slots periods l
  run : q < periods
  within : q * nodes + l.from < length blocks.numbers.items
  given : slice_index blocks.numbers.items (q * nodes + l.from) ≢ 0

here : (nodes slots periods : ℕ) (blocks : Blocks) (l : Line) (q : ℕ) → LineFacts nodes slots periods l → AreBlocks (λ k. touches_block nodes k l) nodes periods blocks → l.first ≤ q → q ≤ l.last
    → Here nodes slots periods blocks l q
here nodes slots periods blocks l q f b after before =
    let run : q < periods = omega (arith, f.last) in
    let low : q * nodes + l.from < nodes * periods = mul-add-lt q nodes l.from periods run f.from in
    let wide : nodes * periods ≡ periods * nodes = mul_comm nodes periods in
    let period : (q * nodes + l.from) / nodes ≡ q = div-mul-add q nodes l.from f.from in
    let sender : (q * nodes + l.from) % nodes ≡ l.from = mod-mul-add q nodes l.from f.from in
    let on : touches_block nodes (q * nodes + l.from) l ≡ true =
    rw (period, sender) (and_from _ _ (eq-eqb l.from l.from refl) (and_from _ _ (le-leb l.first q after) (le-leb q l.last before)))
    in
    record {
      facts = f;
      run = run;
      within = omega (arith, low, wide, b.long);
      given = b.numbered.given (q * nodes + l.from) (omega (arith, low, wide)) on;
    }

-- the same where the loop is
at_loop : (nodes slots periods : ℕ) (blocks : Blocks) (l : Line) (q : ℕ) → is_line nodes slots periods l ≡ true → AreBlocks (λ k. touches_block nodes k l) nodes periods blocks → l.first ≤ q → q < l.last + 1
    → Here nodes slots periods blocks l q
at_loop nodes slots periods blocks l q ok b after before = here nodes slots periods blocks l q (line_facts nodes slots periods l ok) b after (omega arith)

pub mark_block-requires : goal.mark_block-requires
mark_block-requires g c =
    let shape = c.args.shape.now in
    let n = shape.nodes in
    let s = shape.slots in
    let t = shape.periods in
    let b = c.args.blocks.now in
    let h = c.requires.shape in
    let l : Line = line_of c.args.line.now in
    let at = at_loop n s t b l c.loop-period.period c.requires.line c.requires.blocks c.loop-period.auto.period c.loop-period-test.true in
    let k : ℕ = c.loop-period.period * n + l.from in
    let block : c.index-block.result.now ≡ slice_index b.numbers.items k = get_or_read b.numbers.items k c.index-block.result.now at.within c.index-block.ensures 0 in
    let low : c.index-block.result.now ≤ b.last = omega (arith, block, c.requires.blocks.numbered.within k) in
    let small = table_small b.last n s t c.requires.blocks.numbered.few (few_nodes g.row.N n s t h) h.few_slots h.few_periods in
    let within : (c.index-block.result.now * s + s) * n ≤ (b.last + 1) * s * n = block_within c.index-block.result.now b.last n s low in
    let long : length c.loop-period.cells ≡ (b.last + 1) * s * n = c.loop-period.auto.cells ∙ c.requires.whole in
    (lit< tt, (h, (omega (arith, long, small.2), (omega (arith, low, small.0), omega (arith, within, long)))))

pub returns : goal.returns
returns g c =
    let n = c.args.shape.now.nodes in
    let s = c.args.shape.now.slots in
    let l : Line = line_of c.args.line.now in
    let f = line_facts n s c.args.shape.now.periods l c.requires.line in
    let past : c.loop-period.period ≡ l.last + 1 = omega (arith, f.ordered) in
    marked_same (touched_before n s c.loop-period.period l) (λ x. touches_cell n s x l) c.args.mark c.args.cells.now c.loop-period.cells c.loop-period.invariant
    (λ x. line_all n s l x ∙ ap (λ q. touched_before n s q l x) (sym past))

pub returns-then-not-mark_block : goal.returns-then-not-mark_block
returns-then-not-mark_block g c =
    let n = c.args.shape.now.nodes in
    let s = c.args.shape.now.slots in
    let b = c.args.blocks.now in
    let h = c.requires.shape in
    let l : Line = line_of c.args.line.now in
    let q = c.loop-period.period in
    let at = at_loop n s c.args.shape.now.periods b l q c.requires.line c.requires.blocks c.loop-period.auto.period c.loop-period-test.true in
    let k : ℕ = q * n + l.from in
    let block : c.index-block.result.now ≡ slice_index b.numbers.items k = get_or_read b.numbers.items k c.index-block.result.now at.within c.index-block.ensures 0 in
    let taken : IsTaken (place_at n s b.numbers.items) (in_block n s k l.to l.slots) c.loop-period.cells =
    taken_placed n s b.numbers.items (omega (arith, h.some_nodes)) (omega (arith, h.some_slots)) k l.to l.slots at.given c.requires.blocks.numbered.own c.loop-period.cells
    (subst (λ x. IsTaken itself (in_block n s x l.to l.slots) c.loop-period.cells) block c.if-not-mark_block.ensures)
    in
    taken_later (touched_before n s q l) (in_block n s k l.to l.slots) (λ x. touches_cell n s x l) c.args.mark c.args.cells.now c.loop-period.cells
    c.loop-period.invariant taken
    (λ x e. (line_here n s l q x at.facts.from c.loop-period.auto.period (omega arith) e).0) (λ x e. (line_here n s l q x at.facts.from c.loop-period.auto.period (omega arith) e).1)

pub loop-period-preserved : goal.loop-period-preserved
loop-period-preserved g c =
    let n = c.args.shape.now.nodes in
    let s = c.args.shape.now.slots in
    let b = c.args.blocks.now in
    let h = c.requires.shape in
    let l : Line = line_of c.args.line.now in
    let q = c.loop-period.period in
    let at = at_loop n s c.args.shape.now.periods b l q c.requires.line c.requires.blocks c.loop-period.auto.period c.loop-period-test.true in
    let k : ℕ = q * n + l.from in
    let block : c.index-block.result.now ≡ slice_index b.numbers.items k = get_or_read b.numbers.items k c.index-block.result.now at.within c.index-block.ensures 0 in
    let marked : IsMarked (place_at n s b.numbers.items) (in_block n s k l.to l.slots) c.args.mark c.loop-period.cells c.mark_block.new.cells =
    marked_placed n s b.numbers.items (omega (arith, h.some_nodes)) (omega (arith, h.some_slots)) k l.to l.slots at.given c.requires.blocks.numbered.own c.args.mark c.loop-period.cells c.mark_block.new.cells
    (subst (λ x. IsMarked itself (in_block n s x l.to l.slots) c.args.mark c.loop-period.cells c.mark_block.new.cells) block c.if-not-mark_block.ensures)
    in
    marked_more (touched_before n s q l) (in_block n s k l.to l.slots) (touched_before n s (q + 1) l) c.args.mark c.args.cells.now c.loop-period.cells c.mark_block.new.cells
    c.loop-period.invariant marked (λ x. line_step n s l q x at.facts.from c.loop-period.auto.period)

pub overflow_add-period-end : goal.overflow_add-period-end
overflow_add-period-end g c =
    let f = line_facts c.args.shape.now.nodes c.args.shape.now.slots c.args.shape.now.periods (line_of c.args.line.now) c.requires.line in
    omega (arith, f.last, c.requires.shape.few_periods)

pub loop-period-smaller : goal.loop-period-smaller
loop-period-smaller g c = let t = c.loop-period-test.true in omega arith
