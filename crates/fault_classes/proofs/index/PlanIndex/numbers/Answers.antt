use Rattle.std.proofs.Common.{◌≡◌, ℕ, ◌+◌, ◌-◌, ◌*◌, ◌^◌, ◌<◌, ◌≤◌, Bool, List, map, length, take, drop, sym, ap, ◌∙◌, Fits, w64, arith}
use Rattle.std.specs.Prelude.{slice_index}
use Rattle.std.proofs.lemmas.List.{get_or_read, get_or-take, get_or-drop}
use Rattle.std.proofs.lemmas.Nat.{mul-add-lt}
use Rattle.std.proofs.Math.Nat.{mul_comm, mul-le-mul}
use Rattle.fault_classes.specs.declared.blocks.Blocks.{Blocks}
use Rattle.fault_classes.specs.Line.{Line, touches, line_of, effect_at}
use Rattle.slot_plan.specs.Slots.{slot_count}
use Rattle.fault_classes.specs.Plan.{Plan}
use Rattle.fault_classes.specs.Blocks.{AreBlocks}
use Rattle.fault_classes.specs.Cells.{IsShape, IsTable, cell_at, place_at, entry_of, touches_cell}
use Rattle.fault_classes.proofs.Entries.{cell_digits, same_entry, same_from_entries}
use Rattle.fault_classes.proofs.Placing.{place_of_cell, cell_within, table_small}
use Rattle.fault_classes.proofs.Ranges.{few_nodes, row_fits}
use Rattle.fault_classes.proofs.index.PlanIndex.numbers.Goals as goal

-- where a row and its block lie, and that the sizes fit
record Sizes (nodes slots : ℕ) (blocks : Blocks) (cells : List ℕ) (p s i : ℕ) : Type 0 where
  pair : p * nodes + i < length blocks.numbers.items
  few : p * nodes + i < 16384
  row : (b : ℕ) → b ≡ slice_index blocks.numbers.items (p * nodes + i) → Fits w64 (b * slots) × Fits w64 (b * slots + s)
  cell : (b j : ℕ) → b ≡ slice_index blocks.numbers.items (p * nodes + i) → j < nodes → (b * slots + s) * nodes + j < length cells
  small : length cells < 2 ^ 32

sizes : (n nodes slots periods a b d p s i : ℕ) (blocks : Blocks) (wanted : ℕ → Bool) (lines : List Line) (cells : List ℕ) → IsShape n nodes slots periods → AreBlocks wanted nodes periods blocks
    → IsTable nodes slots blocks lines cells → nodes ≡ a → slots ≡ b → periods ≡ d → p < d → s < b → i < a → Sizes nodes slots blocks cells p s i
sizes n nodes slots periods a b d p s i blocks wanted lines cells h laid table en es ep hp hs hi =
    let few : nodes ≤ 16 = few_nodes n nodes slots periods h in
    let low : p * nodes + i < nodes * periods = mul-add-lt p nodes i periods (omega arith) (omega arith) in
    let wide : nodes * periods ≡ periods * nodes = mul_comm nodes periods in
    let small = table_small blocks.last nodes slots periods laid.numbered.few few h.few_slots h.few_periods in
    let all : periods * nodes ≤ 16384 = mul-le-mul {n₁ = periods} {m₁ = nodes} {n₂ = 1024} {m₂ = 16} h.few_periods few in
    let within : slice_index blocks.numbers.items (p * nodes + i) ≤ blocks.last = laid.numbered.within (p * nodes + i) in
    record {
      pair = omega (arith, low, wide, laid.long);
      few = omega (arith, low, wide, all);
      row = λ k e. row_fits k slots s (omega (arith, e, within, small.0)) h.few_slots (omega arith);
      cell = λ k j e hj. let c = cell_within k blocks.last nodes slots s j (omega (arith, e, within)) (omega arith) hj in omega (arith, c, table.whole);
      small = omega (arith, table.whole, small.2);
    }

-- a cell of a row is one of all
in_row : (xs : List ℕ) (start n k : ℕ) → k < n → slice_index (take (start + n - start) (drop start xs)) k ≡ slice_index xs (start + k)
in_row xs start n k h = get_or-take (start + n - start) (drop start xs) k 0 (omega (arith, h)) ∙ get_or-drop start xs k 0

pub slice_bounds-result-end : goal.slice_bounds-result-end
slice_bounds-result-end g c =
    let x = c.self.inside in
    let n = x.shape.nodes in
    let b = x.touches.blocks.numbers.items in
    let t = c.self.invariant.touched in
    let r = c.index-block.result.now in
    let nodes : n ≡ c.args.self.now.nodes = ap (λ (q : Plan). q.nodes) c.self.view_is in
    let z = sizes g.row.N n x.shape.slots x.shape.periods _ _ _ c.args.period c.args.slot c.args.from x.touches.blocks _ (map line_of x.lines.items) x.touches.cells.items c.self.invariant.shape t.blocks t.table
    nodes (c.self.invariant.all_slots ∙ ap (λ (q : Plan). slot_count q.rounds) c.self.view_is) (ap (λ (q : Plan). q.periods) c.self.view_is)
    c.requires.period c.requires.slot c.requires.from
    in
    let block : r ≡ slice_index b (c.args.period * n + c.args.from) = get_or_read b (c.args.period * n + c.args.from) r z.pair c.index-block.ensures 0 in
    let some : n - 1 < n = omega (arith, nodes, c.requires.from) in
    let last = z.cell r (n - 1) block some in
    let whole : length c.deref.result.now ≡ length x.touches.cells.items = ap length c.deref.ensures.value in
    omega (arith, last, some, whole)

pub returns-clause-entries : goal.returns-clause-entries
returns-clause-entries g c j low =
    let x = c.self.inside in
    let p = c.args.period in
    let s = c.args.slot in
    let i = c.args.from in
    let n = x.shape.nodes in
    let k = x.shape.slots in
    let b = x.touches.blocks.numbers.items in
    let cells = x.touches.cells.items in
    let t = c.self.invariant.touched in
    let nodes : n ≡ c.args.self.now.nodes = ap (λ (p : Plan). p.nodes) c.self.view_is in
    let slots : k ≡ slot_count c.args.self.now.rounds = c.self.invariant.all_slots ∙ ap (λ (p : Plan). slot_count p.rounds) c.self.view_is in
    let lines : map line_of x.lines.items ≡ c.args.self.now.lines = ap (λ (p : Plan). p.lines) c.self.view_is in
    let hs : s < k = omega arith in
    let hi : i < n = omega arith in
    let hj : j < n = omega (arith, low, nodes) in
    let z = sizes g.row.N n k x.shape.periods _ _ _ p s i x.touches.blocks _ (map line_of x.lines.items) cells c.self.invariant.shape t.blocks t.table
    nodes slots (ap (λ (q : Plan). q.periods) c.self.view_is) c.requires.period c.requires.slot c.requires.from
    in
    let r = c.index-block.result.now in
    let block : r ≡ slice_index b (p * n + i) = get_or_read b (p * n + i) r z.pair c.index-block.ensures 0 in
    let read : slice_index (take ((r * k + s) * n + n - (r * k + s) * n) (drop ((r * k + s) * n) c.deref.result.now)) j ≡ slice_index cells ((r * k + s) * n + j) =
    in_row c.deref.result.now ((r * k + s) * n) n j hj ∙ ap (λ xs. slice_index xs ((r * k + s) * n + j)) c.deref.ensures.value
    in
    let place : (r * k + s) * n + j ≡ place_at n k b (cell_at n k p s i j) = ap (λ d. (d * k + s) * n + j) block ∙ sym (place_of_cell n k b p s i j hs hj) in
    let same : entry_of (touches_cell n k (cell_at n k p s i j)) (map line_of x.lines.items) ≡ entry_of (touches p s i j) (map line_of x.lines.items) = same_entry (touches_cell n k (cell_at n k p s i j)) (touches p s i j) (map line_of x.lines.items) (cell_digits n k p s i j hs hi hj) in
    read ∙ ap (slice_index cells) place ∙ t.table.entries (cell_at n k p s i j) ∙ same ∙ ap (entry_of (touches p s i j)) lines

pub returns-clause-alike : goal.returns-clause-alike
returns-clause-alike g c one other hone hother equal =
    let xs : List Line = map line_of c.self.inside.lines.items in
    let lines : xs ≡ c.args.self.now.lines = ap (λ (p : Plan). p.lines) c.self.view_is in
    let test = touches c.args.period c.args.slot c.args.from in
    let e : entry_of (test one) xs ≡ entry_of (test other) xs =
    ap (entry_of (test one)) lines ∙ sym (returns-clause-entries g c one hone) ∙ equal ∙ returns-clause-entries g c other hother ∙ ap (entry_of (test other)) (sym lines)
    in
    ap (λ ls. effect_at ls c.args.period c.args.slot c.args.from one) (sym lines)
    ∙ same_from_entries c.args.period c.args.slot c.args.from one other xs c.self.invariant.few e
    ∙ ap (λ ls. effect_at ls c.args.period c.args.slot c.args.from other) lines
