-- What it says of a line that it is in range, and where the cells of its frames lie.
use Rattle.node_grid.specs.ListLaws.{all_at}
use Rattle.std.proofs.Common.{◌≡◌, ℕ, ◌+◌, ◌*◌, ◌^◌, ◌<◌, ◌≤◌, true, false, List, length, min, Fits, w16, w32, w64, subst, sym, arith, ltb-true, leb-true}
use Rattle.std.specs.Prelude.{nat_lt}
use Rattle.std.proofs.lemmas.Bool.{and_parts, not-true}
use Rattle.std.proofs.lemmas.Nat.{mul-add-lt}
use Rattle.std.proofs.Math.Nat.{mul-le-mul}
use Rattle.node_grid.specs.NodeSet.{has_id}
use Rattle.fault_classes.specs.Line.{Line}
use Rattle.fault_classes.specs.Rules.{is_line, are_below, is_change}
use Rattle.fault_classes.specs.Cells.{IsShape}
use Rattle.node_grid.specs.CapacityLaws.{capacity-le}

pub below_from : (n : ℕ) (xs : List ℕ) (k : ℕ) → are_below n xs ≡ true → has_id xs k ≡ true → k < n
below_from n xs k h on = ltb-true k n (all_at (λ x. nat_lt x n) xs k (and_parts _ _ h).1 on)

some_from : (n : ℕ) (xs : List ℕ) → are_below n xs ≡ true → 0 < length xs
some_from n xs h = ltb-true 0 (length xs) (and_parts _ _ h).0

pub record LineFacts (nodes slots periods : ℕ) (l : Line) : Type 0 where
  pub from : l.from < nodes
  pub some : 0 < length l.to
  pub to : (j : ℕ) → has_id l.to j ≡ true → j < nodes
  pub other : has_id l.to l.from ≡ false
  pub ordered : l.first ≤ l.last
  pub last : l.last < periods
  pub some_slots : 0 < length l.slots
  pub in_slots : (s : ℕ) → has_id l.slots s ≡ true → s < slots
  pub change : is_change l.change ≡ true

pub line_facts : (nodes slots periods : ℕ) (l : Line) → is_line nodes slots periods l ≡ true → LineFacts nodes slots periods l
line_facts nodes slots periods l h =
    let a = and_parts _ _ h in
    let b = and_parts _ _ a.1 in
    let d = and_parts _ _ b.1 in
    let e = and_parts _ _ d.1 in
    let f = and_parts _ _ e.1 in
    let i = and_parts _ _ f.1 in
    record {
      from = ltb-true l.from nodes a.0;
      some = some_from nodes l.to b.0;
      to = λ j on. below_from nodes l.to j b.0 on;
      other = not-true (has_id l.to l.from) d.0;
      ordered = leb-true l.first l.last e.0;
      last = ltb-true l.last periods f.0;
      some_slots = some_from slots l.slots i.0;
      in_slots = λ s on. below_from slots l.slots s i.0 on;
      change = i.1;
    }

pub block_small : (p nodes i periods : ℕ) → p < periods → i < nodes → nodes ≤ 16 → periods ≤ 1024 → p * nodes + i < 2 ^ 20
block_small p nodes i periods hp hi few runs =
    let a : p * nodes + i < nodes * periods = mul-add-lt p nodes i periods hp hi in
    let b : nodes * periods ≤ 16 * 1024 = mul-le-mul few runs in
    omega (arith, a, b)

pub block_fits : (p nodes i slots periods : ℕ) → p < periods → i < nodes → ((p * nodes + i) * slots + slots) * nodes ≤ periods * nodes * slots * nodes
block_fits p nodes i slots periods hp hi =
    let a : p * nodes + i < nodes * periods = mul-add-lt p nodes i periods hp hi in
    let b : (p * nodes + i + 1) * slots ≤ (periods * nodes) * slots = mul-le-mul {n₁ = p * nodes + i + 1} {m₁ = slots} {n₂ = periods * nodes} {m₂ = slots} (omega arith) (omega arith) in
    let d : (p * nodes + i) * slots + slots ≤ (periods * nodes) * slots = omega (arith, b) in
    mul-le-mul {n₁ = (p * nodes + i) * slots + slots} {m₁ = nodes} {n₂ = periods * nodes * slots} {m₂ = nodes} d (omega arith)

pub whole_small : (nodes slots periods : ℕ) → nodes ≤ 16 → slots ≤ 10 → periods ≤ 1024 → periods * nodes * slots * nodes < 2 ^ 32
whole_small nodes slots periods a b d =
    let x : periods * nodes ≤ 1024 * 16 = mul-le-mul d a in
    let y : periods * nodes * slots ≤ 1024 * 16 * 10 = mul-le-mul x b in
    let z : periods * nodes * slots * nodes ≤ 1024 * 16 * 10 * 16 = mul-le-mul y a in
    omega (arith, z)

pub few_nodes : (n nodes slots periods : ℕ) → IsShape n nodes slots periods → nodes ≤ 16
few_nodes n nodes slots periods h = omega (arith, capacity-le n h.capacity, h.few_nodes)

-- the sizes in the code
pub counts_fit : (n nodes slots periods : ℕ) → IsShape n nodes slots periods → Fits w64 (periods * nodes) × Fits w64 (periods * nodes * slots) × Fits w64 (periods * nodes * slots * nodes)
counts_fit n nodes slots periods h =
    let few : nodes ≤ 16 = few_nodes n nodes slots periods h in
    let x : periods * nodes ≤ 1024 * 16 = mul-le-mul h.few_periods few in
    let y : periods * nodes * slots ≤ 1024 * 16 * 10 = mul-le-mul x h.few_slots in
    let z : periods * nodes * slots * nodes ≤ 1024 * 16 * 10 * 16 = mul-le-mul y few in
    (omega (arith, x), omega (arith, y), omega (arith, z))

pub row_fits : (block slots slot : ℕ) → block < 2 ^ 20 → slots ≤ 10 → slot < slots → Fits w64 (block * slots) × Fits w64 (block * slots + slot)
row_fits block slots slot small few low =
    let x : block * slots ≤ 1048576 * 10 = mul-le-mul {n₁ = block} {m₁ = slots} {n₂ = 1048576} {m₂ = 10} (omega arith) few in
    (omega (arith, x), omega (arith, x))

pub row_within : (block slots slot nodes n : ℕ) → slot < slots → (block * slots + slots) * nodes ≤ n → (block * slots + slot) * nodes + nodes ≤ n
row_within block slots slot nodes n low all =
    let x : (block * slots + slot + 1) * nodes ≤ (block * slots + slots) * nodes =
    mul-le-mul {n₁ = block * slots + slot + 1} {m₁ = nodes} {n₂ = block * slots + slots} {m₂ = nodes} (omega arith) (omega arith) in
    omega (arith, x, all)

pub place_fits : (k n : ℕ) → k < n → n < 2 ^ 32 → Fits w32 k
place_fits k n low few = omega arith

pub mark_fits : (k m : ℕ) → m ≡ min k 4096 → Fits w16 m × Fits w16 (m + 1)
mark_fits k m e = (omega arith, omega arith)

pub few_items : {X : Type 0} (xs ys : List X) (n : ℕ) → xs ≡ ys → length ys < n → length xs < n
few_items xs ys n e h = subst (λ zs. length zs < n) (sym e) h
