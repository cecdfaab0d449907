-- The places of frames' cells in the blocks that their senders have, and the blocks' numbers one after the other.
use Rattle.std.proofs.Common.{◌≡◌, ◌≢◌, ℕ, ◌+◌, ◌*◌, ◌/◌, ◌%◌, ◌<◌, ◌≤◌, Bool, true, false, List, length, set, cond, refl, sym, ap, ◌∙◌, inl, inr, arith, eq-eqb, eqb-true, get_or-set_same, get_or-set_other}
use Rattle.std.specs.Prelude.{◌==◌, slice_index}
use Rattle.std.proofs.lemmas.Bool.{cases_eq, ne_eqb, and_parts, both_ways}
use Rattle.std.proofs.lemmas.Nat.{div-mul-add, mod-mul-add, mod_below, div-add-mod'}
use Rattle.std.proofs.Math.Nat.{mul-le-mul}
use Rattle.fault_classes.specs.Blocks.{IsNumbered}
use Rattle.fault_classes.specs.Cells.{IsMarked, IsTaken, itself, in_block, block_of, slot_of, cell_at, place_at}

-- ---- one sender more

pub none_numbered : (wanted : ℕ → Bool) (blocks : List ℕ) → ((k : ℕ) → slice_index blocks k ≡ 0) → IsNumbered wanted 0 blocks 0
none_numbered wanted blocks zero_at = record {
  few = omega arith;
  within = λ k. omega (arith, zero_at k);
  own = λ j k ne e. absurd (ne (zero_at j));
  given = λ k low on. absurd (omega (arith, low));
}

pub numbered_no : (wanted : ℕ → Bool) (n : ℕ) (blocks : List ℕ) (last : ℕ) → IsNumbered wanted n blocks last → wanted n ≡ false → IsNumbered wanted (n + 1) blocks last
numbered_no wanted n blocks last h off = record {
  few = omega (arith, h.few);
  within = h.within;
  own = h.own;
  given = λ k low on. elim (cases_eq k n) [
    | inl e ↦ absurd (both_ways (wanted n) off (ap wanted (sym e) ∙ on))
    | inr ne ↦ h.given k (omega arith) on
  ];
}

pub numbered_yes : (wanted : ℕ → Bool) (n : ℕ) (blocks : List ℕ) (last : ℕ) → IsNumbered wanted n blocks last → n < length blocks → IsNumbered wanted (n + 1) (set blocks n (last + 1)) (last + 1)
numbered_yes wanted n blocks last h room = record {
  few = omega (arith, h.few);
  within = λ k. elim (cases_eq k n) [
    | inl e ↦ omega (arith, here k e)
    | inr ne ↦ omega (arith, there k ne, h.within k)
  ];
  own = λ j k ne e. elim (cases_eq j n) [
    | inl a ↦ elim (cases_eq k n) [
      | inl b ↦ a ∙ sym b
      | inr b ↦ absurd (omega (arith, here j a, there k b, h.within k, e))
    ]
    | inr a ↦ elim (cases_eq k n) [
      | inl b ↦ absurd (omega (arith, here k b, there j a, h.within j, e))
      | inr b ↦ h.own j k (λ z. ne (there j a ∙ z)) (sym (there j a) ∙ e ∙ there k b)
    ]
  ];
  given = λ k low on. elim (cases_eq k n) [
    | inl e ↦ λ z. absurd (omega (arith, here k e, z))
    | inr ne ↦ λ z. h.given k (omega arith) on (sym (there k ne) ∙ z)
  ];
}
  where
    here : (k : ℕ) → k ≡ n → slice_index (set blocks n (last + 1)) k ≡ last + 1
    here k e = ap (slice_index (set blocks n (last + 1))) e ∙ get_or-set_same blocks n (last + 1) 0 room

    there : (k : ℕ) → k ≢ n → slice_index (set blocks n (last + 1)) k ≡ slice_index blocks k
    there k ne = get_or-set_other blocks n k (last + 1) 0 ne

-- the numbers of what is wanted serve all of which less is wanted
pub numbered_of : (wanted fewer : ℕ → Bool) (n : ℕ) (blocks : List ℕ) (last : ℕ) → IsNumbered wanted n blocks last → ((k : ℕ) → k < n → fewer k ≡ true → wanted k ≡ true)
    → IsNumbered fewer n blocks last
numbered_of wanted fewer n blocks last h part = record {
  few = h.few;
  within = h.within;
  own = h.own;
  given = λ k low on. h.given k low (part k low on);
}

-- ---- places

-- a block lies within the table
pub block_within : (b last nodes slots : ℕ) → b ≤ last → (b * slots + slots) * nodes ≤ (last + 1) * slots * nodes
block_within b last nodes slots h =
    let d : (b + 1) * slots ≤ (last + 1) * slots = mul-le-mul {n₁ = b + 1} {m₁ = slots} {n₂ = last + 1} {m₂ = slots} (omega arith) (omega arith) in
    let e : b * slots + slots ≤ (last + 1) * slots = omega (arith, d) in
    mul-le-mul {n₁ = b * slots + slots} {m₁ = nodes} {n₂ = (last + 1) * slots} {m₂ = nodes} e (omega arith)

-- so does a cell
pub cell_within : (b last nodes slots s j : ℕ) → b ≤ last → s < slots → j < nodes → (b * slots + s) * nodes + j < (last + 1) * slots * nodes
cell_within b last nodes slots s j h hs hj =
    let d : (b * slots + s + 1) * nodes ≤ (b * slots + slots) * nodes = mul-le-mul {n₁ = b * slots + s + 1} {m₁ = nodes} {n₂ = b * slots + slots} {m₂ = nodes} (omega arith) (omega arith) in
    omega (arith, d, block_within b last nodes slots h)

-- the table is small
pub table_small : (last nodes slots periods : ℕ) → last ≤ periods * nodes → nodes ≤ 16 → slots ≤ 10 → periods ≤ 1024
    → (last + 1 ≤ 16385) × ((last + 1) * slots ≤ 163850) × ((last + 1) * slots * nodes ≤ 2621600)
table_small last nodes slots periods few a b d =
    let x : periods * nodes ≤ 1024 * 16 = mul-le-mul d a in
    let l : last + 1 ≤ 16385 = omega (arith, x, few) in
    let y : (last + 1) * slots ≤ 16385 * 10 = mul-le-mul l b in
    let z : (last + 1) * slots * nodes ≤ 16385 * 10 * 16 = mul-le-mul y a in
    (l, omega (arith, y), omega (arith, z))

module _ (nodes slots : ℕ) (blocks : List ℕ) (some_nodes : 0 < nodes) (some_slots : 0 < slots) where
  place_receiver : (c : ℕ) → place_at nodes slots blocks c % nodes ≡ c % nodes
  place_receiver c = mod-mul-add (slice_index blocks (block_of nodes slots c) * slots + slot_of nodes slots c) nodes (c % nodes) (mod_below c nodes some_nodes)

  place_row : (c : ℕ) → place_at nodes slots blocks c / nodes ≡ slice_index blocks (block_of nodes slots c) * slots + slot_of nodes slots c
  place_row c = div-mul-add (slice_index blocks (block_of nodes slots c) * slots + slot_of nodes slots c) nodes (c % nodes) (mod_below c nodes some_nodes)

  place_block : (c : ℕ) → block_of nodes slots (place_at nodes slots blocks c) ≡ slice_index blocks (block_of nodes slots c)
  place_block c = ap (λ r. r / slots) (place_row c) ∙ div-mul-add (slice_index blocks (block_of nodes slots c)) slots (slot_of nodes slots c) (mod_below (c / nodes) slots some_slots)

  place_slot : (c : ℕ) → slot_of nodes slots (place_at nodes slots blocks c) ≡ slot_of nodes slots c
  place_slot c = ap (λ r. r % slots) (place_row c) ∙ mod-mul-add (slice_index blocks (block_of nodes slots c)) slots (slot_of nodes slots c) (mod_below (c / nodes) slots some_slots)

  module _ (k : ℕ) (to chosen : List ℕ) (given : slice_index blocks k ≢ 0) (own : (j i : ℕ) → slice_index blocks j ≢ 0 → slice_index blocks j ≡ slice_index blocks i → j ≡ i) where
    same_block : (d : ℕ) → (slice_index blocks d == slice_index blocks k) ≡ (d == k)
    same_block d = elim (cases_eq d k) [
      | inl e ↦ eq-eqb (slice_index blocks d) (slice_index blocks k) (ap (slice_index blocks) e) ∙ sym (eq-eqb d k e)
      | inr ne ↦ ne_eqb (slice_index blocks d) (slice_index blocks k) (λ e. ne (sym (own k d given (sym e)))) ∙ sym (ne_eqb d k ne)
    ]

    -- the cells of a sender's block are those of its frames
    placed_in : (c : ℕ) → in_block nodes slots (slice_index blocks k) to chosen (place_at nodes slots blocks c) ≡ in_block nodes slots k to chosen c
    placed_in c = rw (place_block c, place_slot c, place_receiver c, same_block (block_of nodes slots c)) refl

    pub marked_placed : (m : ℕ) (old new : List ℕ) → IsMarked itself (in_block nodes slots (slice_index blocks k) to chosen) m old new
        → IsMarked (place_at nodes slots blocks) (in_block nodes slots k to chosen) m old new
    marked_placed m old new h = record {
      whole = h.whole;
      cells = λ c. h.cells (place_at nodes slots blocks c) ∙ ap (λ b. cond b m (slice_index old (place_at nodes slots blocks c))) (placed_in c);
      free = λ c t. h.free (place_at nodes slots blocks c) (placed_in c ∙ t);
    }

    pub taken_placed : (cells : List ℕ) → IsTaken itself (in_block nodes slots (slice_index blocks k) to chosen) cells → IsTaken (place_at nodes slots blocks) (in_block nodes slots k to chosen) cells
    taken_placed cells t =
        let x = t.0 in
        let o = and_parts _ _ t.1 in
        let i = and_parts _ _ o.0 in
        let block : block_of nodes slots x ≡ slice_index blocks k = eqb-true (block_of nodes slots x) (slice_index blocks k) i.0 in
        let r : x % nodes < nodes = mod_below x nodes some_nodes in
        let s : slot_of nodes slots x < slots = mod_below (x / nodes) slots some_slots in
        let c : ℕ = (k * slots + slot_of nodes slots x) * nodes + x % nodes in
        let row : c / nodes ≡ k * slots + slot_of nodes slots x = div-mul-add (k * slots + slot_of nodes slots x) nodes (x % nodes) r in
        let to_x : c % nodes ≡ x % nodes = mod-mul-add (k * slots + slot_of nodes slots x) nodes (x % nodes) r in
        let high : block_of nodes slots c ≡ k = ap (λ d. d / slots) row ∙ div-mul-add k slots (slot_of nodes slots x) s in
        let low : slot_of nodes slots c ≡ slot_of nodes slots x = ap (λ d. d % slots) row ∙ mod-mul-add k slots (slot_of nodes slots x) s in
        let at : place_at nodes slots blocks c ≡ x =
        ap (λ d. (slice_index blocks d * slots + slot_of nodes slots c) * nodes + c % nodes) high
        ∙ ap (λ d. (slice_index blocks k * slots + d) * nodes + c % nodes) low
        ∙ ap (λ d. (slice_index blocks k * slots + slot_of nodes slots x) * nodes + d) to_x
        ∙ ap (λ d. (d * slots + slot_of nodes slots x) * nodes + x % nodes) (sym block)
        ∙ ap (λ d. d * nodes + x % nodes) (div-add-mod' (x / nodes) slots) ∙ div-add-mod' x nodes
        in
        (c, sym (placed_in c) ∙ ap (in_block nodes slots (slice_index blocks k) to chosen) at ∙ t.1, λ z. t.2 (ap (slice_index cells) (sym at) ∙ z))

-- the place of a frame by its period, slot, sender and receiver
pub place_of_cell : (nodes slots : ℕ) (blocks : List ℕ) (p s i j : ℕ) → s < slots → j < nodes → place_at nodes slots blocks (cell_at nodes slots p s i j) ≡ (slice_index blocks (p * nodes + i) * slots + s) * nodes + j
place_of_cell nodes slots blocks p s i j hs hj =
    let row : cell_at nodes slots p s i j / nodes ≡ (p * nodes + i) * slots + s = div-mul-add ((p * nodes + i) * slots + s) nodes j hj in
    let to : cell_at nodes slots p s i j % nodes ≡ j = mod-mul-add ((p * nodes + i) * slots + s) nodes j hj in
    let block : ((p * nodes + i) * slots + s) / slots ≡ p * nodes + i = div-mul-add (p * nodes + i) slots s hs in
    let slot : ((p * nodes + i) * slots + s) % slots ≡ s = mod-mul-add (p * nodes + i) slots s hs in
    rw (to, row, block, slot) refl
