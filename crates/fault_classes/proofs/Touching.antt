-- The cells that a line touches, block by block and period by period.
use Rattle.std.proofs.Common.{◌≡◌, ◌≢◌, ℕ, ◌+◌, ◌*◌, ◌/◌, ◌%◌, ◌^◌, ◌<◌, ◌≤◌, bit_and, Bool, true, false, ◌&&◌, ◌||◌, ◌⊎◌, List, refl, sym, ap, ◌∙◌, inl, inr, arith, eq-eqb, eqb-true}
use Rattle.std.specs.Prelude.{◌==◌, nat_lt, nat_le}
use Rattle.std.proofs.lemmas.Bool.{cases_eq, ne_eqb, and_parts, and_left}
use Rattle.std.proofs.lemmas.Nat.{div-mul-add, mod-mul-add, div-add-mod'}
use Rattle.node_grid.specs.NodeSet.{has_id}
use Rattle.node_grid.specs.NodeSetLaws.{has_bit}
use Rattle.fault_classes.specs.Line.{Line, slots_in}
use Rattle.fault_classes.specs.Cells.{in_row, in_block, block_of, slot_of, touches_cell}
use Rattle.fault_classes.proofs.Marking.{digits_below, digits_none, digits_yes, digits_no, digits_all, digits_here}
use Rattle.std.proofs.Math.Bool.{and-true}

over_and : (a b c : Bool) → ((a || b) && c) ≡ ((a && c) || (b && c))
over_and true true true = refl
over_and true true false = refl
over_and true false true = refl
over_and true false false = refl
over_and false true true = refl
over_and false true false = refl
over_and false false true = refl
over_and false false false = refl

pub has_slot : (mask s : ℕ) → mask < 2 ^ 16 → has_id (slots_in mask) s ≡ (bit_and (mask / 2 ^ s) 1 == 1)
unfolding slots_in
has_slot mask s h = has_bit 16 mask s h

pub slot_on : (mask s : ℕ) → mask < 2 ^ 16 → bit_and (mask / 2 ^ s) 1 ≡ 1 → has_id (slots_in mask) s ≡ true
slot_on mask s h e = has_slot mask s h ∙ eq-eqb (bit_and (mask / 2 ^ s) 1) 1 e

pub slot_off : (mask s : ℕ) → mask < 2 ^ 16 → bit_and (mask / 2 ^ s) 1 ≢ 1 → has_id (slots_in mask) s ≡ false
slot_off mask s h e = has_slot mask s h ∙ ne_eqb (bit_and (mask / 2 ^ s) 1) 1 e

-- ---- a block, as far as the slots below k

abbrev pub block_below : ℕ → ℕ → ℕ → List ℕ → List ℕ → ℕ → ℕ → Bool
block_below nodes slots block to chosen k c = digits_below (has_id chosen) slots block k (c / nodes) && has_id to (c % nodes)

module _ (nodes slots block : ℕ) (to chosen : List ℕ) where
  pub block_none : (c : ℕ) → block_below nodes slots block to chosen 0 c ≡ false
  block_none c = and_left _ _ (digits_none (has_id chosen) slots block (c / nodes))

  pub block_yes : (k c : ℕ) → k < slots → has_id chosen k ≡ true → block_below nodes slots block to chosen (k + 1) c ≡ (block_below nodes slots block to chosen k c || in_row nodes (block * slots + k) to c)
  block_yes k c h on = ap (λ b. b && has_id to (c % nodes)) (digits_yes (has_id chosen) slots block k (c / nodes) h on) ∙ over_and (digits_below (has_id chosen) slots block k (c / nodes)) (c / nodes == block * slots + k) (has_id to (c % nodes))

  pub block_no : (k c : ℕ) → has_id chosen k ≡ false → block_below nodes slots block to chosen (k + 1) c ≡ block_below nodes slots block to chosen k c
  block_no k c off = ap (λ b. b && has_id to (c % nodes)) (digits_no (has_id chosen) slots block k (c / nodes) off)

  pub block_all : (k c : ℕ) → 0 < slots → slots ≤ k → in_block nodes slots block to chosen c ≡ block_below nodes slots block to chosen k c
  block_all k c some all = ap (λ b. b && has_id to (c % nodes)) (digits_all (has_id chosen) slots block k (c / nodes) some all)

  pub block_here : (k c : ℕ) → k < slots → has_id chosen k ≡ true → in_row nodes (block * slots + k) to c ≡ true → (block_below nodes slots block to chosen k c ≡ false) × (in_block nodes slots block to chosen c ≡ true)
  block_here k c h on is =
      let p = and_parts _ _ is in
      let d = digits_here (has_id chosen) slots block k (c / nodes) h on p.0 in
      (and_left _ _ d.0, rw (d.1, p.1) refl)

-- ---- a line, as far as the periods below q

abbrev pub touched_before : ℕ → ℕ → ℕ → Line → ℕ → Bool
touched_before nodes slots q l c =
    l.from == block_of nodes slots c % nodes && (has_id l.to (c % nodes) && (has_id l.slots (slot_of nodes slots c) && (nat_le l.first (block_of nodes slots c / nodes) && nat_lt (block_of nodes slots c / nodes) q)))

module _ (nodes slots : ℕ) (l : Line) where
  pub line_none : (c : ℕ) → touched_before nodes slots l.first l c ≡ false
  line_none c = never (l.from == block_of nodes slots c % nodes) (has_id l.to (c % nodes)) (has_id l.slots (slot_of nodes slots c)) (block_of nodes slots c / nodes) l.first
    where
      never : (a b e : Bool) (p q : ℕ) → (a && (b && (e && (nat_le q p && nat_lt p q)))) ≡ false
      never a b e p q = let z : (nat_le q p && nat_lt p q) ≡ false = grind arith in rw z (drops a b e)
        where
          drops : (a b e : Bool) → (a && (b && (e && false))) ≡ false
          drops true true true = refl
          drops true true false = refl
          drops true false e = refl
          drops false b e = refl

  pub line_all : (c : ℕ) → touches_cell nodes slots c l ≡ touched_before nodes slots (l.last + 1) l c
  line_all c = let z : nat_le (block_of nodes slots c / nodes) l.last ≡ nat_lt (block_of nodes slots c / nodes) (l.last + 1) = grind arith in rw z refl

  pub line_step : (q c : ℕ) → l.from < nodes → l.first ≤ q → touched_before nodes slots (q + 1) l c ≡ (touched_before nodes slots q l c || in_block nodes slots (q * nodes + l.from) l.to l.slots c)
  line_step q c some after = parts (block_of nodes slots c) (has_id l.to (c % nodes)) (has_id l.slots (slot_of nodes slots c)) (cases_eq (block_of nodes slots c) (q * nodes + l.from))
    where
      here : (b e : Bool) → (b && e) ≡ ((b && (e && false)) || (e && b))
      here true true = refl
      here true false = refl
      here false true = refl
      here false false = refl

      or_false : (b : Bool) → b ≡ (b || false)
      or_false true = refl
      or_false false = refl

      parts : (d : ℕ) (b e : Bool) → (d ≡ q * nodes + l.from) ⊎ (d ≢ q * nodes + l.from)
          → (l.from == d % nodes && (b && (e && (nat_le l.first (d / nodes) && nat_lt (d / nodes) (q + 1)))))
          ≡ ((l.from == d % nodes && (b && (e && (nat_le l.first (d / nodes) && nat_lt (d / nodes) q)))) || ((d == q * nodes + l.from && e) && b))
      parts d b e (inl s) =
          let p : d / nodes ≡ q = ap (λ x. x / nodes) s ∙ div-mul-add q nodes l.from some in
          let r : d % nodes ≡ l.from = ap (λ x. x % nodes) s ∙ mod-mul-add q nodes l.from some in
          let t : (d == q * nodes + l.from) ≡ true = eq-eqb d (q * nodes + l.from) s in
          let z : (l.from == l.from) ≡ true = eq-eqb l.from l.from refl in
          let lo : nat_le l.first q ≡ true = grind arith in
          let hi : nat_lt q (q + 1) ≡ true = grind arith in
          let not_yet : nat_lt q q ≡ false = grind arith in
          rw (p, r, t, z, lo, hi, not_yet, and-true) (here b e)
      parts d b e (inr ne) =
          let t : (d == q * nodes + l.from) ≡ false = ne_eqb d (q * nodes + l.from) ne in
          rw t (apart (cases_eq (d % nodes) l.from) (cases_eq (d / nodes) q))
        where
          apart : (d % nodes ≡ l.from) ⊎ (d % nodes ≢ l.from) → (d / nodes ≡ q) ⊎ (d / nodes ≢ q)
              → (l.from == d % nodes && (b && (e && (nat_le l.first (d / nodes) && nat_lt (d / nodes) (q + 1)))))
              ≡ ((l.from == d % nodes && (b && (e && (nat_le l.first (d / nodes) && nat_lt (d / nodes) q)))) || false)
          apart (inl i) (inl p) = absurd (ne (sym (div-add-mod' d nodes) ∙ rw (p, i) refl))
          apart (inr i) o = let z : (l.from == d % nodes) ≡ false = ne_eqb l.from (d % nodes) (λ e. i (sym e)) in rw z refl
          apart o (inr p) = let z : nat_lt (d / nodes) (q + 1) ≡ nat_lt (d / nodes) q = grind arith in rw z (or_false _)

  pub line_here : (q c : ℕ) → l.from < nodes → l.first ≤ q → q ≤ l.last → in_block nodes slots (q * nodes + l.from) l.to l.slots c ≡ true
      → (touched_before nodes slots q l c ≡ false) × (touches_cell nodes slots c l ≡ true)
  line_here q c some after before is =
      let o = and_parts _ _ is in
      let i = and_parts _ _ o.0 in
      let s : block_of nodes slots c ≡ q * nodes + l.from = eqb-true (block_of nodes slots c) (q * nodes + l.from) i.0 in
      let p : block_of nodes slots c / nodes ≡ q = ap (λ x. x / nodes) s ∙ div-mul-add q nodes l.from some in
      let r : block_of nodes slots c % nodes ≡ l.from = ap (λ x. x % nodes) s ∙ mod-mul-add q nodes l.from some in
      let z : (l.from == l.from) ≡ true = eq-eqb l.from l.from refl in
      let to : has_id l.to (c % nodes) ≡ true = o.1 in
      let on : has_id l.slots (slot_of nodes slots c) ≡ true = i.1 in
      let lo : nat_le l.first q ≡ true = grind arith in
      let hi : nat_le q l.last ≡ true = grind arith in
      let not_yet : nat_lt q q ≡ false = grind arith in
      (rw (p, r, z, to, on, lo, not_yet) refl, rw (p, r, z, to, on, lo, hi) refl)
