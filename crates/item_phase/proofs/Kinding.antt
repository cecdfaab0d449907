-- One kind of error of one node, noted besides.
use Rattle.std.proofs.Common.{ℕ, ◌≡◌, ◌≢◌, ◌<◌, ◌≤◌, ◌*◌, ◌%◌, ◌^◌, ◌==◌, ◌||◌, ◌&&◌, Bool, true, false, not, if◌then◌else◌, List, length, bit_or, get_or, get_or-set_same, get_or-set_other, refl, sym, ap, ap₂, ◌∙◌, inl, inr, arith, eq-eqb, ne_eqb}
use Rattle.std.specs.Prelude.{nat_lt, slice_index}
use Rattle.std.specs.Int.{bit_at, w16}
use Rattle.std.proofs.lemmas.Bool.{cases_eq, cond-true}
use Rattle.std.proofs.lemmas.List.{length-set}
use Rattle.std.proofs.lemmas.List.FromFn.{fill_by_all, get_or-map-range_with_len, length-map-range_with_len}
use Rattle.std.proofs.lemmas.Nat.Bits.{bit_at-lt, bit_at_set_same, bit_at_set_other, same_from_bits_below}
use Rattle.node_grid.specs.NodeSet.{ids_where, mask_of}
use Rattle.node_grid.specs.NodeSetLaws.{put_fits, shifted_short}
use Rattle.node_grid.specs.MaskLaws.{mask-fits, mask-has, same_masks, same_bit}
use Rattle.node_grid.specs.NumberFacts.{lt_yes}
use Rattle.node_grid.specs.TruthFacts.{or_false, or_yes}
use Rattle.error_reports.specs.Charge.{accuses}
use Rattle.error_reports.specs.Notes.{Notes, with_kind, noted_row, also_noted, also_carried}

-- a mask with one kind besides
with_bit : (p : ℕ → Bool) (kinds kind : ℕ) → kinds ≤ 16 → kind < kinds → bit_or (mask_of (ids_where p kinds)) (2 ^ kind) ≡ mask_of (ids_where (λ e. p e || e == kind) kinds)
with_bit p kinds kind few low =
    let m : ℕ = mask_of (ids_where p kinds) in
    let both : ℕ → Bool = λ e. p e || e == kind in
    ap (bit_or m) (sym (shifted_short kinds kind few low))
    ∙ same_from_bits_below kinds (bit_or m (1 * 2 ^ kind % 65536)) (mask_of (ids_where both kinds)) (put_fits kinds m kind few low (mask-fits p kinds)) (mask-fits both kinds)
    (λ e there.
    same_bit (bit_at (bit_or m (1 * 2 ^ kind % 65536)) e) (bit_at (mask_of (ids_where both kinds)) e) (bit_at-lt (bit_or m (1 * 2 ^ kind % 65536)) e) (bit_at-lt (mask_of (ids_where both kinds)) e)
    (elim (cases_eq e kind) [
      | inl here ↦
          ap (λ (k : ℕ). bit_at (bit_or m (1 * 2 ^ kind % 65536)) k == 1) here ∙ ap (λ (b : ℕ). b == 1) (bit_at_set_same w16 m kind (omega (arith, few, low)))
          ∙ sym (mask-has both kinds e few there ∙ ap (λ (b : Bool). p e || b) (eq-eqb e kind here) ∙ or_yes (p e))
      | inr ne ↦
          ap (λ (b : ℕ). b == 1) (bit_at_set_other w16 m kind (omega (arith, few, low)) e ne) ∙ mask-has p kinds e few there
          ∙ sym (mask-has both kinds e few there ∙ ap (λ (b : Bool). p e || b) (ne_eqb e kind ne) ∙ or_false (p e))
    ]))

-- the mask of a node in a row of notes
abbrev mask_at : Notes → (ℕ → ℕ → Bool) → ℕ → ℕ
mask_at n f j = if nat_lt j n.nodes && not (j == n.me) then mask_of (ids_where (f j) n.kinds) else 0

module _ (capacity : ℕ) (n : Notes) (j kind : ℕ) (within : also_noted capacity n (λ k e. false) ≡ n) (few : n.kinds ≤ 16) (low : j < capacity) (used : j < n.nodes) (other : j ≢ n.me) (there : kind < n.kinds) where
  -- what the row says, and with that kind of that node
  abbrev was : ℕ → ℕ → Bool
  was k e = accuses n.row k e || false

  abbrev both : ℕ → ℕ → Bool
  both k e = accuses n.row k e || (k == j && e == kind)

  row_is : n.row ≡ noted_row capacity n.kinds n.nodes n.me was
  row_is = ap (λ (y : Notes). y.row) (sym within)

  mask_is : (k : ℕ) → k < capacity → get_or n.row k 0 ≡ mask_at n was k
  mask_is k under = ap (λ (row : List ℕ). get_or row k 0) row_is ∙ get_or-map-range_with_len (mask_at n was) 0 capacity k k 0 under (omega arith)

  long : length n.row ≡ capacity
  long = ap length row_is ∙ length-map-range_with_len (mask_at n was) 0 capacity

  others : (k : ℕ) → k ≢ j → mask_at n was k ≡ mask_at n both k
  others k ne = ap (λ (b : Bool). mask_at n (λ i e. accuses n.row i e || (b && e == kind)) k) (sym (ne_eqb k j ne))

  said : (nat_lt j n.nodes && not (j == n.me)) ≡ true
  said = ap₂ (λ (a b : Bool). a && not b) (lt_yes j n.nodes used) (ne_eqb j n.me other)

  here : bit_or (slice_index n.row j) (2 ^ kind) ≡ mask_at n both j
  here =
      ap (λ (mask : ℕ). bit_or mask (2 ^ kind)) (mask_is j low ∙ cond-true _ (mask_of (ids_where (was j) n.kinds)) 0 said)
      ∙ with_bit (was j) n.kinds kind few there
      ∙ same_masks (λ e. was j e || e == kind) (both j) n.kinds (λ e within. ap₂ (λ (a b : Bool). a || b) (or_false (accuses n.row j e)) (ap (λ (b : Bool). b && e == kind) (sym (eq-eqb j j refl))))
      ∙ sym (cond-true _ (mask_of (ids_where (both j) n.kinds)) 0 said)

  each : (k : ℕ) → k < capacity → get_or (with_kind n.row j kind) k 0 ≡ mask_at n both k
  each k under = elim (cases_eq k j) [
    | inl e ↦
        ap (λ (i : ℕ). get_or (with_kind n.row j kind) i 0) e ∙ get_or-set_same n.row j (bit_or (slice_index n.row j) (2 ^ kind)) 0 (omega (arith, low, long)) ∙ here
        ∙ ap (mask_at n both) (sym e)
    | inr ne ↦ get_or-set_other n.row j k (bit_or (slice_index n.row j) (2 ^ kind)) 0 ne ∙ mask_is k under ∙ others k ne
  ]

  pub noted_kind : record n { row = with_kind n.row j kind } ≡ also_noted capacity n (λ k e. k == j && e == kind)
  noted_kind =
      ap (λ (row : List ℕ). record n { row = row })
      (fill_by_all (mask_at n both) (with_kind n.row j kind) capacity 0 (length-set n.row j (bit_or (slice_index n.row j) (2 ^ kind)) ∙ long) each)

pub carried_kind : (capacity : ℕ) (n : Notes) (j kind : ℕ) → also_carried capacity n (λ k e. false) ≡ n → n.kinds ≤ 16 → j < capacity → j < n.nodes → j ≢ n.me → kind < n.kinds
    → record n { carried = with_kind n.carried j kind } ≡ also_carried capacity n (λ k e. k == j && e == kind)
carried_kind capacity n j kind within few low used other there =
    ap (λ (y : Notes). record n { carried = y.row }) (noted_kind capacity (record n { row = n.carried }) j kind (ap (λ (y : Notes). record n { row = y.carried }) within) few low used other there)
