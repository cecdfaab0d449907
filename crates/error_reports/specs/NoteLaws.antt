-- What a row of notes says, and that notes add up.
use Rattle.std.proofs.Common.{ℕ, ◌≡◌, ◌≢◌, ◌<◌, ◌≤◌, ◌==◌, ◌||◌, ◌&&◌, Bool, true, false, not, if◌then◌else◌, List, map, refl, sym, ap, ap₂, ◌∙◌, inl, inr, arith, ne_eqb, Some, None}
use Rattle.std.specs.Prelude.{nat_lt}
use Rattle.std.specs.Int.{bit_at}
use Rattle.std.proofs.lemmas.Bool.{cases_Bool, cond-true, cond-false, and_parts, not-true, eqb-false}
use Rattle.std.proofs.lemmas.List.FromFn.{fill_by_all, get_or-map-range_with_len, length-map-range_with_len}
use Rattle.node_grid.specs.NodeSet.{has_id, ids_below, ids_where, mask_of}
use Rattle.node_grid.specs.MaskLaws.{mask-has, same_masks}
use Rattle.node_grid.specs.ListLaws.{eqb_sym}
use Rattle.node_grid.specs.NumberFacts.{lt_yes, lt_from}
use Rattle.node_grid.specs.TruthFacts.{or_assoc}
use Rattle.error_reports.specs.Charge.{accuses}
use Rattle.error_reports.specs.Notes.{Notes, noted_row, noted_besides, is_kind, of_each, also_noted, also_carried}

-- two notes say the same of each other node in use
abbrev pub SayTheSame : ℕ → Notes → (ℕ → ℕ → Bool) → (ℕ → ℕ → Bool) → Type 0
SayTheSame capacity n p q = (j k : ℕ) → j < capacity → j < n.nodes → j ≢ n.me → k < n.kinds → p j k ≡ q j k

-- the mask of a node in a row of notes
abbrev mask_at : Notes → (ℕ → ℕ → Bool) → ℕ → ℕ
mask_at n f j = if nat_lt j n.nodes && not (j == n.me) then mask_of (ids_where (f j) n.kinds) else 0

row_alike : (capacity : ℕ) (n : Notes) (p q : ℕ → ℕ → Bool) → SayTheSame capacity n p q → noted_row capacity n.kinds n.nodes n.me p ≡ noted_row capacity n.kinds n.nodes n.me q
row_alike capacity n p q same =
    fill_by_all (mask_at n q) (map (mask_at n p) (ids_below capacity)) capacity 0 (length-map-range_with_len (mask_at n p) 0 capacity)
    (λ j low. get_or-map-range_with_len (mask_at n p) 0 capacity j j 0 low (omega arith) ∙ one j low)
  where
    one : (j : ℕ) → j < capacity → mask_at n p j ≡ mask_at n q j
    one j low = elim (cases_Bool (nat_lt j n.nodes && not (j == n.me))) [
      | inl t ↦
          let is = and_parts (nat_lt j n.nodes) (not (j == n.me)) t in
          cond-true _ (mask_of (ids_where (p j) n.kinds)) 0 t
          ∙ same_masks (p j) (q j) n.kinds (λ k within. same j k low (lt_from j n.nodes is.0) (eqb-false j n.me (not-true (j == n.me) is.1)) within)
          ∙ sym (cond-true _ (mask_of (ids_where (q j) n.kinds)) 0 t)
      | inr f ↦ cond-false _ (mask_of (ids_where (p j) n.kinds)) 0 f ∙ sym (cond-false _ (mask_of (ids_where (q j) n.kinds)) 0 f)
    ]

-- a row accuses as was noted
row_tells : (capacity : ℕ) (n : Notes) (p : ℕ → ℕ → Bool) (j k : ℕ) → n.kinds ≤ 16 → j < capacity → j < n.nodes → j ≢ n.me → k < n.kinds
    → accuses (noted_row capacity n.kinds n.nodes n.me p) j k ≡ p j k
row_tells capacity n p j k few low used other within =
    let t : (nat_lt j n.nodes && not (j == n.me)) ≡ true = ap₂ (λ (a b : Bool). a && not b) (lt_yes j n.nodes used) (ne_eqb j n.me other) in
    ap (λ (mask : ℕ). bit_at mask k == 1)
    (get_or-map-range_with_len (mask_at n p) 0 capacity j j 0 low (omega arith) ∙ cond-true _ (mask_of (ids_where (p j) n.kinds)) 0 t)
    ∙ mask-has (p j) n.kinds k few within

besides_alike : (capacity : ℕ) (n : Notes) (row : List ℕ) (p q : ℕ → ℕ → Bool) → SayTheSame capacity n p q
    → noted_besides capacity n.kinds n.nodes n.me row p ≡ noted_besides capacity n.kinds n.nodes n.me row q
besides_alike capacity n row p q same =
    row_alike capacity n (λ j k. accuses row j k || p j k) (λ j k. accuses row j k || q j k) (λ j k low used other within. ap (λ (b : Bool). accuses row j k || b) (same j k low used other within))

-- what says the same of each other node leaves the same notes
pub noted_alike : (capacity : ℕ) (n : Notes) (p q : ℕ → ℕ → Bool) → SayTheSame capacity n p q → also_noted capacity n p ≡ also_noted capacity n q
noted_alike capacity n p q same = ap (λ (row : List ℕ). record n { row = row }) (besides_alike capacity n n.row p q same)

pub carried_alike : (capacity : ℕ) (n : Notes) (p q : ℕ → ℕ → Bool) → SayTheSame capacity n p q → also_carried capacity n p ≡ also_carried capacity n q
carried_alike capacity n p q same = ap (λ (row : List ℕ). record n { carried = row }) (besides_alike capacity n n.carried p q same)

-- notes besides other ones are both
pub noted_twice : (capacity : ℕ) (n : Notes) (p q : ℕ → ℕ → Bool) → n.kinds ≤ 16
    → also_noted capacity (also_noted capacity n p) q ≡ also_noted capacity n (λ j k. p j k || q j k)
noted_twice capacity n p q few =
    ap (λ (row : List ℕ). record n { row = row })
    (row_alike capacity n (λ j k. accuses (noted_besides capacity n.kinds n.nodes n.me n.row p) j k || q j k) (λ j k. accuses n.row j k || (p j k || q j k))
    (λ j k low used other within.
    ap (λ (b : Bool). b || q j k) (row_tells capacity n (λ i x. accuses n.row i x || p i x) j k few low used other within) ∙ or_assoc (accuses n.row j k) (p j k) (q j k)))

-- a kind of each node where it is so
pub kind_where : (is_so : Bool) (kind k : ℕ) → is_kind (if is_so then Some kind else None) k ≡ (is_so && k == kind)
kind_where true kind k = eqb_sym kind k
kind_where false kind k = refl

pub each_kind : (accused : List ℕ) (kind j k : ℕ) → is_kind (if has_id accused j then Some kind else None) k ≡ of_each accused kind j k
each_kind accused kind j k = kind_where (has_id accused j) kind k
