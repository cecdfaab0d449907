-- Rows of masks that are filled from their front, and masks that are joined.
use Rattle.std.proofs.Common.{ℕ, ◌≡◌, ◌≢◌, ◌<◌, ◌≤◌, ◌+◌, ◌*◌, ◌%◌, ◌==◌, ◌||◌, ◌&&◌, Bool, true, false, not, if◌then◌else◌, List, length, map, get_or, set, refl, sym, ap, subst, ◌∙◌, inl, inr, arith, eq-eqb, ne_eqb, below_more, get_or-set_other, get_or-set_same, length-set, ◌-◌, ◌^◌, min, bit_and, bit_or}
use Rattle.std.specs.Prelude.{nat_lt}
use Rattle.std.specs.Int.{bit_at}
use Rattle.std.specs.Int.Bits.{mask_lt}
use Rattle.std.proofs.lemmas.Bool.{cases_lt, cases_eq, cond-true, cond-false, and_from}
use Rattle.std.proofs.lemmas.Bool.Decides.{nat_tests}
use Rattle.std.proofs.lemmas.List.FromFn.{fill_by_all}
use Rattle.std.proofs.lemmas.Nat.Bits.{bit_at_or, bit_at_and, bit_at_ones, bit_at-lt, bit_at-pow_same, bit_at-pow_other}
use Rattle.std.proofs.Math.Pow.{pow-lt}
use Rattle.node_grid.specs.NodeSet.{ids_where, mask_of, ids_below}
use Rattle.node_grid.specs.MaskLaws.{mask_from_bits}
use Rattle.node_grid.specs.NodeSetLaws.{either_bit}

-- ---- masks

lesser : (x : ℕ) → x < 2 → min x 1 ≡ x
lesser x h = grind arith

-- the mask of one kind
pub one_bit : (kind k : ℕ) → kind < 16 → (bit_at (1 * 2 ^ kind % 65536) k == 1) ≡ (kind == k)
one_bit kind k few =
    let power : 2 ^ kind < 2 ^ 16 = pow-lt few in
    let one : 1 * 2 ^ kind % 65536 ≡ 2 ^ kind = omega arith in
    elim (cases_eq kind k) [
      | inl same ↦ rw (one, same, bit_at-pow_same k, eq-eqb k k refl) refl
      | inr other ↦ rw (one, bit_at-pow_other kind k (λ e. other (sym e)), ne_eqb kind k other) refl
    ]

-- those of two masks, of the kinds below a number
pub joined : (mask more kinds : ℕ) (p : ℕ → Bool) → kinds ≤ 16 → ((k : ℕ) → k < kinds → (bit_at more k == 1) ≡ p k)
    → bit_and (bit_or mask more) (2 ^ kinds - 1) ≡ mask_of (ids_where (λ k. (bit_at mask k == 1) || p k) kinds)
joined mask more kinds p few is =
    mask_from_bits (bit_and (bit_or mask more) (2 ^ kinds - 1)) (λ k. (bit_at mask k == 1) || p k) kinds few (mask_lt (bit_or mask more) kinds)
    (λ k low.
    ap (λ x. x == 1) (bit_at_and (bit_or mask more) (2 ^ kinds - 1) k ∙ ap (min (bit_at (bit_or mask more) k)) (bit_at_ones kinds k low) ∙ lesser (bit_at (bit_or mask more) k) (bit_at-lt (bit_or mask more) k))
    ∙ ap (λ x. x == 1) (bit_at_or mask more k) ∙ either_bit (bit_at mask k) (bit_at more k) (bit_at-lt mask k) (bit_at-lt more k)
    ∙ ap (λ b. (bit_at mask k == 1) || b) (is k low))

-- ---- a list of numbers that is filled from its front, with 0 behind

pub record Filled (n : ℕ) (F : ℕ → ℕ) (j : ℕ) (masks : List ℕ) : Type 0 where
  pub wide : length masks ≡ n
  pub so_far : (k : ℕ) → k < j → get_or masks k 0 ≡ F k
  pub rest : (k : ℕ) → j ≤ k → get_or masks k 0 ≡ 0

pub filled_put : (n : ℕ) (F : ℕ → ℕ) (j v : ℕ) (masks next : List ℕ) → Filled n F j masks → j < n → v ≡ F j → next ≡ set masks j v → Filled n F (j + 1) next
filled_put n F j v masks next h low value is = subst (Filled n F (j + 1)) (sym is) (record {
  wide = length-set masks j v ∙ h.wide;
  so_far = below_more _ _
      (λ k l. let ne : k ≢ j = omega arith in rw get_or-set_other (h.so_far k l))
      (let lt : j < length masks = (let w = h.wide in omega arith) in rw get_or-set_same value);
  rest = λ k l. let ne : k ≢ j = omega arith in rw get_or-set_other (h.rest k (omega arith));
})

pub filled_skip : (n : ℕ) (F : ℕ → ℕ) (j : ℕ) (masks : List ℕ) → Filled n F j masks → F j ≡ 0 → Filled n F (j + 1) masks
filled_skip n F j masks h none = record {
  wide = h.wide;
  so_far = below_more _ _ h.so_far (h.rest j (omega arith) ∙ sym none);
  rest = λ k l. h.rest k (omega arith);
}

pub filled_all : (n : ℕ) (F : ℕ → ℕ) (j : ℕ) (masks : List ℕ) → Filled n F j masks → ((k : ℕ) → j ≤ k → F k ≡ 0) → masks ≡ map F (ids_below n)
filled_all n F j masks h none = fill_by_all F masks n 0 h.wide (λ k l. elim (cases_lt k j) [
  | inl low ↦ h.so_far k low
  | inr high ↦ h.rest k high ∙ sym (none k high)
])

-- what is noted of other nodes alone
abbrev pub noted_of : ℕ → ℕ → (ℕ → ℕ) → ℕ → ℕ
noted_of nodes me G j = if nat_lt j nodes && not (j == me) then G j else 0

pub noted_here : (nodes me : ℕ) (G : ℕ → ℕ) (j : ℕ) → j < nodes → j ≢ me → noted_of nodes me G j ≡ G j
noted_here nodes me G j low ne = cond-true (nat_lt j nodes && not (j == me)) (G j) 0 (and_from _ _ (is_low j nodes low) (ap not (ne_eqb j me ne))) where
  is_low : (a b : ℕ) → a < b → nat_lt a b ≡ true
  is_low a b h = grind (arith, nat_tests)

pub noted_self : (nodes me : ℕ) (G : ℕ → ℕ) (j : ℕ) → j ≡ me → noted_of nodes me G j ≡ 0
noted_self nodes me G j e = cond-false (nat_lt j nodes && not (j == me)) (G j) 0 (ap (λ (b : Bool). nat_lt j nodes && not b) (eq-eqb j me e) ∙ none (nat_lt j nodes)) where
  none : (b : Bool) → (b && false) ≡ false
  none true = refl
  none false = refl

pub noted_behind : (nodes me : ℕ) (G : ℕ → ℕ) (j : ℕ) → nodes ≤ j → noted_of nodes me G j ≡ 0
noted_behind nodes me G j high = cond-false (nat_lt j nodes && not (j == me)) (G j) 0 (ap (λ (b : Bool). b && not (j == me)) (is_high j nodes high)) where
  is_high : (a b : ℕ) → b ≤ a → nat_lt a b ≡ false
  is_high a b h = grind (arith, nat_tests)
