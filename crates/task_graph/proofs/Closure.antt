-- How the closure goes on: after step k the masks have the chains whose inner tasks lie up to k.
use Rattle.std.proofs.Common.{◌≡◌, ◌≢◌, ℕ, suc, ◌+◌, ◌*◌, ◌/◌, ◌%◌, ◌^◌, ◌<◌, ◌≤◌, true, false, ◌&&◌, ◌||◌, List, length, get_or, set, take, bit_and, bit_or, sym, ap, ap₂, ◌∙◌, inl, inr, arith, eq-eqb, ne_eqb, get_or-set_same, get_or-set_other, w32}
use Rattle.std.specs.Prelude.{◌==◌}
use Rattle.std.specs.Int.{bit_at}
use Rattle.std.proofs.lemmas.Bool.{cases_lt, cases_eq}
use Rattle.std.proofs.lemmas.List.Folds.{list_any_more}
use Rattle.std.proofs.lemmas.Nat.Bits.{bit_at_or, bit_at-lt, bit_at-zero, bit_at_set_same, bit_at_set_other, shr_and_one}
use Rattle.node_grid.specs.NodeSet.{has_id}
use Rattle.task_graph.specs.Graph.{TaskView}
use Rattle.task_graph.specs.Reach.{reaches, has_bit, AreReached}
use Rattle.std.proofs.Math.Bool.{or-true, or-false}
use Rattle.node_grid.specs.NodeSetLaws.{either_bit}

-- ---- masks

-- the code's test of a bit
pub bit_test : (mask k : ℕ) → bit_and (mask / 2 ^ k) 1 ≡ 1 → has_bit mask k ≡ true
bit_test mask k h = eq-eqb _ _ (sym (shr_and_one mask k) ∙ h)

pub no_bit_test : (mask k : ℕ) → bit_and (mask / 2 ^ k) 1 ≢ 1 → has_bit mask k ≡ false
no_bit_test mask k h = ne_eqb _ _ (λ e. h (shr_and_one mask k ∙ e))

has_bit-or : (a b u : ℕ) → has_bit (bit_or a b) u ≡ (has_bit a u || has_bit b u)
has_bit-or a b u = ap (λ n. n == 1) (bit_at_or a b u) ∙ either_bit (bit_at a u) (bit_at b u) (bit_at-lt a u) (bit_at-lt b u)

pub no_bits : (u : ℕ) → has_bit 0 u ≡ false
no_bits u = ap (λ n. n == 1) (bit_at-zero u)

-- one more number goes into a mask
pub mask_more : (xs : List ℕ) (mask i t : ℕ) → i < length xs → t ≡ get_or xs i 0 → t < 32 → ((u : ℕ) → u < 32 → has_bit mask u ≡ has_id (take i xs) u)
    → (u : ℕ) → u < 32 → has_bit (bit_or mask (1 * 2 ^ t % 2 ^ 32)) u ≡ has_id (take (i + 1) xs) u
mask_more xs mask i t l e few before u h =
    let more : has_id (take (i + 1) xs) u ≡ (has_id (take i xs) u || (get_or xs i 0 == u)) = list_any_more (λ y. y == u) xs i 0 l in
    elim (cases_eq u t) [
      | inl same ↦
          let a : has_bit (bit_or mask (1 * 2 ^ t % 2 ^ 32)) u ≡ true = rw same (ap (λ n. n == 1) (bit_at_set_same w32 mask t few)) in
          let b : (get_or xs i 0 == u) ≡ true = eq-eqb _ _ (sym e ∙ sym same) in
          a ∙ sym (more ∙ rw b (or-true (has_id (take i xs) u)))
      | inr other ↦
          let a : has_bit (bit_or mask (1 * 2 ^ t % 2 ^ 32)) u ≡ has_bit mask u = ap (λ n. n == 1) (bit_at_set_other w32 mask t few u other) in
          let b : (get_or xs i 0 == u) ≡ false = ne_eqb _ _ (λ d. other (sym (e ∙ d))) in
          a ∙ before u h ∙ sym (more ∙ rw b (or-false (has_id (take i xs) u)))
    ]

-- ---- the closure

-- within step k the masks below t have been brought on
pub record AreReachedTo (tasks : List TaskView) (k t : ℕ) (masks : List ℕ) : Type 0 where
  pub done : (i u : ℕ) → i < t → i < length tasks → u < length tasks → has_bit (get_or masks i 0) u ≡ reaches tasks (suc k) i u
  pub left : (i u : ℕ) → t ≤ i → i < length tasks → u < length tasks → has_bit (get_or masks i 0) u ≡ reaches tasks k i u

-- the mask that step k adds has what task k reaches
abbrev pub IsThrough : List TaskView → ℕ → ℕ → Type 0
IsThrough tasks k mask = (u : ℕ) → u < length tasks → has_bit mask u ≡ reaches tasks k k u

pub reached_start : (tasks : List TaskView) (k : ℕ) (masks : List ℕ) → AreReached tasks k masks → AreReachedTo tasks k 0 masks
reached_start tasks k masks h = record { done = λ i u l hi hu. absurd (omega arith); left = λ i u l hi hu. h i u hi hu }

pub reached_end : (tasks : List TaskView) (k : ℕ) (masks : List ℕ) → AreReachedTo tasks k (length tasks) masks → AreReached tasks (k + 1) masks
reached_end tasks k masks h t u ht hu = let e : k + 1 ≡ suc k = omega arith in rw e (h.done t u ht ht hu)

pub reached_with : (tasks : List TaskView) (k t : ℕ) (masks : List ℕ) (through : ℕ) → k < length tasks → t < length masks → AreReachedTo tasks k t masks → IsThrough tasks k through
    → has_bit (get_or masks t 0) k ≡ true → AreReachedTo tasks k (t + 1) (set masks t (bit_or (get_or masks t 0) through))
reached_with tasks k t masks through hk l h by on = record {
  done = λ i u below hi hu. elim (cases_lt i t) [
    | inl before ↦ let ne : i ≢ t = omega arith in rw (get_or-set_other masks t i _ 0 ne) (h.done i u before hi hu)
    | inr at ↦
        let e : i ≡ t = omega arith in
        rw (e, get_or-set_same masks t (bit_or (get_or masks t 0) through) 0 l)
        (has_bit-or (get_or masks t 0) through u
        ∙ ap₂ ◌||◌ (h.left t u (omega arith) (omega arith) hu)
        (by u hu ∙ ap (λ b. b && reaches tasks k k u) (sym (sym (h.left t k (omega arith) (omega arith) hk) ∙ on))))
  ];
  left = λ i u above hi hu. let ne : i ≢ t = omega arith in rw (get_or-set_other masks t i _ 0 ne) (h.left i u (omega arith) hi hu);
}

pub reached_without : (tasks : List TaskView) (k t : ℕ) (masks : List ℕ) → k < length tasks → AreReachedTo tasks k t masks
    → has_bit (get_or masks t 0) k ≡ false → AreReachedTo tasks k (t + 1) masks
reached_without tasks k t masks hk h off = record {
  done = λ i u below hi hu. elim (cases_lt i t) [
    | inl before ↦ h.done i u before hi hu
    | inr at ↦
        let e : i ≡ t = omega arith in
        let no : reaches tasks k t k ≡ false = sym (h.left t k (omega arith) (omega arith) hk) ∙ off in
        rw e (h.left t u (omega arith) (omega arith) hu ∙ sym (rw no (or-false (reaches tasks k t u))))
  ];
  left = λ i u above hi hu. h.left i u (omega arith) hi hu;
}
