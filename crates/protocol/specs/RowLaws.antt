-- Lemmas for callers: masks of kinds, and that a row of them is in the range of the grammar, the empty one and one by what was noted.
use Rattle.std.proofs.Common.{ℕ, zero, suc, ◌≡◌, ◌<◌, ◌≤◌, ◌+◌, ◌-◌, Bool, true, false, not, ◌&&◌, List, [], ◌∷◌, map, drop, replicate, refl, sym, ap, ap₂, subst, ◌∙◌, inl, inr, arith, eq-eqb, nat_lt, le-ltb}
use Rattle.std.specs.Prelude.{◌==◌, if◌then◌else◌, All}
use Rattle.std.specs.List.{range_with_len}
use Rattle.std.specs.Int.{bit_at}
use Rattle.std.proofs.lemmas.Bool.{cases_lt, or_left, or_right}
use Rattle.std.proofs.lemmas.Nat.Bits.{bit_at_above}
use Rattle.std.proofs.lemmas.List.Elements.{All-nil, All-cons}
use Rattle.std.proofs.lemmas.List.FromFn.{length-map-range_with_len}
use Rattle.node_grid.specs.NodeSet.{ids_below, ids_where, has_id, mask_of}
use Rattle.node_grid.specs.NodeSetLaws.{filter_none}
use Rattle.node_grid.specs.MaskLaws.{mask-fits, mask-has}
use Rattle.node_grid.specs.Version.{kind_count, mask_bound}
use Rattle.node_grid.specs.NumberFacts.{zero_mask}
use Rattle.frames.specs.Content.{IsRow}
use Rattle.protocol.specs.View.{Setting, row_by, empty_row}

-- what holds at each number of a list holds of all that is made of them
pub All-map_ids : {X : Type 0} (P : X → Type 0) (f : ℕ → X) (ks : List ℕ) → ((k : ℕ) → has_id ks k ≡ true → P (f k)) → All P (map f ks)
All-map_ids P f [] h = All-nil P
All-map_ids P f (k ∷ ks) h = All-cons P (f k) (map f ks) (h k (or_left _ _ (eq-eqb k k refl))) (All-map_ids P f ks (λ x on. h x (or_right (k == x) _ on)))

-- ---- masks of kinds

-- a kind that doesn't pass isn't in the mask
pub mask-lacks : (p : ℕ → Bool) (n k : ℕ) → n ≤ 16 → p k ≡ false → (bit_at (mask_of (ids_where p n)) k == 1) ≡ false
mask-lacks p n k few fails = elim (cases_lt k n) [
  | inl low ↦ mask-has p n k few low ∙ fails
  | inr high ↦ ap (λ (x : ℕ). x == 1) (bit_at_above (mask_of (ids_where p n)) n k (mask-fits p n) high)
]

-- where no kind passes, the mask is 0
pub mask-zero : (p : ℕ → Bool) (n : ℕ) → ((k : ℕ) → p k ≡ false) → mask_of (ids_where p n) ≡ 0
mask-zero p n fails = ap mask_of (filter_none p 0 n (λ k l u. fails k))

pub mask-of_version : (version : ℕ) (p : ℕ → Bool) → mask_of (ids_where p (kind_count version)) < mask_bound version
mask-of_version version p = elim (version == 1) as (λ b. mask_of (ids_where p (if b then 8 else 16)) < (if b then 256 else 65536)) [ true ↦ mask-fits p 8 | false ↦ mask-fits p 16 ]

-- ---- rows

all_zero : (f : ℕ → ℕ) (n a k : ℕ) → ((j : ℕ) → n ≤ j → f j ≡ 0) → n ≤ a → map f (range_with_len a k) ≡ replicate k 0
all_zero f n a zero h low = refl
all_zero f n a (suc k) h low = ap₂ ◌∷◌ (h a low) (all_zero f n (a + 1) k h (omega arith))

behind : (f : ℕ → ℕ) (n k a b : ℕ) → ((j : ℕ) → b ≤ j → f j ≡ 0) → a + n ≡ b → drop n (map f (range_with_len a (n + k))) ≡ replicate k 0
behind f zero k a b h e =
    let z : 0 + k ≡ k = omega arith in
    ap (λ (x : ℕ). map f (range_with_len a x)) z ∙ all_zero f b a k h (omega arith)
behind f (suc n) k a b h e =
    let s : suc n + k ≡ suc (n + k) = omega arith in
    ap (λ (x : ℕ). drop (suc n) (map f (range_with_len a x))) s ∙ behind f n k (a + 1) b h (omega arith)

-- a mask of the version for each node in use, and none behind them
row_of_masks : (version capacity nodes : ℕ) (f : ℕ → ℕ) → nodes ≤ capacity → ((j : ℕ) → f j < mask_bound version) → ((j : ℕ) → nodes ≤ j → f j ≡ 0) → IsRow version capacity nodes (map f (ids_below capacity))
row_of_masks version capacity nodes f few low high =
    let e : nodes + (capacity - nodes) ≡ capacity = omega arith in
    record {
      room = few;
      whole = length-map-range_with_len f 0 capacity;
      within = All-map_ids (λ mask. mask < mask_bound version) f (ids_below capacity) (λ c on. low c);
      rest = ap (λ (x : ℕ). drop nodes (map f (range_with_len 0 x))) (sym e) ∙ behind f nodes (capacity - nodes) 0 nodes high (omega arith);
    }

zeros : (capacity : ℕ) → replicate {A = ℕ} capacity 0 ≡ map (λ _. 0) (ids_below capacity)
zeros capacity = sym (all_zero (λ _. 0) 0 0 capacity (λ j l. refl) (omega arith))

pub empty_is_row : (s : Setting) → s.config.nodes ≤ s.capacity → IsRow s.config.version s.capacity s.config.nodes (empty_row s)
empty_is_row s few = subst (IsRow s.config.version s.capacity s.config.nodes) (sym (zeros s.capacity)) (row_of_masks s.config.version s.capacity s.config.nodes (λ _. 0) few (λ j. zero_mask s.config.version) (λ j l. refl))

pub row_by_is_row : (s : Setting) (i : ℕ) (notes : ℕ → ℕ → Bool) → s.config.nodes ≤ s.capacity → IsRow s.config.version s.capacity s.config.nodes (row_by s i notes)
unfolding row_by
row_by_is_row s i notes few =
    row_of_masks s.config.version s.capacity s.config.nodes (λ j. if nat_lt j s.config.nodes && not (j == i) then mask_of (ids_where (notes j) (kind_count s.config.version)) else 0) few (λ j. small j (nat_lt j s.config.nodes && not (j == i))) (λ j l. none j (nat_lt j s.config.nodes) (le-ltb _ _ l))
  where
    small : (j : ℕ) (b : Bool) → (if b then mask_of (ids_where (notes j) (kind_count s.config.version)) else 0) < mask_bound s.config.version
    small j true = mask-of_version s.config.version (notes j)
    small j false = zero_mask s.config.version

    none : (j : ℕ) (b : Bool) → b ≡ false → (if b && not (j == i) then mask_of (ids_where (notes j) (kind_count s.config.version)) else 0) ≡ 0
    none j true h = cc
    none j false h = refl
