-- One more term is laid for each receiver: it stands in a column of rows of sixteen, behind sixteen values by node.
use Rattle.std.proofs.Common.{ℕ, ◌≡◌, ◌≢◌, ◌<◌, ◌≤◌, ◌+◌, ◌*◌, true, List, get_or, ap, ◌∙◌, arith}
use Rattle.node_grid.specs.NodeSet.{has_id}
use Rattle.odd_relays.proofs.Places.{cells_apart}

-- where the term of node i stands, by its row and by its column
cell : (from n i : ℕ) → from + 16 + 16 * i + n ≡ from + 16 + n + 16 * i
cell from n i = omega arith

-- all receivers' terms are laid alike
module _ {W : Type 0} (d : W) (from n : ℕ) (few : n ≤ 15) (nodes : List ℕ) (was filled : List W) (own : W)
    (kept : (k : ℕ) → ((i : ℕ) → has_id nodes i ≡ true → k ≢ from + 16 + n + 16 * i) → get_or filled k d ≡ get_or was k d)
    (laid : (i : ℕ) → has_id nodes i ≡ true → get_or filled (from + 16 + n + 16 * i) d ≡ own) where
  pub filled_row : (i j : ℕ) → j < n → get_or filled (from + 16 + 16 * i + j) d ≡ get_or was (from + 16 + 16 * i + j) d
  filled_row i j less = kept (from + 16 + 16 * i + j) (λ k on. cells_apart from n i j k less few)

  pub filled_here : (i : ℕ) → has_id nodes i ≡ true → get_or filled (from + 16 + 16 * i + n) d ≡ own
  filled_here i on = ap (λ (k : ℕ). get_or filled k d) (cell from n i) ∙ laid i on

  pub filled_below : (k : ℕ) → k < from → get_or filled k d ≡ get_or was k d
  filled_below k low = kept k (λ i on e. omega (arith, low, e))

  -- and then those of some of them are laid anew, from values that were made behind the rows
  module _ (others : List ℕ) (deeper final : List W) (below : (k : ℕ) → k < from + 272 → get_or deeper k d ≡ get_or filled k d)
      (stays : (k : ℕ) → ((i : ℕ) → has_id others i ≡ true → k ≢ from + 16 + n + 16 * i) → get_or final k d ≡ get_or deeper k d)
      (copied : (i : ℕ) → has_id others i ≡ true → get_or final (from + 16 + n + 16 * i) d ≡ get_or deeper (from + 272 + i) d) where
    pub final_row : (i j : ℕ) → i < 16 → j < n → get_or final (from + 16 + 16 * i + j) d ≡ get_or was (from + 16 + 16 * i + j) d
    final_row i j low less =
        stays (from + 16 + 16 * i + j) (λ k on. cells_apart from n i j k less few)
        ∙ below (from + 16 + 16 * i + j) (omega (arith, low, less, few)) ∙ filled_row i j less

    pub final_copied : (i : ℕ) → has_id others i ≡ true → get_or final (from + 16 + 16 * i + n) d ≡ get_or deeper (from + 272 + i) d
    final_copied i on = ap (λ (k : ℕ). get_or final k d) (cell from n i) ∙ copied i on

    pub final_own : (i : ℕ) → i < 16 → has_id nodes i ≡ true → ((k : ℕ) → has_id others k ≡ true → i ≢ k) → get_or final (from + 16 + 16 * i + n) d ≡ own
    final_own i low on apart =
        ap (λ (k : ℕ). get_or final k d) (cell from n i)
        ∙ stays (from + 16 + n + 16 * i) (λ k at e. apart k at (omega (arith, e)))
        ∙ below (from + 16 + n + 16 * i) (omega (arith, low, few)) ∙ laid i on

    pub final_below : (k : ℕ) → k < from → get_or final k d ≡ get_or was k d
    final_below k low = stays k (λ i on e. omega (arith, low, e)) ∙ below k (omega (arith, low)) ∙ filled_below k low
