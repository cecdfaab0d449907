-- Groups that were made by a test of two nodes.
use Rattle.std.proofs.Common.{ℕ, ◌<◌, true, List, sym, subst, inl, inr, arith}
use Rattle.std.proofs.lemmas.Bool.{cases_eq}
use Rattle.grouped_nodes.specs.Grouping.{first_of, AreFirsts, AreGroups, Tells}

-- what holds of each node and itself, and of nodes that are told to be alike, holds of each node's first and the node
pub of_first : (n : ℕ) (nodes groups : List ℕ) (tells : Tells) (P : ℕ → ℕ → Type 0) → AreFirsts n groups → AreGroups n nodes tells groups → ((i : ℕ) → P i i)
    → ((r i : ℕ) → r < n → i < n → tells r i true → P r i) → (i : ℕ) → i < n → P (first_of groups i) i
of_first n nodes groups tells P firsts are own pair i low = elim (cases_eq (first_of groups i) i) [
  | inl e ↦ subst (λ (r : ℕ). P r i) (sym e) (own i)
  | inr ne ↦
      let early = firsts.early i low in
      let first : first_of groups i < n = omega arith in
      pair (first_of groups i) i first low (are.alike i low ne)
]
