use Rattle.std.proofs.Common.{ℕ, ◌≡◌, ◌+◌, ◌==◌, ◌||◌, true, List, ap, ◌∙◌, inl, inr, arith}
use Rattle.std.proofs.lemmas.Bool.{cases_lt, or_left, or_right, both_ways}
use Rattle.node_grid.specs.NodeSet.{has_id, with_id, union_of, IsIdSet}
use Rattle.node_grid.specs.NodeSetLaws.{has-filter, has-with_id, hasnt-above}
use Rattle.worked_chains.proofs.draws.Draws.nodes.Goals as goal

-- a set is within its union with another one and a node more
within_more : (n : ℕ) (s t union more : List ℕ) (x q : ℕ) → IsIdSet n s → union ≡ union_of n s t → more ≡ with_id n union x → has_id s q ≡ true → has_id more q ≡ true
within_more n s t union more x q ids u m on = elim (cases_lt q n) [
  | inl low ↦ ap (λ (ys : List ℕ). has_id ys q) m ∙ has-with_id n union x q low
      ∙ or_right (q == x) (has_id union q) (ap (λ (ys : List ℕ). has_id ys q) u ∙ has-filter (λ k. has_id s k || has_id t k) n q low ∙ or_left (has_id s q) (has_id t q) on)
  | inr high ↦ absurd (both_ways _ (hasnt-above n s q ids (omega arith)) on)
]

pub invariant_of-result-clause-all_awake : goal.invariant_of-result-clause-all_awake
invariant_of-result-clause-all_awake c = λ q on. within_more 16 c.minus-full.result c.some_of-others.result c.union-awake.result c.put.new.self (4 + c.below-count.result) q c.len.ensures.ids c.union-awake.ensures c.put.ensures on
