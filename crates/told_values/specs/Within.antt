-- Notes that say nothing of their own node, nor of nodes and kinds that there aren't: nothing noted besides leaves them as they are.
use Rattle.std.proofs.Common.{ℕ, ◌≡◌, ◌≤◌, ◌||◌, Bool, false, ◌∙◌}
use Rattle.std.proofs.Math.Bool.{or-false}
use Rattle.error_reports.specs.Notes.{Notes, also_noted}
use Rattle.error_reports.specs.NoteLaws.{noted_alike, noted_twice}

abbrev pub IsWithin : ℕ → Notes → Type 0
IsWithin capacity n = also_noted capacity n (λ j k. false) ≡ n

-- for callers: so are notes to which anything was added
pub noted_within : (capacity : ℕ) (n : Notes) (p : ℕ → ℕ → Bool) → n.kinds ≤ 16 → IsWithin capacity (also_noted capacity n p)
noted_within capacity n p few = noted_twice capacity n p (λ j k. false) few ∙ noted_alike capacity n (λ j k. p j k || false) p (λ j k low used other within. or-false (p j k))

-- and to notes that are so, what says nothing adds nothing
pub noted_nothing : (capacity : ℕ) (n : Notes) (p : ℕ → ℕ → Bool) → IsWithin capacity n → ((j k : ℕ) → p j k ≡ false) → also_noted capacity n p ≡ n
noted_nothing capacity n p within none = noted_alike capacity n p (λ j k. false) (λ j k low used other few. none j k) ∙ within

-- the notes of node i out of so many nodes that are such
pub record AreNotesOf (capacity nodes i : ℕ) (n : Notes) : Type 0 where
  pub nodes_are : n.nodes ≡ nodes
  pub me_is : n.me ≡ i
  pub few_kinds : n.kinds ≤ 16
  pub within : IsWithin capacity n
