-- What the lists of a step have at each node.
use Rattle.std.proofs.Common.{◌≡◌, ◌≢◌, ℕ, ◌+◌, ◌-◌, ◌<◌, ◌≤◌, true, false, cond, List, length, set, get_or, refl, sym, ap, ◌∙◌, arith, inl, inr, get_or-set_same, get_or-set_other, length-set}
use Rattle.std.specs.Prelude.{◌==◌, min}
use Rattle.std.proofs.lemmas.Bool.{cases_lt, lt-ltb, le-ltb}
use Rattle.std.proofs.lemmas.List.{ext_get_or, get_or_past}
use Rattle.std.proofs.lemmas.List.FromFn.{length-map-range_with_len, get_or-map-range_with_len}
use Rattle.penalty.specs.declared.Policy.{Policy}
use Rattle.penalty.specs.Step.{for_nodes, penalty, count_after, streak_after, counts_after, streaks_after, IsCounted}
use Rattle.std.proofs.Math.Nat.{min-le_left}

pub length-for_nodes : (nodes : ℕ) (value : ℕ → ℕ) (xs : List ℕ) → length (for_nodes nodes value xs) ≡ length xs
length-for_nodes nodes value xs = length-map-range_with_len _ 0 (length xs)

-- a node in use has its new value
pub for_nodes-at : (nodes : ℕ) (value : ℕ → ℕ) (xs : List ℕ) (j : ℕ) → j < nodes → j < length xs → get_or (for_nodes nodes value xs) j 0 ≡ value j
for_nodes-at nodes value xs j in_use within =
    get_or-map-range_with_len _ 0 (length xs) j j 0 within (omega arith) ∙ rw (lt-ltb j nodes in_use) refl

-- behind them all is as it was
pub for_nodes-past : (nodes : ℕ) (value : ℕ → ℕ) (xs : List ℕ) (j : ℕ) → nodes ≤ j → get_or (for_nodes nodes value xs) j 0 ≡ get_or xs j 0
for_nodes-past nodes value xs j past =
    elim (cases_lt j (length xs)) [
      | inl within ↦ get_or-map-range_with_len _ 0 (length xs) j j 0 within (omega arith) ∙ rw (le-ltb j nodes past) refl
      | inr beyond ↦
          let no_longer : length (for_nodes nodes value xs) ≤ j = omega (arith, length-for_nodes nodes value xs) in
          get_or_past (for_nodes nodes value xs) j 0 no_longer ∙ sym (get_or_past xs j 0 beyond)
    ]

-- a loop over the nodes
pub for_nodes-none : (value : ℕ → ℕ) (xs : List ℕ) → for_nodes 0 value xs ≡ xs
for_nodes-none value xs = ext_get_or 0 _ _ (length-for_nodes 0 value xs) (λ j h. for_nodes-past 0 value xs j (omega arith))

pub for_nodes-more : (i : ℕ) (value : ℕ → ℕ) (xs : List ℕ) → i < length xs → for_nodes (i + 1) value xs ≡ set (for_nodes i value xs) i (value i)
for_nodes-more i value xs within =
    ext_get_or 0 _ _ (length-for_nodes (i + 1) value xs ∙ sym (length-set (for_nodes i value xs) i (value i) ∙ length-for_nodes i value xs)) (λ j h.
    let inside : j < length xs = omega (arith, length-for_nodes (i + 1) value xs) in
    let room : i < length (for_nodes i value xs) = omega (arith, length-for_nodes i value xs) in
    elim (cases_lt j i) [
      | inl before ↦
          let other : j ≢ i = omega arith in
          for_nodes-at (i + 1) value xs j (omega arith) inside ∙ sym (for_nodes-at i value xs j before inside)
          ∙ sym (get_or-set_other (for_nodes i value xs) i j (value i) 0 other)
      | inr not_before ↦ elim (cases_lt i j) [
        | inl after ↦
            let other : j ≢ i = omega arith in
            for_nodes-past (i + 1) value xs j (omega arith) ∙ sym (for_nodes-past i value xs j (omega arith))
            ∙ sym (get_or-set_other (for_nodes i value xs) i j (value i) 0 other)
        | inr not_after ↦
            let same : j ≡ i = omega arith in
            for_nodes-at (i + 1) value xs j (omega arith) inside ∙ ap value same
            ∙ sym (get_or-set_same (for_nodes i value xs) i (value i) 0 room) ∙ ap (λ k. get_or (set (for_nodes i value xs) i (value i)) k 0) (sym same)
      ]
    ])

-- ---- counts stay within the cap, and streaks below a full one

pub count-capped : (policy : Policy) (mask count streak : ℕ) → count ≤ policy.cap → count_after policy mask count streak ≤ policy.cap
count-capped policy mask count streak capped =
    elim (mask == 0) as (λ b. cond b (cond (streak + 1 == policy.streak) (count - policy.credit) count) (min policy.cap (count + penalty policy.weights mask)) ≤ policy.cap) [
      | true ↦ elim (streak + 1 == policy.streak) as (λ b. cond b (count - policy.credit) count ≤ policy.cap) [ true ↦ omega arith | false ↦ capped ]
      | false ↦ min-le_left policy.cap (count + penalty policy.weights mask)
    ]

pub streak-unfilled : (policy : Policy) (mask streak : ℕ) → streak < policy.streak → streak_after policy mask streak < policy.streak
streak-unfilled policy mask streak unfilled =
    elim (mask == 0) as (λ b. cond b (cond (streak + 1 == policy.streak) 0 (streak + 1)) 0 < policy.streak) [
      | true ↦ elim (streak + 1 == policy.streak) as (λ b. (streak + 1 == policy.streak) ≡ b → cond b 0 (streak + 1) < policy.streak) [
        | true ↦ λ e. omega arith
        | false ↦ λ e. grind arith
      ] refl
      | false ↦ omega arith
    ]

pub counted-after : (policy : Policy) (nodes : ℕ) (charge : ℕ → ℕ) (counts streaks : List ℕ) → nodes ≤ length counts → nodes ≤ length streaks
    → IsCounted policy nodes counts streaks → IsCounted policy nodes (counts_after policy nodes charge counts streaks) (streaks_after policy nodes charge streaks)
counted-after policy nodes charge counts streaks counts_room streaks_room counted = record {
  capped = λ j in_use.
      let at = for_nodes-at nodes (λ k. count_after policy (charge k) (get_or counts k 0) (get_or streaks k 0)) counts j in_use (omega arith) in
      omega (arith, at, count-capped policy (charge j) (get_or counts j 0) (get_or streaks j 0) (counted.capped j in_use));
  unfilled = λ j in_use.
      let at = for_nodes-at nodes (λ k. streak_after policy (charge k) (get_or streaks k 0)) streaks j in_use (omega arith) in
      omega (arith, at, streak-unfilled policy (charge j) (get_or streaks j 0) (counted.unfilled j in_use));
}
