-- Groups that are found node by node.
use Rattle.std.proofs.Common.{ℕ, ◌≡◌, ◌≢◌, ◌<◌, ◌≤◌, ◌+◌, true, false, List, length, length-set, set, get_or-set_other, get_or-set_same, below_more, sym, ap, subst, ◌∙◌, inl, inr, arith}
use Rattle.std.proofs.lemmas.Bool.{cases_eq, cases_lt}
use Rattle.node_grid.specs.NodeSet.{has_id}
use Rattle.grouped_nodes.specs.Grouping.{first_of, AreFirsts, AreGroups, Tells}

-- the firsts of the nodes below i are found
pub record AreFound (n : ℕ) (nodes : List ℕ) (tells : Tells) (i : ℕ) (xs : List ℕ) : Type 0 where
  pub wide : length xs ≡ n
  pub early : (j : ℕ) → j < i → first_of xs j ≤ j
  pub own : (j : ℕ) → j < i → first_of xs (first_of xs j) ≡ first_of xs j
  pub others : (j : ℕ) → j < i → has_id nodes j ≡ false → first_of xs j ≡ j
  pub among : (j : ℕ) → j < i → has_id nodes j ≡ true → has_id nodes (first_of xs j) ≡ true
  pub alike : (j : ℕ) → j < i → first_of xs j ≢ j → tells (first_of xs j) j true
  pub apart : (r j : ℕ) → r < j → j < i → has_id nodes r ≡ true → has_id nodes j ≡ true → first_of xs r ≡ r → first_of xs j ≡ j → tells r j false

-- the first of node i
pub record Leads (nodes : List ℕ) (tells : Tells) (i : ℕ) (xs : List ℕ) (v : ℕ) : Type 0 where
  pub early : v ≤ i
  pub own : v ≢ i → first_of xs v ≡ v
  pub others : has_id nodes i ≡ false → v ≡ i
  pub among : has_id nodes i ≡ true → has_id nodes v ≡ true
  pub alike : v ≢ i → tells v i true
  pub apart : v ≡ i → has_id nodes i ≡ true → (r : ℕ) → r < i → has_id nodes r ≡ true → first_of xs r ≡ r → tells r i false

module _ (n : ℕ) (nodes : List ℕ) (tells : Tells) where
  pub found_more : (i : ℕ) (xs : List ℕ) (v : ℕ) → i < n → AreFound n nodes tells i xs → Leads nodes tells i xs v → AreFound n nodes tells (i + 1) (set xs i v)
  found_more i xs v low g l = record {
    wide = length-set xs i v ∙ g.wide;
    early = below_more _ _ (λ j less. subst (λ (x : ℕ). x ≤ j) (sym (kept j less)) (g.early j less)) (subst (λ (x : ℕ). x ≤ i) (sym here) l.early);
    own = below_more _ _ (λ j less. own_before j less) (ap (first_of ys) here ∙ at_first ∙ sym here);
    others = below_more _ _ (λ j less off. kept j less ∙ g.others j less off) (λ off. here ∙ l.others off);
    among = below_more _ _ (λ j less on. ap (has_id nodes) (kept j less) ∙ g.among j less on) (λ on. ap (has_id nodes) here ∙ l.among on);
    alike = below_more _ _ (λ j less ne. subst (λ (x : ℕ). tells x j true) (sym (kept j less)) (g.alike j less (λ e. ne (kept j less ∙ e))))
        (λ ne. subst (λ (x : ℕ). tells x i true) (sym here) (l.alike (λ e. ne (here ∙ e))));
    apart = λ r j before less on_r on_j at_r at_j. elim (cases_eq j i) [
      | inl e ↦
          let same : v ≡ i = sym here ∙ ap (first_of ys) (sym e) ∙ at_j ∙ e in
          let sooner : r < i = omega arith in
          subst (λ (x : ℕ). tells r x false) (sym e) (l.apart same (ap (has_id nodes) (sym e) ∙ on_j) r sooner on_r (sym (kept r sooner) ∙ at_r))
      | inr ne ↦
          let later : j < i = omega arith in
          let sooner : r < i = omega arith in
          g.apart r j before later on_r on_j (sym (kept r sooner) ∙ at_r) (sym (kept j later) ∙ at_j)
    ];
  }
    where
      ys : List ℕ
      ys = set xs i v

      here : first_of ys i ≡ v
      here = get_or-set_same xs i v 0 (let w = g.wide in omega arith)

      kept : (j : ℕ) → j < i → first_of ys j ≡ first_of xs j
      kept j less = let ne : j ≢ i = omega arith in get_or-set_other xs i j v 0 ne

      own_before : (j : ℕ) → j < i → first_of ys (first_of ys j) ≡ first_of ys j
      own_before j less =
          let e = g.early j less in
          let sooner : first_of xs j < i = omega arith in
          ap (first_of ys) (kept j less) ∙ kept (first_of xs j) sooner ∙ g.own j less ∙ sym (kept j less)

      at_first : first_of ys v ≡ v
      at_first = elim (cases_eq v i) [
        | inl e ↦ ap (first_of ys) e ∙ here
        | inr ne ↦ let e = l.early in let sooner : v < i = omega arith in kept v sooner ∙ l.own ne
      ]

  pub found_all : (i : ℕ) (xs : List ℕ) → n ≤ i → AreFound n nodes tells i xs → AreGroups n nodes tells xs
  found_all i xs all g = record {
    others = λ j low. g.others j (omega arith);
    among = λ j low. g.among j (omega arith);
    alike = λ j low. g.alike j (omega arith);
    apart = λ r j before low. g.apart r j before (omega arith);
  }

  pub found_firsts : (i : ℕ) (xs : List ℕ) → n ≤ i → AreFound n nodes tells i xs → AreFirsts n xs
  found_firsts i xs all g = record { early = λ j low. g.early j (omega arith); own = λ j low. g.own j (omega arith) }

-- where all are alike, all are in one group
pub all_one : (n : ℕ) (nodes groups : List ℕ) (tells : Tells) → AreFirsts n groups → AreGroups n nodes tells groups → ((r i : ℕ) → r < i → i < n → tells r i false → ⊥)
    → (i j : ℕ) → i < n → j < n → has_id nodes i ≡ true → has_id nodes j ≡ true → first_of groups i ≡ first_of groups j
all_one n nodes groups tells f g never i j low_i low_j on_i on_j = go (first_of groups i) (first_of groups j) (f.early i low_i) (f.early j low_j) (f.own i low_i) (f.own j low_j) (g.among i low_i on_i) (g.among j low_j on_j)
  where
    go : (a b : ℕ) → a ≤ i → b ≤ j → first_of groups a ≡ a → first_of groups b ≡ b → has_id nodes a ≡ true → has_id nodes b ≡ true → a ≡ b
    go a b le_a le_b own_a own_b on_a on_b = elim (cases_eq a b) [
      | inl e ↦ e
      | inr ne ↦ elim (cases_lt a b) [
        | inl less ↦ absurd (never a b less (omega arith) (g.apart a b less (omega arith) on_a on_b own_a own_b))
        | inr more ↦ let less : b < a = omega arith in absurd (never b a less (omega arith) (g.apart b a less (omega arith) on_b on_a own_b own_a))
      ]
    ]
