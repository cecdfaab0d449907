-- A set of those nodes that pass a test, found one after another.
use Rattle.std.proofs.Common.{ℕ, ◌≡◌, ◌<◌, ◌==◌, ◌||◌, Bool, true, false, List, [], ◌∷◌, ◌++◌, sym, ap, ◌∙◌, inl, inr, eq-eqb, eqb-true, ne_eqb}
use Rattle.std.proofs.lemmas.Bool.{cases_Bool, cases_eq, or_cases, or_left, both_ways}
use Rattle.node_grid.specs.NodeSet.{has_id, with_id}
use Rattle.node_grid.specs.NodeSetLaws.{has-with_id}
use Rattle.node_grid.specs.ListLaws.{has_push}

-- of the nodes, those gone through so far that pass the test are found
pub record AreFound (n : ℕ) (test : ℕ → Bool) (nodes ys found : List ℕ) : Type 0 where
  pub told : (i : ℕ) → has_id ys i ≡ true → i < n → has_id found i ≡ test i
  pub sound : (i : ℕ) → i < n → has_id found i ≡ true → (test i ≡ true) × (has_id nodes i ≡ true)

pub found_yes : (n : ℕ) (test : ℕ → Bool) (nodes ys found new : List ℕ) (q : ℕ) → AreFound n test nodes ys found → has_id nodes q ≡ true → test q ≡ true → new ≡ with_id n found q
    → AreFound n test nodes (ys ++ q ∷ []) new
found_yes n test nodes ys found new q f here passes is = record {
  told = λ i on low. elim (cases_eq i q) [
    | inl e ↦ has i low ∙ or_left (i == q) (has_id found i) (eq-eqb i q e) ∙ sym (ap test e ∙ passes)
    | inr ne ↦ has i low ∙ ap (λ (b : Bool). b || has_id found i) (ne_eqb i q ne) ∙ elim (or_cases (has_id ys i) (q == i) (sym (has_push ys q i) ∙ on)) [
      | inl was ↦ f.told i was low
      | inr same ↦ absurd (ne (sym (eqb-true q i same)))
    ]
  ];
  sound = λ i low on. elim (cases_eq i q) [
    | inl e ↦ (ap test e ∙ passes, ap (has_id nodes) e ∙ here)
    | inr ne ↦ f.sound i low (sym (has i low ∙ ap (λ (b : Bool). b || has_id found i) (ne_eqb i q ne)) ∙ on)
  ];
}
  where
    has : (i : ℕ) → i < n → has_id new i ≡ ((i == q) || has_id found i)
    has i low = ap (λ (s : List ℕ). has_id s i) is ∙ has-with_id n found q i low

pub found_no : (n : ℕ) (test : ℕ → Bool) (nodes ys found : List ℕ) (q : ℕ) → AreFound n test nodes ys found → test q ≡ false → AreFound n test nodes (ys ++ q ∷ []) found
found_no n test nodes ys found q f fails = record {
  told = λ i on low. elim (or_cases (has_id ys i) (q == i) (sym (has_push ys q i) ∙ on)) [
    | inl was ↦ f.told i was low
    | inr same ↦
        let no : test i ≡ false = ap test (sym (eqb-true q i same)) ∙ fails in
        elim (cases_Bool (has_id found i)) [
          | inl y ↦ absurd (both_ways _ no (f.sound i low y).0)
          | inr none ↦ none ∙ sym no
        ]
  ];
  sound = f.sound;
}

pub found_none : (n : ℕ) (test : ℕ → Bool) (nodes found : List ℕ) → found ≡ [] → AreFound n test nodes [] found
found_none n test nodes found none = record {
  told = λ i on low. absurd (cc);
  sound = λ i low on. let h : has_id [] i ≡ true = ap (λ (s : List ℕ). has_id s i) (sym none) ∙ on in absurd (cc);
}
