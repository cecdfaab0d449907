-- Beliefs that are filled in at the firsts of groups of awake nodes.
use Rattle.std.proofs.Common.{ℕ, ◌≡◌, ◌≢◌, ◌<◌, ◌≤◌, ◌+◌, true, false, List, length, length-set, set, get_or, get_or-set_other, get_or-set_same, refl, sym, ap, ◌∙◌, inl, inr, arith}
use Rattle.std.proofs.lemmas.Bool.{cases_eq}
use Rattle.node_grid.specs.NodeSet.{has_id}
use Rattle.node_grid.specs.ListFacts.{same_at}
use Rattle.shared_states.specs.declared.belief.Belief.{Belief}
use Rattle.grouped_nodes.specs.Grouping.{first_of}

-- of the nodes below f this was put at the firsts
pub record AreFilled {N : ℕ} (nodes groups : List ℕ) (value : ℕ → Belief N → Belief N) (old : List (Belief N)) (f : ℕ) (xs : List (Belief N)) : Type 0 where
  pub wide : length xs ≡ N
  pub so_far : (j : ℕ) (d : Belief N) → j < f → has_id nodes j ≡ true → first_of groups j ≡ j → get_or xs j d ≡ value j (get_or old j d)
  pub others : (j : ℕ) (d : Belief N) → has_id nodes j ≡ false → get_or xs j d ≡ get_or old j d
  pub rest : (j : ℕ) (d : Belief N) → f ≤ j → get_or xs j d ≡ get_or old j d

module _ {N : ℕ} (nodes groups : List ℕ) (value : ℕ → Belief N → Belief N) (old : List (Belief N)) where
  pub filled_none : length old ≡ N → AreFilled nodes groups value old 0 old
  filled_none many = record { wide = many; so_far = λ j d low. absurd (omega arith); others = λ j d off. refl; rest = λ j d high. refl }

  pub filled_put : (f : ℕ) (xs : List (Belief N)) (d y : Belief N) → f < N → has_id nodes f ≡ true → AreFilled nodes groups value old f xs → y ≡ value f (get_or xs f d) → AreFilled nodes groups value old (f + 1) (set xs f y)
  filled_put f xs d y low on m is =
      let room : f < length xs = (let w = m.wide in omega arith) in
      record {
        wide = length-set xs f y ∙ m.wide;
        so_far = λ j e less among own. elim (cases_eq j f) [
          | inl same ↦
              ap (λ (k : ℕ). get_or (set xs f y) k e) same ∙ get_or-set_same xs f y e room ∙ is
              ∙ ap (value f) (same_at xs f d e room ∙ m.rest f e (omega arith)) ∙ sym (ap (λ (k : ℕ). value k (get_or old k e)) same)
          | inr ne ↦ get_or-set_other xs f j y e ne ∙ m.so_far j e (omega arith) among own
        ];
        others = λ j e off. elim (cases_eq j f) [
          | inl same ↦ absurd (let clash : true ≡ false = sym on ∙ ap (has_id nodes) (sym same) ∙ off in cc)
          | inr ne ↦ get_or-set_other xs f j y e ne ∙ m.others j e off
        ];
        rest = λ j e high. let ne : j ≢ f = omega arith in get_or-set_other xs f j y e ne ∙ m.rest j e (omega arith);
      }

  pub filled_skip : (f : ℕ) (xs : List (Belief N)) → (has_id nodes f ≡ true → first_of groups f ≡ f → ⊥) → AreFilled nodes groups value old f xs → AreFilled nodes groups value old (f + 1) xs
  filled_skip f xs never m = record {
    wide = m.wide;
    so_far = λ j d less among own. elim (cases_eq j f) [
      | inl same ↦ absurd (never (ap (has_id nodes) (sym same) ∙ among) (ap (first_of groups) (sym same) ∙ own ∙ same))
      | inr ne ↦ m.so_far j d (omega arith) among own
    ];
    others = m.others;
    rest = λ j d high. m.rest j d (omega arith);
  }
