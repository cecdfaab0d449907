-- From whom nodes take their votes over, while they vote one after another.
use Rattle.std.proofs.Common.{ℕ, ℤ, ◌≡◌, ◌≢◌, ◌<◌, ◌≤◌, ◌+◌, List, [], length, length-set, set, get_or, get_or-set_other, get_or-set_same, Option, sym, ap, ◌∙◌, inl, inr, arith}
use Rattle.std.proofs.lemmas.Bool.{cases_eq, cases_lt}
use Rattle.at_once.specs.Kept.{of_node}

-- those of the nodes below k took theirs over, and the others have their own
pub record AreVotersBelow (n k : ℕ) (votes : List (List (Option ℤ))) (voters : List ℕ) : Type 0 where
  pub wide : length voters ≡ n
  pub early : (j : ℕ) → j < n → get_or voters j 0 ≤ j
  pub alone : (j : ℕ) → k ≤ j → j < n → get_or voters j 0 ≡ j
  pub same : (j : ℕ) → j < n → of_node votes (get_or voters j 0) ≡ of_node votes j

module _ (n : ℕ) (votes : List (List (Option ℤ))) (voters : List ℕ) where
  pub voters_none : length voters ≡ n → ((j : ℕ) → j < n → get_or voters j 0 ≡ j) → AreVotersBelow n 0 votes voters
  voters_none wide own = record {
    wide = wide;
    early = λ j low. let o = own j low in omega arith;
    alone = λ j high low. own j low;
    same = λ j low. ap (of_node votes) (own j low);
  }

  module _ (k : ℕ) (was : AreVotersBelow n k votes voters) where
    pub voters_skip : AreVotersBelow n (k + 1) votes voters
    voters_skip = record {
      wide = was.wide;
      early = was.early;
      alone = λ j high low. was.alone j (omega arith) low;
      same = was.same;
    }

    other : (v : List (Option ℤ)) (m : ℕ) → m ≢ k → of_node (set votes k v) m ≡ of_node votes m
    other v m ne = get_or-set_other votes k m v [] ne

    same_later : (v : List (Option ℤ)) (j : ℕ) → j < n → of_node (set votes k v) (get_or voters j 0) ≡ of_node (set votes k v) j
    same_later v j low = elim (cases_lt j k) [
      | inl less ↦
          let e = was.early j low in
          let ne : get_or voters j 0 ≢ k = omega arith in
          let ne_j : j ≢ k = omega arith in
          other v (get_or voters j 0) ne ∙ was.same j low ∙ sym (other v j ne_j)
      | inr high ↦ ap (of_node (set votes k v)) (was.alone j high low)
    ]

    -- node k votes for itself
    pub voters_own : (v : List (Option ℤ)) → AreVotersBelow n (k + 1) (set votes k v) voters
    voters_own v = record {
      wide = was.wide;
      early = was.early;
      alone = λ j high low. was.alone j (omega arith) low;
      same = same_later v;
    }

    -- it takes over what node r votes
    pub voters_taken : (r : ℕ) → r < k → k < n → length votes ≡ n → AreVotersBelow n (k + 1) (set votes k (of_node votes r)) (set voters k r)
    voters_taken r less low_k wide =
        let v : List (Option ℤ) = of_node votes r in
        let here : get_or (set voters k r) k 0 ≡ r = get_or-set_same voters k r 0 (let w = was.wide in omega arith) in
        let there : (j : ℕ) → j ≢ k → get_or (set voters k r) j 0 ≡ get_or voters j 0 = λ j ne. get_or-set_other voters k j r 0 ne in
        let ne_r : r ≢ k = omega arith in
        record {
          wide = length-set voters k r ∙ was.wide;
          early = λ j low. elim (cases_eq j k) [
            | inl e ↦ let h : get_or (set voters k r) j 0 ≡ r = ap (λ (m : ℕ). get_or (set voters k r) m 0) e ∙ here in omega (arith, h, e, less)
            | inr ne ↦ let h = there j ne in let e = was.early j low in omega arith
          ];
          alone = λ j high low. let ne : j ≢ k = omega arith in there j ne ∙ was.alone j (omega arith) low;
          same = λ j low. elim (cases_eq j k) [
            | inl e ↦
                ap (λ (m : ℕ). of_node (set votes k v) (get_or (set voters k r) m 0)) e
                ∙ ap (of_node (set votes k v)) here
                ∙ other v r ne_r
                ∙ sym (get_or-set_same votes k v [] (omega (arith, wide, low_k)))
                ∙ ap (of_node (set votes k v)) (sym e)
            | inr ne ↦ ap (of_node (set votes k v)) (there j ne) ∙ same_later v j low
          ];
        }
