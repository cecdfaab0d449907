-- The illnesses of all nodes after one more period.
use Rattle.std.proofs.Common.{◌≡◌, ℕ, zero, suc, ◌+◌, ◌*◌, ◌<◌, ◌≤◌, Bool, true, false, cond, not, List, [], ◌∷◌, ◌++◌, length, map, refl, sym, ap, ◌∙◌, inl, inr, arith}
use Rattle.std.specs.Prelude.{All}
use Rattle.std.specs.List.{filter, flat_map, range_with_len}
use Rattle.std.proofs.lemmas.Bool.{cases_Bool, and_parts}
use Rattle.std.proofs.lemmas.List.{map-append, flat_map_more, length-append, length-map}
use Rattle.std.proofs.lemmas.List.Elements.{All-nil, All-append, All-map, All-weaker}
use Rattle.node_grid.specs.NodeSet.{ids_below, ids_where}
use Rattle.node_grid.specs.NodeSetLaws.{IsIdSet-filter, All-ids, length-ids}
use Rattle.node_grid.specs.Class.{is_sound}
use Rattle.node_grid.specs.ListFacts.{range_next}
use Rattle.run_judged.specs.declared.illness.Illness.{Illness}
use Rattle.run_judged.specs.declared.illness.Sign.{Sign}
use Rattle.run_judged.specs.Illnesses.{is_ill, falls_ill, illness, illnesses_from, illnesses}
use Rattle.run_judged.specs.Growing.{begun, grown, IsOf}
use Rattle.run_judged.proofs.Grown.{grown_next, begun_next, few_members}

map_where : {X : Type 0} (f g : ℕ → X) (test : ℕ → Bool) → ((x : ℕ) → test x ≡ true → f x ≡ g x) → (xs : List ℕ) → map f (filter test xs) ≡ map g (filter test xs)
map_where f g test same [] = refl
map_where f g test same (x ∷ xs) =
    elim (test x) as (λ b. test x ≡ b → map f (cond b (x ∷ filter test xs) (filter test xs)) ≡ map g (cond b (x ∷ filter test xs) (filter test xs))) [
      | true ↦ λ e. rw (same x e, map_where f g test same xs) refl
      | false ↦ λ e. map_where f g test same xs
    ] refl

module _ (seen : ℕ → ℕ → Sign) where
  -- what period n makes of an illness
  abbrev pub grown_in : ℕ → Illness → Illness
  grown_in n x = grown n (seen x.node n) x

  grown_all : (n o : ℕ) → o ≤ n → (js : List ℕ) → map (λ j. illness (seen j) (n + 1) o j) js ≡ map (grown_in n) (map (λ j. illness (seen j) n o j) js)
  grown_all n o h [] = refl
  grown_all n o h (j ∷ js) = rw (grown_next (seen j) n o j h, grown_all n o h js) refl

  grown_flat : (nodes n a k : ℕ) → a + k ≤ n
      → flat_map (illnesses_from seen nodes (n + 1)) (range_with_len a k) ≡ map (grown_in n) (flat_map (illnesses_from seen nodes n) (range_with_len a k))
  grown_flat nodes n a zero h = refl
  grown_flat nodes n a (suc k) h =
      ap (λ (xs : List Illness). xs ++ flat_map (illnesses_from seen nodes (n + 1)) (range_with_len (a + 1) k)) (grown_all n a (omega arith) (ids_where (λ j. falls_ill (seen j) a) nodes))
      ∙ ap (λ (xs : List Illness). map (grown_in n) (illnesses_from seen nodes n a) ++ xs) (grown_flat nodes n (a + 1) k (omega arith))
      ∙ sym (map-append (grown_in n) (illnesses_from seen nodes n a) (flat_map (illnesses_from seen nodes n) (range_with_len (a + 1) k)))

  is_ill_then : (j n : ℕ) → falls_ill (seen j) n ≡ true → is_sound (seen j n).class ≡ false
  is_ill_then j zero e = elim (cases_Bool (is_sound (seen j zero).class)) [ inl w ↦ let f : false ≡ true = ap not (sym w) ∙ e in cc | inr i ↦ i ]
  is_ill_then j (suc n) e =
      let both = and_parts (is_ill (seen j) (suc n)) (not (is_ill (seen j) n)) e in
      elim (cases_Bool (is_sound (seen j (suc n)).class)) [ inl w ↦ let f : false ≡ true = ap not (sym w) ∙ both.0 in cc | inr i ↦ i ]

  pub illnesses_next : (nodes n : ℕ) → illnesses seen nodes (n + 1)
      ≡ map (grown_in n) (illnesses seen nodes n) ++ map (λ j. begun n j (seen j n)) (ids_where (λ j. falls_ill (seen j) n) nodes)
  unfolding illnesses
  illnesses_next nodes n =
      let e : n + 1 ≡ suc n = omega arith in
      let z : 0 + n ≡ n = omega arith in
      ap (λ (k : ℕ). flat_map (illnesses_from seen nodes (n + 1)) (ids_below k)) e
      ∙ ap (flat_map (illnesses_from seen nodes (n + 1))) (range_next 0 n)
      ∙ ap (λ (k : ℕ). flat_map (illnesses_from seen nodes (n + 1)) (ids_below n ++ k ∷ [])) z
      ∙ sym (flat_map_more (illnesses_from seen nodes (n + 1)) [] (ids_below n) n)
      ∙ ap (λ (xs : List Illness). xs ++ illnesses_from seen nodes (n + 1) n) (grown_flat nodes n 0 n (omega arith))
      ∙ ap (λ (xs : List Illness). map (grown_in n) (flat_map (illnesses_from seen nodes n) (ids_below n)) ++ xs)
      (map_where (λ j. illness (seen j) (n + 1) n j) (λ j. begun n j (seen j n)) (λ j. falls_ill (seen j) n) (λ j t. begun_next (seen j) n j (is_ill_then j n t)) (ids_below nodes))

  pub no_illnesses : (nodes : ℕ) → illnesses seen nodes 0 ≡ []
  unfolding illnesses
  no_illnesses nodes = refl

  -- each is of a node in use, and how many there are
  of_flat : (nodes n a k : ℕ) → a + k ≤ n → All (IsOf nodes n) (flat_map (illnesses_from seen nodes n) (range_with_len a k))
  of_flat nodes n a zero h = All-nil (IsOf nodes n)
  of_flat nodes n a (suc k) h =
      let js = ids_where (λ j. falls_ill (seen j) a) nodes in
      All-append (IsOf nodes n) (illnesses_from seen nodes n a) (flat_map (illnesses_from seen nodes n) (range_with_len (a + 1) k))
      (All-map (IsOf nodes n) (λ j. illness (seen j) n a j) js
      (All-weaker (λ j. j < nodes) (λ j. IsOf nodes n (illness (seen j) n a j)) (λ j low. record { node = low; few = few_members (seen j) n a j (omega arith) }) js (All-ids nodes js (IsIdSet-filter (λ j. falls_ill (seen j) a) nodes))))
      (of_flat nodes n (a + 1) k (omega arith))

  pub all_of : (nodes n : ℕ) → All (IsOf nodes n) (illnesses seen nodes n)
  unfolding illnesses
  all_of nodes n = of_flat nodes n 0 n (omega arith)

  few_flat : (nodes n a k : ℕ) → length (flat_map (illnesses_from seen nodes n) (range_with_len a k)) ≤ nodes * k
  few_flat nodes n a zero = omega arith
  few_flat nodes n a (suc k) =
      let js = ids_where (λ j. falls_ill (seen j) a) nodes in
      omega (
        arith,
        length-append (illnesses_from seen nodes n a) (flat_map (illnesses_from seen nodes n) (range_with_len (a + 1) k)),
        length-map js (λ j. illness (seen j) n a j),
        length-ids nodes js (IsIdSet-filter (λ j. falls_ill (seen j) a) nodes),
        few_flat nodes n (a + 1) k,
      )

  pub few_illnesses : (nodes n : ℕ) → length (illnesses seen nodes n) ≤ nodes * n
  unfolding illnesses
  few_illnesses nodes n = few_flat nodes n 0 n
