-- What is found of the nodes in use, and what is seen of them: counts, and the illnesses after one more period.
use Rattle.std.proofs.Common.{◌≡◌, ℕ, zero, suc, ◌+◌, ◌<◌, ◌≤◌, Bool, true, false, not, ◌&&◌, ◌||◌, List, [], ◌∷◌, ◌++◌, map, refl, sym, ap, ap₂, ◌∙◌, arith}
use Rattle.std.specs.Prelude.{All}
use Rattle.std.specs.List.{list_all}
use Rattle.std.proofs.lemmas.List.Elements.{All-head, All-tail}
use Rattle.node_grid.specs.NodeSet.{ids_below, ids_where, has_id, union_of}
use Rattle.node_grid.specs.NodeSetLaws.{filter_range, has-filter, IsIdSet-filter, All-ids}
use Rattle.node_grid.specs.Count.{count}
use Rattle.node_grid.specs.Class.{is_sound, is_nonfaulty}
use Rattle.node_grid.specs.ListFacts.{range_next}
use Rattle.node_grid.specs.SetFacts.{count_ids}
use Rattle.run_judged.specs.declared.illness.Illness.{Illness}
use Rattle.run_judged.specs.declared.illness.Sign.{Sign}
use Rattle.run_judged.specs.declared.found.Findings.{Findings}
use Rattle.run_judged.specs.Illnesses.{is_ill, falls_ill, sound_after, illnesses}
use Rattle.run_judged.specs.Growing.{begun, grown, IsOf}
use Rattle.run_judged.specs.Found.{sign_by, AreFound}
use Rattle.run_judged.specs.Rows.{is_spotless, charges_in, false_charges_in, false_exclusions_in}
use Rattle.run_judged.proofs.Listed.{grown_in, illnesses_next, all_of}

-- ---- counts over the same numbers

where_same : (f g : ℕ → Bool) (n : ℕ) → ((k : ℕ) → k < n → f k ≡ g k) → ids_where f n ≡ ids_where g n
where_same f g n h = filter_range f g 0 n (λ k l u. h k (omega arith))

all_append : (f : ℕ → Bool) (xs : List ℕ) (x : ℕ) → list_all f (xs ++ x ∷ []) ≡ (list_all f xs && f x)
all_append f [] x = elim (f x) as (λ b. (b && true) ≡ (true && b)) [ true ↦ refl | false ↦ refl ]
all_append f (y ∷ xs) x = elim (f y) as (λ b. (b && list_all f (xs ++ x ∷ [])) ≡ ((b && list_all f xs) && f x)) [ true ↦ all_append f xs x | false ↦ refl ]

map_all : (f g : Illness → Illness) (P : Illness → Type 0) → ((x : Illness) → P x → f x ≡ g x) → (xs : List Illness) → All P xs → map f xs ≡ map g xs
map_all f g P h [] all = refl
map_all f g P h (x ∷ xs) all = ap₂ (λ (y : Illness) (ys : List Illness). y ∷ ys) (h x (All-head P x xs all)) (map_all f g P h xs (All-tail P x xs all))

map_ids : (f g : ℕ → Illness) (P : ℕ → Type 0) → ((x : ℕ) → P x → f x ≡ g x) → (xs : List ℕ) → All P xs → map f xs ≡ map g xs
map_ids f g P h [] all = refl
map_ids f g P h (x ∷ xs) all = ap₂ (λ (y : Illness) (ys : List Illness). y ∷ ys) (h x (All-head P x xs all)) (map_ids f g P h xs (All-tail P x xs all))

falls_at : (seen : ℕ → ℕ → Sign) (n j : ℕ) → (sound_after seen n j && not (is_sound (seen j n).class)) ≡ falls_ill (seen j) n
falls_at seen zero j = refl
falls_at seen (suc p) j =
    elim (is_sound (seen j p).class) as (λ a. (a && not (is_sound (seen j (suc p)).class)) ≡ (not (is_sound (seen j (suc p)).class) && not (not a))) [
      | true ↦ elim (is_sound (seen j (suc p)).class) as (λ b. not b ≡ (not b && true)) [ true ↦ refl | false ↦ refl ]
      | false ↦ elim (is_sound (seen j (suc p)).class) as (λ b. false ≡ (not b && false)) [ true ↦ refl | false ↦ refl ]
    ]

module _ {capacity : ℕ} (seen : ℕ → ℕ → Sign) (nodes n : ℕ) (f : Findings capacity) (found : AreFound seen nodes n f) where
  -- ---- charges

  pub charges_found : count (λ j. has_id f.charged j && not (has_id f.sound j)) (ids_below nodes) ≡ charges_in seen nodes n
  charges_found =
      count_ids (λ j. has_id f.charged j && not (has_id f.sound j)) (λ j. (seen j n).charged && is_ill (seen j) n) nodes
      (λ j low. ap₂ (λ (a b : Bool). a && not b) (ap (λ (s : Sign). s.charged) (found.each j low)) (found.sound j low))

  -- the nodes that weren't nonfaulty in some period
  pub spotless_found : (faulty : List ℕ) → nodes ≤ capacity → ((j : ℕ) → j < nodes → has_id faulty j ≡ not (is_spotless seen n j))
      → (j : ℕ) → j < nodes → has_id (union_of capacity faulty f.faulty) j ≡ not (is_spotless seen (suc n) j)
  spotless_found faulty fits before j low =
      let more : is_spotless seen (suc n) j ≡ (is_spotless seen n j && is_nonfaulty (seen j n).class) =
      ap (list_all (λ p. is_nonfaulty (seen j p).class)) (range_next 0 n) ∙ all_append (λ p. is_nonfaulty (seen j p).class) (ids_below n) (0 + n)
      ∙ ap (λ (p : ℕ). is_spotless seen n j && is_nonfaulty (seen j p).class) (let z : 0 + n ≡ n = omega arith in z) in
      has-filter (λ k. has_id faulty k || has_id f.faulty k) capacity j (omega arith)
      ∙ ap₂ (λ (a b : Bool). a || b) (before j low) (found.faulty j low)
      ∙ elim (is_spotless seen n j) as (λ b. (not b || not (is_nonfaulty (seen j n).class)) ≡ not (b && is_nonfaulty (seen j n).class)) [ true ↦ refl | false ↦ refl ]
      ∙ ap not (sym more)

  not_not : (b : Bool) → not (not b) ≡ b
  not_not true = refl
  not_not false = refl

  pub false_charges_found : (faulty : List ℕ) → ((j : ℕ) → j < nodes → has_id faulty j ≡ not (is_spotless seen (suc n) j))
      → count (λ j. has_id f.charged j && not (has_id faulty j)) (ids_below nodes) ≡ false_charges_in seen nodes n
  false_charges_found faulty spotless =
      count_ids (λ j. has_id f.charged j && not (has_id faulty j)) (λ j. (seen j n).charged && is_spotless seen (suc n) j) nodes
      (λ j low. ap₂ (λ (a b : Bool). a && b) (ap (λ (s : Sign). s.charged) (found.each j low)) (ap not (spotless j low) ∙ not_not (is_spotless seen (suc n) j)))

  pub false_exclusions_found : (faulty : List ℕ) → ((j : ℕ) → j < nodes → has_id faulty j ≡ not (is_spotless seen (suc n) j))
      → count (λ j. has_id f.left j && not (has_id faulty j)) (ids_below nodes) ≡ false_exclusions_in seen nodes n
  false_exclusions_found faulty spotless =
      count_ids (λ j. has_id f.left j && not (has_id faulty j)) (λ j. (seen j n).left && is_spotless seen (suc n) j) nodes
      (λ j low. ap₂ (λ (a b : Bool). a && b) (ap (λ (s : Sign). s.left) (found.each j low)) (ap not (spotless j low) ∙ not_not (is_spotless seen (suc n) j)))

  -- ---- illnesses

  falls : (sound : List ℕ) → ((j : ℕ) → j < nodes → has_id sound j ≡ sound_after seen n j) → (j : ℕ) → j < nodes → (has_id sound j && not (has_id f.sound j)) ≡ falls_ill (seen j) n
  falls sound before j low = ap₂ (λ (a b : Bool). a && not b) (before j low) (found.sound j low) ∙ falls_at seen n j

  pub illnesses_found : (sound : List ℕ) (list : List Illness) → ((j : ℕ) → j < nodes → has_id sound j ≡ sound_after seen n j) → list ≡ illnesses seen nodes n
      → map (λ x. grown n (sign_by f x.node) x) list ++ map (λ j. begun n j (sign_by f j)) (ids_where (λ j. has_id sound j && not (has_id f.sound j)) nodes) ≡ illnesses seen nodes (n + 1)
  illnesses_found sound list before is =
      let js = ids_where (λ j. falls_ill (seen j) n) nodes in
      ap (λ (xs : List Illness). map (λ x. grown n (sign_by f x.node) x) xs ++ map (λ j. begun n j (sign_by f j)) (ids_where (λ j. has_id sound j && not (has_id f.sound j)) nodes)) is
      ∙ ap (λ (ks : List ℕ). map (λ x. grown n (sign_by f x.node) x) (illnesses seen nodes n) ++ map (λ j. begun n j (sign_by f j)) ks)
      (where_same (λ j. has_id sound j && not (has_id f.sound j)) (λ j. falls_ill (seen j) n) nodes (falls sound before))
      ∙ ap₂ (λ (xs ys : List Illness). xs ++ ys)
      (map_all (λ x. grown n (sign_by f x.node) x) (grown_in seen n) (IsOf nodes n) (λ x of. ap (λ (s : Sign). grown n s x) (found.each x.node of.node)) (illnesses seen nodes n) (all_of seen nodes n))
      (map_ids (λ j. begun n j (sign_by f j)) (λ j. begun n j (seen j n)) (λ j. j < nodes) (λ j low. ap (begun n j) (found.each j low)) js (All-ids nodes js (IsIdSet-filter (λ j. falls_ill (seen j) n) nodes)))
      ∙ sym (illnesses_next seen nodes n)
