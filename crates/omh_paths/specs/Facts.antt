-- Facts that several crates cite.
use Rattle.std.proofs.Common.{Bool, List, [], ap, arith, eqb-true, false, inl, inr, length, ne_eqb, not, refl, replicate, subst, suc, sym, true, zero, ℕ, ◌&&◌, ◌*◌, ◌++◌, ◌+◌, ◌-◌, ◌<◌, ◌==◌, ◌||◌, ◌∙◌, ◌∷◌, ◌≡◌, ◌≢◌, ◌≤◌}
use Rattle.std.proofs.Math.Nat.{mul-le-mul}
use Rattle.std.proofs.lemmas.Bool.{both_ways, cases_Bool, cond-false, cond-true, not-true, or_cases, or_from, or_left, or_right}
use Rattle.std.proofs.lemmas.List.{length-append, replicate_more}
use Rattle.std.specs.List.{AllByRecursion}
use Rattle.std.specs.Prelude.{filter}
use Rattle.node_grid.specs.Count.{Distinct, bit, count}
use Rattle.node_grid.specs.ListLaws.{eqb_sym, has_push}
use Rattle.node_grid.specs.NodeSet.{IsIdSet, has_id, without_id}
use Rattle.node_grid.specs.NodeSetLaws.{filter_filter}
use Rattle.node_grid.specs.NumberFacts.{same_rest}
use Rattle.node_grid.specs.SetFacts.{member-lt, next_on}
use Rattle.node_grid.specs.TruthFacts.{not_either}
use Rattle.omh_paths.specs.PathLaws.{count-outside}
use Rattle.omh_paths.specs.PathLists.{path_count-last, same_nodes-finds, same_nodes-tells}
use Rattle.omh_paths.specs.Paths.{IsPath, outside, path_at, path_count, same_nodes}
use Rattle.omh_paths.specs.Wrapped.{IsExact, is_error, same}
use Rattle.omh_paths.specs.declared.wrapped.Wrapped.{Wrapped}
use Rattle.omh_paths.specs.declared.wrapped.Wrapped.TheVariants.{Fault, Plain}

pub all_at : (P : List ℕ → Type 0) (ps : List (List ℕ)) → ((k : ℕ) → k < length ps → P (path_at ps k)) → AllByRecursion P ps
all_at P [] h = tt
all_at P (p ∷ ps) h = (h 0 (omega arith), all_at P ps (λ k l. h (suc k) (omega arith)))

pub count_but_two : (test : ℕ → Bool) (members : List ℕ) (c i : ℕ) → Distinct members → c ≢ i
    → count test (outside members (c ∷ i ∷ [])) + bit (has_id members i && test i) ≡ count test (outside members (c ∷ []))
count_but_two test members c i d ne = count-outside test members (c ∷ []) i d (or_from _ _ (ne_eqb c i ne) refl)

pub faults_grown : {V : Type 0} (was new : List (Wrapped V)) (k : ℕ) → was ≡ replicate k (Fault 0) → new ≡ was ++ Fault 0 ∷ [] → new ≡ replicate (k + 1) (Fault 0)
faults_grown was new k e p = p ∙ ap (λ xs. xs ++ Fault 0 ∷ []) e ∙ replicate_more k (Fault 0)

pub faults_whole : {V : Type 0} (was : List (Wrapped V)) (k n : ℕ) → was ≡ replicate k (Fault 0) → k ≤ n → n ≤ k → was ≡ replicate n (Fault 0)
faults_whole was k n e a b = let full : k ≡ n = omega arith in e ∙ ap (λ i. replicate i (Fault 0)) full

pub longer_count : (n r : ℕ) → path_count (n - 1) (suc r) ≡ path_count (n - 1) r * (n - suc r)
longer_count n r = path_count-last (n - 1) r ∙ ap (λ (x : ℕ). path_count (n - 1) r * x) (same_rest n r)

pub more_paths : (k n r : ℕ) → k ≤ n → path_count k r ≤ path_count n r
more_paths k n zero h = omega arith
more_paths k n (suc r) h = mul-le-mul h (more_paths (k - 1) (n - 1) r (omega arith))

-- the next member is below N, and there are terms left for it
pub next_low : (n : ℕ) (all s path ys rest left : List ℕ) (q : ℕ) → IsIdSet n all → all ≡ outside s path → outside s path ≡ ys ++ left → left ≡ q ∷ rest → q < n
next_low n all s path ys rest left q ids is split steps = member-lt n all q ids (ap (λ (xs : List ℕ). has_id xs q) is ∙ next_on (outside s path) ys rest left q split steps)

pub next_short : (all ys rest left : List ℕ) (q n : ℕ) → all ≡ ys ++ left → left ≡ q ∷ rest → length all ≤ n → length ys < n
next_short all ys rest left q n split steps few = omega (arith, ap length split, ap length steps, length-append ys left)

pub next_few : (n : ℕ) (all s path ys rest left : List ℕ) (q : ℕ) → n ≤ 16 → length all ≤ n → all ≡ outside s path → outside s path ≡ ys ++ left → left ≡ q ∷ rest → length ys < 16
next_few n all s path ys rest left q capacity few is split steps =
    let l = next_short (outside s path) ys rest left q n split steps (omega (arith, ap length is)) in
    omega arith

pub other_error : {V : Type 0} (eq : V → V → Bool) (w : Wrapped V) → is_error w ≡ false → same eq w (Fault 0) ≡ false
other_error eq (Plain v) ok = refl
other_error eq (Fault k) ok = ok

pub outside-push : (members path : List ℕ) (q : ℕ) → outside members (path ++ q ∷ []) ≡ without_id (outside members path) q
outside-push members path q =
    ap (λ (t : ℕ → Bool). filter t members) (λ i x. (ap not (has_push path q x) ∙ not_either (has_id path x) (q == x) ∙ ap (λ b. not (has_id path x) && not b) (eqb_sym q x)) i)
    ∙ sym (filter_filter (λ x. not (has_id path x)) (λ x. not (x == q)) members)

pub outside_parts : (s path : List ℕ) (q : ℕ) → has_id (outside s path) q ≡ true → (has_id s q ≡ true) × (has_id path q ≡ false)
outside_parts [] path q h = absurd (cc)
outside_parts (x ∷ s) path q h = elim (cases_Bool (not (has_id path x))) [
  | inr drops ↦
      let p = outside_parts s path q (ap (λ (ys : List ℕ). has_id ys q) (sym (cond-false (not (has_id path x)) (x ∷ outside s path) (outside s path) drops)) ∙ h) in
      (or_right (x == q) (has_id s q) p.0, p.1)
  | inl keeps ↦
      let k = ap (λ (ys : List ℕ). has_id ys q) (sym (cond-true (not (has_id path x)) (x ∷ outside s path) (outside s path) keeps)) ∙ h in
      elim (cases_Bool (x == q)) [
        | inl here ↦ (or_left (x == q) (has_id s q) here, ap (has_id path) (sym (eqb-true x q here)) ∙ not-true _ keeps)
        | inr there ↦
            let p = outside_parts s path q (ap (λ (b : Bool). b || has_id (outside s path) q) (sym there) ∙ k) in
            (or_right (x == q) (has_id s q) p.0, p.1)
      ]
]

pub next_outside : (s path ys rest left : List ℕ) (q : ℕ) → outside s path ≡ ys ++ left → left ≡ q ∷ rest → (has_id s q ≡ true) × (has_id path q ≡ false)
next_outside s path ys rest left q split steps = outside_parts s path q (next_on (outside s path) ys rest left q split steps)

pub paths_exact : IsExact same_nodes
paths_exact = record { finds = same_nodes-finds; tells = same_nodes-tells }

-- the count that the code finds
pub paths_is : (paths count n r : ℕ) → paths ≡ path_count (count - 1) r → count ≡ n → paths ≡ path_count (n - 1) r
paths_is paths count n r e c = e ∙ ap (λ (m : ℕ). path_count (m - 1) r) c

pub root : {members : List ℕ} {rounds : ℕ} (c : ℕ) → has_id members c ≡ true → IsPath members rounds (c ∷ [])
root {members} c member = record {
  distinct = (refl, tt);
  within = λ q h. elim (or_cases _ _ h) [
    | inl here ↦ subst (λ (y : ℕ). has_id members y ≡ true) (eqb-true c q here) member
    | inr none ↦ cc
  ];
  short = omega arith;
}

pub same_nodes-sym : (a b : List ℕ) → same_nodes a b ≡ same_nodes b a
same_nodes-sym a b = elim (cases_Bool (same_nodes a b)) [
  | inl y ↦ let e = same_nodes-tells a b y in y ∙ sym (ap (same_nodes b) e ∙ same_nodes-finds b)
  | inr n ↦ elim (cases_Bool (same_nodes b a)) [
    | inl y ↦ let e = same_nodes-tells b a y in absurd (both_ways _ n (ap (same_nodes a) e ∙ same_nodes-finds a))
    | inr n' ↦ n ∙ sym n'
  ]
]
