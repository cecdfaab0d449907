-- The majority of what stands behind a path, with the node's own term apart from the others'.
use Rattle.std.proofs.Common.{ℕ, suc, ◌≡◌, ◌+◌, ◌==◌, ◌&&◌, ◌||◌, Bool, true, false, not, List, [], ◌∷◌, ◌++◌, map, refl, sym, ap, ap₂, ◌∙◌, inl, inr, arith, eqb-true}
use Rattle.std.specs.Prelude.{if◌then◌else◌}
use Rattle.std.proofs.lemmas.Bool.{cases_Bool, cond-true, cond-false}
use Rattle.node_grid.specs.NodeSet.{has_id, without_id}
use Rattle.node_grid.specs.Count.{bit, count, Distinct}
use Rattle.node_grid.specs.NodeSetLaws.{has_filtered}
use Rattle.omh_paths.specs.declared.wrapped.Wrapped.{Wrapped}
use Rattle.omh_paths.specs.declared.wrapped.Wrapped.TheVariants.{Fault}
use Rattle.omh_paths.specs.Wrapped.{IsExact, same, is_error, wrapped, unwrapped}
use Rattle.omh_paths.specs.Majority.{majority}
use Rattle.omh_paths.specs.Paths.{outside}
use Rattle.omh_paths.specs.PathLists.{Distinct-filter}
use Rattle.omh_paths.specs.Facts.{other_error}
use Rattle.omh.specs.Omh.{Ear, own_term, settled_within}
use Rattle.relay_terms.specs.TallyLaws.{majority_by_counts}
use Rattle.relay_table.specs.Settling.{own_said}
use Rattle.relay_table.proofs.Walks.{without_outside}

-- what stands for each node, the node's own term among it
abbrev among : {V : Type 0} → Wrapped V → (ℕ → Wrapped V) → ℕ → ℕ → Wrapped V
among own t me q = if q == me then own else t q

-- that term where the node is one of them
abbrev own_in : {V : Type 0} → Wrapped V → ℕ → List ℕ → Wrapped V
own_in own me xs = if has_id xs me then own else Fault 0

count_apart : {V : Type 0} (test : Wrapped V → Bool) (own : Wrapped V) (t : ℕ → Wrapped V) (me : ℕ) (xs : List ℕ) → Distinct xs → test (Fault 0) ≡ false
    → count test (map (among own t me) xs) ≡ bit (test (own_in own me xs)) + count test (map t (without_id xs me))
count_apart {V} test own t me [] d none = let e : bit (test (Fault 0)) ≡ 0 = ap bit none in omega arith
count_apart {V} test own t me (x ∷ xs) d none =
    let rest = count_apart test own t me xs d.1 none in
    elim (cases_Bool (x == me)) [
      | inl here ↦
          let is : x ≡ me = eqb-true x me here in
          let gone : own_in own me xs ≡ Fault 0 = cond-false (has_id xs me) own (Fault 0) (ap (has_id xs) (sym is) ∙ d.0) in
          let a : bit (test (own_in own me xs)) ≡ 0 = ap (λ (w : Wrapped V). bit (test w)) gone ∙ ap bit none in
          let b : bit (test (among own t me x)) ≡ bit (test own) = ap (λ (w : Wrapped V). bit (test w)) (cond-true (x == me) own (t x) here) in
          let c : bit (test (own_in own me (x ∷ xs))) ≡ bit (test own) =
          ap (λ (w : Wrapped V). bit (test w)) (ap (λ (b : Bool). if (b || has_id xs me) then own else Fault 0) here) in
          let e : count test (map t (without_id (x ∷ xs) me)) ≡ count test (map t (without_id xs me)) =
          ap (λ (ys : List ℕ). count test (map t ys)) (cond-false (not (x == me)) (x ∷ without_id xs me) (without_id xs me) (ap not here)) in
          omega arith
      | inr other ↦
          let b : bit (test (among own t me x)) ≡ bit (test (t x)) = ap (λ (w : Wrapped V). bit (test w)) (cond-false (x == me) own (t x) other) in
          let c : bit (test (own_in own me (x ∷ xs))) ≡ bit (test (own_in own me xs)) =
          ap (λ (w : Wrapped V). bit (test w)) (ap (λ (b : Bool). if (b || has_id xs me) then own else Fault 0) other) in
          let e : count test (map t (without_id (x ∷ xs) me)) ≡ bit (test (t x)) + count test (map t (without_id xs me)) =
          ap (λ (ys : List ℕ). count test (map t ys)) (cond-true (not (x == me)) (x ∷ without_id xs me) (without_id xs me) (ap not other)) in
          omega arith
    ]

apart : {V : Type 0} {eq : V → V → Bool} → IsExact eq → (own : Wrapped V) (t : ℕ → Wrapped V) (me : ℕ) (xs : List ℕ) → Distinct xs
    → majority eq (map (among own t me) xs) ≡ majority eq (own_in own me xs ∷ map t (without_id xs me))
apart {V} {eq} exact own t me xs d =
    majority_by_counts exact (map (among own t me) xs) (own_in own me xs ∷ map t (without_id xs me))
    (count_apart (λ y. not (is_error y)) own t me xs d refl)
    (λ y ok. count_apart (same eq y) own t me xs d (other_error eq y ok))

-- ---- what a node settles for a path that it isn't on

own_either : {V : Type 0} (full member : Bool) (w : Wrapped V) → (if member then (if full then w else Fault 0) else Fault 0) ≡ (if full && member then w else Fault 0)
own_either true true w = refl
own_either true false w = refl
own_either false true w = refl
own_either false false w = refl

still_there : (members path : List ℕ) (me : ℕ) → has_id path me ≡ false → has_id (outside members path) me ≡ has_id members me
still_there members path me off = has_filtered (λ x. not (has_id path x)) members me ∙ ap (λ (b : Bool). not b && has_id members me) off

pub settles : {V : Type 0} {eq : V → V → Bool} → IsExact eq → (x : Ear V) (others path : List ℕ) (r : ℕ) → Distinct x.members → others ≡ without_id x.members x.me → has_id path x.me ≡ false
    → settled_within eq x (suc r) path ≡ unwrapped (majority eq (own_said x.full x.members x.me (x.heard path) ∷ map (λ q. settled_within eq x r (path ++ q ∷ [])) (outside others path)))
unfolding settled_within
settles {V} {eq} exact x others path r d are off =
    let t : ℕ → Wrapped V = λ q. settled_within eq x r (path ++ q ∷ []) in
    let free : List ℕ = outside x.members path in
    let own : own_in (own_term x path) x.me free ≡ own_said x.full x.members x.me (x.heard path) =
    ap (λ (b : Bool). if b then own_term x path else Fault 0) (still_there x.members path x.me off) ∙ own_either x.full (has_id x.members x.me) (wrapped (x.heard path)) in
    let rest : without_id free x.me ≡ outside others path = without_outside x.members path x.me ∙ ap (λ (s : List ℕ). outside s path) (sym are) in
    ap unwrapped (apart exact (own_term x path) t x.me free (Distinct-filter (λ q. not (has_id path q)) x.members d))
    ∙ ap₂ (λ (o : Wrapped V) (xs : List ℕ). unwrapped (majority eq (o ∷ map t xs))) own rest

-- and where nothing more is relayed it is what it heard
pub settles_last : {V : Type 0} (eq : V → V → Bool) (x : Ear V) (path : List ℕ) → settled_within eq x 0 path ≡ x.heard path
unfolding settled_within
settles_last eq x path = refl
