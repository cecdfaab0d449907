-- Paths, the members outside a path, and how many of a class there are.
use Rattle.std.proofs.Common.{ℕ, ◌≡◌, ◌≢◌, ◌≤◌, ◌+◌, Bool, true, false, not, ◌&&◌, ◌||◌, ◌==◌, List, [], ◌∷◌, ◌++◌, map, filter, length, refl, sym, ap, ap₂, subst, ◌∙◌, inl, inr, arith, eq-eqb, eqb-true, ne_eqb}
use Rattle.std.specs.List.{AllByRecursion}
use Rattle.std.proofs.lemmas.Bool.{eqb-false, cases_Bool, or_cases, or_parts, or_from, or_left, or_right, not-true, cond-true, cond-false}
use Rattle.std.proofs.lemmas.List.{length_push}
use Rattle.node_grid.specs.Count.{bit, count, Distinct}
use Rattle.node_grid.specs.NodeSet.{has_id}
use Rattle.omh_paths.specs.Paths.{outside, IsPath}
use Rattle.std.proofs.Math.Bool.{or-false}
use Rattle.node_grid.specs.ListLaws.{has_push}

-- off the longer path, both ways
pub off_longer : (path : List ℕ) (q i : ℕ) → has_id (path ++ q ∷ []) i ≡ false → (has_id path i ≡ false) × (q ≢ i)
off_longer path q i h =
    let p = or_parts _ _ (sym (has_push path q i) ∙ h) in (p.0, eqb-false q i p.1)

pub off_from : (path : List ℕ) (q i : ℕ) → has_id path i ≡ false → q ≢ i → has_id (path ++ q ∷ []) i ≡ false
off_from path q i h ne = has_push path q i ∙ or_from _ _ h (ne_eqb q i ne)

pub Distinct-push : (path : List ℕ) (q : ℕ) → Distinct path → has_id path q ≡ false → Distinct (path ++ q ∷ [])
Distinct-push [] q d h = (refl, tt)
Distinct-push (x ∷ xs) q d h =
    let p = or_parts _ _ h in
    (off_from xs q x d.0 (λ e. eqb-false x q p.0 (sym e)), Distinct-push xs q d.1 p.1)

pub IsPath-push : {members : List ℕ} {rounds : ℕ} {path : List ℕ} (q : ℕ) → IsPath members rounds path → has_id members q ≡ true → has_id path q ≡ false → length path ≤ rounds
    → IsPath members rounds (path ++ q ∷ [])
IsPath-push {members} {rounds} {path} q p member off room = record {
  distinct = Distinct-push path q p.distinct off;
  within = λ x h. elim (or_cases _ _ (sym (has_push path q x) ∙ h)) [
    | inl on ↦ p.within x on
    | inr here ↦ subst (λ (y : ℕ). has_id members y ≡ true) (eqb-true q x here) member
  ];
  short = omega (arith, length_push path q);
}

-- what holds of each element that passes holds of each element of the filter
all_filter : (f : ℕ → Bool) (P : ℕ → Type 0) (xs : List ℕ) → ((q : ℕ) → has_id xs q ≡ true → f q ≡ true → P q) → AllByRecursion P (filter f xs)
all_filter f P [] h = tt
all_filter f P (x ∷ xs) h =
    let rest : AllByRecursion P (filter f xs) = all_filter f P xs (λ q on. h q (or_right (x == q) _ on)) in
    elim (cases_Bool (f x)) [
      | inl keeps ↦ subst (AllByRecursion P) (sym (cond-true _ _ _ keeps)) (h x (or_left _ _ (eq-eqb x x refl)) keeps, rest)
      | inr drops ↦ subst (AllByRecursion P) (sym (cond-false _ _ _ drops)) rest
    ]

pub all_outside : (members path : List ℕ) (P : ℕ → Type 0) → ((q : ℕ) → has_id members q ≡ true → has_id path q ≡ false → P q) → AllByRecursion P (outside members path)
all_outside members path P h = all_filter _ P members (λ q on keeps. h q on (not-true _ keeps))

pub map_alike : {X Y : Type 0} (f g : X → Y) (xs : List X) → AllByRecursion (λ x. f x ≡ g x) xs → map f xs ≡ map g xs
map_alike f g [] h = refl
map_alike f g (x ∷ xs) h = ap₂ ◌∷◌ h.0 (map_alike f g xs h.1)

count-filter : (test f : ℕ → Bool) (x : ℕ) (xs : List ℕ) → count test (filter f (x ∷ xs)) ≡ bit (f x && test x) + count test (filter f xs)
count-filter test f x xs =
    elim (cases_Bool (f x)) [
      | inl keeps ↦ let e = ap (count test) (cond-true (f x) (x ∷ filter f xs) (filter f xs) keeps) in let k : bit (f x && test x) ≡ bit (test x) = ap (λ b. bit (b && test x)) keeps in omega arith
      | inr drops ↦ let e = ap (count test) (cond-false (f x) (x ∷ filter f xs) (filter f xs) drops) in let k : bit (f x && test x) ≡ 0 = ap (λ b. bit (b && test x)) drops in omega arith
    ]

-- a member outside the path and the members outside the path that ends in it are the members outside the path, as far as counts go
pub count-outside : (test : ℕ → Bool) (members path : List ℕ) (q : ℕ) → Distinct members → has_id path q ≡ false
    → count test (outside members (path ++ q ∷ [])) + bit (has_id members q && test q) ≡ count test (outside members path)
count-outside test [] path q d off = refl
count-outside test (x ∷ xs) path q d off =
    let rest = count-outside test xs path q d.1 off in
    let f = count-filter test (λ z. not (has_id (path ++ q ∷ []) z)) x xs in
    let g = count-filter test (λ z. not (has_id path z)) x xs in
    elim (cases_Bool (x == q)) [
      | inl here ↦
          let e : x ≡ q = eqb-true x q here in
          let on : has_id (path ++ q ∷ []) x ≡ true = has_push path q x ∙ or_right (has_id path x) _ (eq-eqb q x (sym e)) in
          let k1 : bit (not (has_id (path ++ q ∷ []) x) && test x) ≡ 0 = ap (λ b. bit (not b && test x)) on in
          let k2 : bit (not (has_id path x) && test x) ≡ bit (test q) = ap (λ b. bit (not b && test x)) (ap (has_id path) e ∙ off) ∙ ap (λ (y : ℕ). bit (test y)) e in
          let k3 : bit ((x == q || has_id xs q) && test q) ≡ bit (test q) = ap (λ b. bit ((b || has_id xs q) && test q)) here in
          let k4 : bit (has_id xs q && test q) ≡ 0 = ap (λ b. bit (b && test q)) (ap (has_id xs) (sym e) ∙ d.0) in
          omega arith
      | inr other ↦
          let k1 : bit (not (has_id (path ++ q ∷ []) x) && test x) ≡ bit (not (has_id path x) && test x) =
          ap (λ b. bit (not b && test x)) (has_push path q x ∙ ap (λ b. has_id path x || b) (ne_eqb q x (λ e. eqb-false x q other (sym e))) ∙ or-false (has_id path x)) in
          let k3 : bit ((x == q || has_id xs q) && test q) ≡ bit (has_id xs q && test q) = ap (λ b. bit ((b || has_id xs q) && test q)) other in
          omega arith
    ]
