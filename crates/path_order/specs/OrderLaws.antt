-- The paths one node longer, and places in a list of what passes a test.
use Rattle.std.proofs.Common.{ℕ, zero, suc, ◌≡◌, ◌<◌, ◌≤◌, ◌+◌, ◌-◌, Bool, true, not, List, [], ◌∷◌, ◌++◌, map, length, take, get_or, refl, sym, ap, ap₂, subst, ◌∙◌, inl, inr, arith}
use Rattle.std.specs.Prelude.{filter}
use Rattle.std.specs.List.{flat_map}
use Rattle.std.proofs.lemmas.Bool.{cases_Bool, cond-true, cond-false}
use Rattle.std.proofs.lemmas.List.{map-append, append-nil}
use Rattle.std.proofs.lemmas.Simd.{map-map}
use Rattle.std.proofs.lemmas.List.Concat.{flat_map_single, flat_map-append}
use Rattle.node_grid.specs.NodeSet.{has_id, without_id, IsIdSet}
use Rattle.node_grid.specs.Count.{bit, count}
use Rattle.node_grid.specs.SetFacts.{count_take}
use Rattle.omh_paths.specs.Paths.{outside, paths_of_length, path_count, path_at, place_in}
use Rattle.omh_paths.specs.PathLists.{paths-cons, outside-without, length-paths, length-without, Distinct-without, place-path_at}
use Rattle.omh_paths.specs.MemberLaws.{Distinct-ids}
use Rattle.omh_paths.specs.Tables.{tables_law}
use Rattle.omh_paths.specs.Facts.{outside-push}
use Rattle.path_order.specs.Order.{pushed, LongerPathsLaw, each_left_out, FreeMembersLaw, passed, CursorsLaw}

-- ---- the paths one node longer

-- behind a first node stands what stands behind the rest of the path among the other members
behind_first : (members : List ℕ) (c : ℕ) (path : List ℕ) → map (λ p. c ∷ p) (pushed (without_id members c) path) ≡ pushed members (c ∷ path)
behind_first members c path =
    map-map (λ p. c ∷ p) (λ q. path ++ q ∷ []) (outside (without_id members c) path)
    ∙ ap (map (λ q. (c ∷ path) ++ q ∷ [])) (outside-without members c path)

behind_all : (members : List ℕ) (c : ℕ) (ps : List (List ℕ)) → map (λ p. c ∷ p) (flat_map (pushed (without_id members c)) ps) ≡ flat_map (pushed members) (map (λ p. c ∷ p) ps)
behind_all members c [] = refl
behind_all members c (p ∷ ps) =
    map-append (λ p. c ∷ p) (pushed (without_id members c) p) (flat_map (pushed (without_id members c)) ps)
    ∙ ap₂ (λ (a b : List (List ℕ)). a ++ b) (behind_first members c p) (behind_all members c ps)

flat_twice : {X Y Z : Type 0} (f : X → List Y) (g : Y → List Z) (xs : List X) → flat_map g (flat_map f xs) ≡ flat_map (λ x. flat_map g (f x)) xs
flat_twice f g [] = refl
flat_twice f g (x ∷ xs) = flat_map-append g (f x) (flat_map f xs) ∙ ap (λ ys. flat_map g (f x) ++ ys) (flat_twice f g xs)

flat_alike : {X Y : Type 0} (f g : X → List Y) (xs : List X) → ((x : X) → f x ≡ g x) → flat_map f xs ≡ flat_map g xs
flat_alike f g [] h = refl
flat_alike f g (x ∷ xs) h = ap₂ (λ a b. a ++ b) (h x) (flat_alike f g xs h)

pub longer_paths : (r : ℕ) (members : List ℕ) → paths_of_length members (suc r) ≡ flat_map (pushed members) (paths_of_length members r)
longer_paths zero members =
    flat_map_single (λ q. q ∷ []) (outside members [])
    ∙ sym (append-nil (pushed members []))
longer_paths (suc r) members =
    paths-cons members (suc r)
    ∙ flat_alike (λ c. map (λ p. c ∷ p) (paths_of_length (without_id members c) (suc r))) (λ c. flat_map (pushed members) (map (λ p. c ∷ p) (paths_of_length (without_id members c) r))) members
    (λ c. ap (map (λ p. c ∷ p)) (longer_paths r (without_id members c)) ∙ behind_all members c (paths_of_length (without_id members c) r))
    ∙ sym (flat_twice (λ c. map (λ p. c ∷ p) (paths_of_length (without_id members c) r)) (pushed members) members)
    ∙ ap (flat_map (pushed members)) (sym (paths-cons members r))

pub longer_paths_law : LongerPathsLaw
longer_paths_law members r = longer_paths r members

-- ---- the members outside them

free_behind : (members path : List ℕ) (qs : List ℕ) → map (outside members) (map (λ q. path ++ q ∷ []) qs) ≡ map (without_id (outside members path)) qs
free_behind members path [] = refl
free_behind members path (q ∷ qs) = ap₂ (λ x xs. x ∷ xs) (outside-push members path q) (free_behind members path qs)

free_all : (members : List ℕ) (ps : List (List ℕ)) → map (outside members) (flat_map (pushed members) ps) ≡ flat_map each_left_out (map (outside members) ps)
free_all members [] = refl
free_all members (p ∷ ps) =
    map-append (outside members) (pushed members p) (flat_map (pushed members) ps)
    ∙ ap₂ (λ (a b : List (List ℕ)). a ++ b) (free_behind members p (outside members p)) (free_all members ps)

pub free_members_law : FreeMembersLaw
free_members_law members r = ap (map (outside members)) (longer_paths r members) ∙ free_all members (paths_of_length members r)

-- ---- the k-th of what passes a test is the one before which k pass it

pub kept_at : {X : Type 0} (test : X → Bool) (xs : List X) (k : ℕ) (d : X) → k < length xs → test (get_or xs k d) ≡ true
    → get_or (filter test xs) (count test (take k xs)) d ≡ get_or xs k d
kept_at test [] k d low on = absurd (omega arith)
kept_at test (x ∷ xs) zero d low on = ap (λ ys. get_or ys 0 d) (cond-true (test x) (x ∷ filter test xs) (filter test xs) on)
kept_at {X} test (x ∷ xs) (suc k) d low on =
    let rest = kept_at test xs k d (omega arith) on in
    let n : ℕ = count test (take k xs) in
    elim (cases_Bool (test x)) [
      | inl keeps ↦
          let b : bit (test x) + n ≡ suc n = ap (λ c. bit c + n) keeps ∙ omega arith in
          ap₂ (λ (ys : List X) (j : ℕ). get_or ys j d) (cond-true (test x) (x ∷ filter test xs) (filter test xs) keeps) b ∙ rest
      | inr drops ↦
          let b : bit (test x) + n ≡ n = ap (λ c. bit c + n) drops ∙ omega arith in
          ap₂ (λ (ys : List X) (j : ℕ). get_or ys j d) (cond-false (test x) (x ∷ filter test xs) (filter test xs) drops) b ∙ rest
    ]

pub kept_within : {X : Type 0} (test : X → Bool) (xs : List X) (k : ℕ) (d : X) → k < length xs → test (get_or xs k d) ≡ true → count test (take k xs) < length (filter test xs)
kept_within test [] k d low on = absurd (omega arith)
kept_within test (x ∷ xs) zero d low on = let e = ap length (cond-true (test x) (x ∷ filter test xs) (filter test xs) on) in omega arith
kept_within test (x ∷ xs) (suc k) d low on =
    let rest = kept_within test xs k d (omega arith) on in
    elim (cases_Bool (test x)) [
      | inl keeps ↦ let e = ap length (cond-true (test x) (x ∷ filter test xs) (filter test xs) keeps) in let b = ap bit keeps in omega arith
      | inr drops ↦ let e = ap length (cond-false (test x) (x ∷ filter test xs) (filter test xs) drops) in let b = ap bit drops in omega arith
    ]

pub passed_more : (ps : List (List ℕ)) (q k : ℕ) → k < length ps → passed ps q (k + 1) ≡ passed ps q k + bit (not (has_id (path_at ps k) q))
passed_more ps q k low = count_take (λ path. not (has_id path q)) ps k [] low

-- no more pass a test in front than in all
count_most : {X : Type 0} (test : X → Bool) (xs : List X) (k : ℕ) → count test (take k xs) ≤ count test xs
count_most test [] zero = omega arith
count_most test [] (suc k) = omega arith
count_most test (x ∷ xs) zero = omega arith
count_most test (x ∷ xs) (suc k) = omega (arith, count_most test xs k)

pub count_kept : {X : Type 0} (test : X → Bool) (xs : List X) → length (filter test xs) ≡ count test xs
count_kept test [] = refl
count_kept test (x ∷ xs) = elim (cases_Bool (test x)) [
  | inl keeps ↦ let e = ap length (cond-true (test x) (x ∷ filter test xs) (filter test xs) keeps) in let b = ap bit keeps in omega (arith, count_kept test xs)
  | inr drops ↦ let e = ap length (cond-false (test x) (x ∷ filter test xs) (filter test xs) drops) in let b = ap bit drops in omega (arith, count_kept test xs)
]

-- a frame is never read past its end
pub passed_most : (n : ℕ) (members : List ℕ) → IsIdSet n members → (r q k : ℕ) → has_id members q ≡ true → passed (paths_of_length members r) q k ≤ path_count (length members - 1) r
passed_most n members ids r q k on =
    let d = Distinct-ids n members ids in
    let ps : List (List ℕ) = paths_of_length members r in
    let others : List ℕ = without_id members q in
    let here : length (paths_of_length others r) ≡ count (λ path. not (has_id path q)) ps =
    ap length (tables_law members q r) ∙ count_kept (λ path. not (has_id path q)) ps in
    let all : length (paths_of_length others r) ≡ path_count (length members - 1) r =
    length-paths others r (Distinct-without members q d) ∙ ap (λ (n : ℕ). path_count n r) (length-without members q d on) in
    omega (arith, count_most (λ path. not (has_id path q)) ps k, here, all)

pub cursors_law : CursorsLaw
cursors_law n members ids r q k low off =
    let d = Distinct-ids n members ids in
    let ps : List (List ℕ) = paths_of_length members r in
    let others : List ℕ = without_id members q in
    let l : k < length ps = omega (arith, length-paths members r d, low) in
    let on : not (has_id (path_at ps k) q) ≡ true = ap not off in
    let table = tables_law members q r in
    let at : path_at (paths_of_length others r) (passed ps q k) ≡ path_at ps k =
    ap (λ (xs : List (List ℕ)). path_at xs (passed ps q k)) table ∙ kept_at (λ path. not (has_id path q)) ps k [] l on in
    let bound : passed ps q k < length (paths_of_length others r) =
    subst (λ (xs : List (List ℕ)). passed ps q k < length xs) (sym table) (kept_within (λ path. not (has_id path q)) ps k [] l on) in
    record {
      path = at;
      place = ap (place_in (paths_of_length others r)) (sym at) ∙ place-path_at others r (passed ps q k) (Distinct-without members q d) (omega (arith, bound, length-paths others r (Distinct-without members q d)));
      within = bound;
    }
