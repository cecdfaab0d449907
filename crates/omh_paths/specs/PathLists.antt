-- The list of all paths of a length: how many they are, which stand in it, and at which place.
use Rattle.std.proofs.Common.{ℕ, zero, suc, ◌≡◌, ◌≢◌, ◌<◌, ◌+◌, ◌-◌, ◌*◌, ◌/◌, ◌%◌, Bool, true, false, not, ◌&&◌, ◌||◌, ◌==◌, List, [], ◌∷◌, ◌++◌, map, length, get_or, refl, sym, ap, ap₂, subst, ◌∙◌, inl, inr, arith, eq-eqb, eqb-true, ne_eqb}
use Rattle.std.specs.Prelude.{filter}
use Rattle.std.specs.List.{flat_map}
use Rattle.std.proofs.lemmas.Bool.{cases_Bool, eqb-false, cond-true, cond-false, and_parts, or_cases, or_parts, or_left, or_right, not-true, both_ways}
use Rattle.std.proofs.lemmas.List.{get_or_append_left, get_or-append-add, length-append}
use Rattle.std.proofs.Math.Nat.{mod-add-div', mul_assoc}
use Rattle.node_grid.specs.NodeSet.{has_id, without_id}
use Rattle.node_grid.specs.NodeSetLaws.{filter_filter, has-without_id}
use Rattle.node_grid.specs.Count.{Distinct}
use Rattle.node_grid.specs.ListFacts.{length_mapped}
use Rattle.node_grid.specs.NumberFacts.{same_rest, first_only, digits_fit, some_width}
use Rattle.node_grid.specs.SetFacts.{has-without, without_other}
use Rattle.omh_paths.specs.Paths.{same_nodes, outside, paths_avoiding, paths_of_length, path_count, place_in, path_at, index_in, IsListed}
use Rattle.std.proofs.lemmas.Nat.{mod_below, div_below}
use Rattle.node_grid.specs.ListLaws.{eqb_sym, has_some}

-- ---- two paths are the same

pub same_nodes-finds : (a : List ℕ) → same_nodes a a ≡ true
same_nodes-finds [] = refl
same_nodes-finds (x ∷ a) = ap (λ (b : Bool). b && same_nodes a a) (eq-eqb x x refl) ∙ same_nodes-finds a

pub same_nodes-tells : (a b : List ℕ) → same_nodes a b ≡ true → a ≡ b
same_nodes-tells [] [] h = refl
same_nodes-tells [] (y ∷ b) h = absurd (cc)
same_nodes-tells (x ∷ a) [] h = absurd (cc)
same_nodes-tells (x ∷ a) (y ∷ b) h =
    let both = and_parts (x == y) (same_nodes a b) h in
    ap₂ (λ (n : ℕ) (c : List ℕ). n ∷ c) (eqb-true x y both.0) (same_nodes-tells a b both.1)

-- ---- members without some

filter_same : (p q : ℕ → Bool) (xs : List ℕ) → ((k : ℕ) → p k ≡ q k) → filter p xs ≡ filter q xs
filter_same p q xs e = ap (λ (t : ℕ → Bool). filter t xs) (λ i k. e k i)

pub outside_nothing : (xs : List ℕ) → outside xs [] ≡ xs
outside_nothing [] = refl
outside_nothing (x ∷ xs) = ap (λ (ys : List ℕ). x ∷ ys) (outside_nothing xs)

neither : (x q : ℕ) (b : Bool) → not ((q == x) || b) ≡ (not b && not (x == q))
neither x q b = ap (λ (t : Bool). not (t || b)) (eqb_sym q x) ∙ by_cases (x == q) b
  where
    by_cases : (s t : Bool) → not (s || t) ≡ (not t && not s)
    by_cases true true = refl
    by_cases true false = refl
    by_cases false true = refl
    by_cases false false = refl

both_nots : (x q : ℕ) (b : Bool) → not ((q == x) || b) ≡ (not (x == q) && not b)
both_nots x q b = ap (λ (t : Bool). not (t || b)) (eqb_sym q x) ∙ by_cases (x == q) b
  where
    by_cases : (s t : Bool) → not (s || t) ≡ (not s && not t)
    by_cases true true = refl
    by_cases true false = refl
    by_cases false true = refl
    by_cases false false = refl

-- outside a longer path, from either end
pub outside-cons : (s : List ℕ) (q : ℕ) (path : List ℕ) → outside s (q ∷ path) ≡ without_id (outside s path) q
outside-cons s q path =
    filter_same (λ x. not ((q == x) || has_id path x)) (λ x. not (has_id path x) && not (x == q)) s (λ x. neither x q (has_id path x))
    ∙ sym (filter_filter (λ x. not (has_id path x)) (λ x. not (x == q)) s)

pub outside-without : (s : List ℕ) (q : ℕ) (path : List ℕ) → outside (without_id s q) path ≡ outside s (q ∷ path)
outside-without s q path =
    filter_filter (λ x. not (x == q)) (λ x. not (has_id path x)) s
    ∙ filter_same (λ x. not (x == q) && not (has_id path x)) (λ x. not ((q == x) || has_id path x)) s (λ x. sym (both_nots x q (has_id path x)))

has-filter-false : (p : ℕ → Bool) (xs : List ℕ) (x : ℕ) → has_id xs x ≡ false → has_id (filter p xs) x ≡ false
has-filter-false p [] x h = refl
has-filter-false p (y ∷ xs) x h =
    let off = or_parts (y == x) (has_id xs x) h in
    let rest : has_id (filter p xs) x ≡ false = has-filter-false p xs x off.1 in
    elim (cases_Bool (p y)) [
      | inl keeps ↦ ap (λ (ys : List ℕ). has_id ys x) (cond-true (p y) (y ∷ filter p xs) (filter p xs) keeps) ∙ ap₂ (λ (a b : Bool). a || b) off.0 rest
      | inr drops ↦ ap (λ (ys : List ℕ). has_id ys x) (cond-false (p y) (y ∷ filter p xs) (filter p xs) drops) ∙ rest
    ]

pub Distinct-filter : (p : ℕ → Bool) (xs : List ℕ) → Distinct xs → Distinct (filter p xs)
Distinct-filter p [] d = tt
Distinct-filter p (x ∷ xs) d =
    elim (cases_Bool (p x)) [
      | inl keeps ↦ subst Distinct (sym (cond-true (p x) (x ∷ filter p xs) (filter p xs) keeps)) (has-filter-false p xs x d.0, Distinct-filter p xs d.1)
      | inr drops ↦ subst Distinct (sym (cond-false (p x) (x ∷ filter p xs) (filter p xs) drops)) (Distinct-filter p xs d.1)
    ]

pub Distinct-without : (s : List ℕ) (q : ℕ) → Distinct s → Distinct (without_id s q)
Distinct-without s q d = Distinct-filter (λ k. not (k == q)) s d

-- a set without a member has one member less
pub length-without : (s : List ℕ) (q : ℕ) → Distinct s → has_id s q ≡ true → length (without_id s q) ≡ length s - 1
length-without [] q d h = absurd (cc)
length-without (x ∷ xs) q d h =
    elim (cases_Bool (x == q)) [
      | inl e ↦
          let off : has_id xs q ≡ false = ap (has_id xs) (sym (eqb-true x q e)) ∙ d.0 in
          let k : length (without_id (x ∷ xs) q) ≡ length xs = ap length (cond-false (not (x == q)) (x ∷ without_id xs q) (without_id xs q) (ap not e) ∙ without_other xs q off) in
          omega arith
      | inr n ↦
          let on : has_id xs q ≡ true = ap (λ (b : Bool). b || has_id xs q) (sym n) ∙ h in
          let some : 0 < length xs = has_some xs q on in
          let k : length (without_id (x ∷ xs) q) ≡ suc (length (without_id xs q)) = ap length (cond-true (not (x == q)) (x ∷ without_id xs q) (without_id xs q) (ap not n)) in
          omega (arith, length-without xs q d.1 on)
    ]

-- ---- places in a list of numbers

pub index_in-lt : (s : List ℕ) (q : ℕ) → has_id s q ≡ true → index_in s q < length s
index_in-lt [] q h = absurd (cc)
index_in-lt (x ∷ xs) q h =
    elim (cases_Bool (x == q)) [
      | inl e ↦ omega (arith, cond-true (x == q) 0 (1 + index_in xs q) e)
      | inr n ↦ omega (arith, cond-false (x == q) 0 (1 + index_in xs q) n, index_in-lt xs q (ap (λ (b : Bool). b || has_id xs q) (sym n) ∙ h))
    ]

pub at-index_in : (s : List ℕ) (q d : ℕ) → has_id s q ≡ true → get_or s (index_in s q) d ≡ q
at-index_in [] q d h = absurd (cc)
at-index_in (x ∷ xs) q d h =
    elim (cases_Bool (x == q)) [
      | inl e ↦ ap (λ (k : ℕ). get_or (x ∷ xs) k d) (cond-true (x == q) 0 (1 + index_in xs q) e) ∙ eqb-true x q e
      | inr n ↦
          let k : index_in (x ∷ xs) q ≡ suc (index_in xs q) = omega (arith, cond-false (x == q) 0 (1 + index_in xs q) n) in
          ap (λ (k : ℕ). get_or (x ∷ xs) k d) k ∙ at-index_in xs q d (ap (λ (b : Bool). b || has_id xs q) (sym n) ∙ h)
    ]

pub has-at : (s : List ℕ) (k d : ℕ) → k < length s → has_id s (get_or s k d) ≡ true
has-at [] k d h = absurd (omega arith)
has-at (x ∷ xs) zero d h = or_left (x == x) (has_id xs x) (eq-eqb x x refl)
has-at (x ∷ xs) (suc k) d h = or_right (x == get_or xs k d) (has_id xs (get_or xs k d)) (has-at xs k d (omega arith))

pub index_in-at : (s : List ℕ) (k d : ℕ) → Distinct s → k < length s → index_in s (get_or s k d) ≡ k
index_in-at [] k d distinct h = absurd (omega arith)
index_in-at (x ∷ xs) zero d distinct h = cond-true (x == x) 0 (1 + index_in xs x) (eq-eqb x x refl)
index_in-at (x ∷ xs) (suc k) d distinct h =
    let y : ℕ = get_or xs k d in
    let on : has_id xs y ≡ true = has-at xs k d (omega arith) in
    let ne : x ≢ y = λ e. both_ways _ distinct.0 (ap (has_id xs) e ∙ on) in
    omega (arith, cond-false (x == y) 0 (1 + index_in xs y) (ne_eqb x y ne), index_in-at xs k d distinct.1 (omega arith))

-- ---- lists joined of pieces of one length

module _ {Y : Type 0} (f : ℕ → List Y) (w : ℕ) where
  pub length-pieces : (s : List ℕ) → ((q : ℕ) → has_id s q ≡ true → length (f q) ≡ w) → length (flat_map f s) ≡ length s * w
  length-pieces [] h = omega arith
  length-pieces (x ∷ xs) h =
      omega (arith, length-append (f x) (flat_map f xs), h x (or_left (x == x) _ (eq-eqb x x refl)), length-pieces xs (λ q on. h q (or_right (x == q) _ on)))

  pub at-pieces : (s : List ℕ) (i j d : ℕ) (e : Y) → ((q : ℕ) → has_id s q ≡ true → length (f q) ≡ w) → i < length s → j < w
      → get_or (flat_map f s) (i * w + j) e ≡ get_or (f (get_or s i d)) j e
  at-pieces [] i j d e h low within = absurd (omega arith)
  at-pieces (x ∷ xs) zero j d e h low within =
      let k : zero * w + j ≡ j = omega arith in
      ap (λ (n : ℕ). get_or (f x ++ flat_map f xs) n e) k ∙ get_or_append_left (f x) (flat_map f xs) e j (omega (arith, h x (or_left (x == x) _ (eq-eqb x x refl))))
  at-pieces (x ∷ xs) (suc i) j d e h low within =
      let k : suc i * w + j ≡ length (f x) + (i * w + j) = omega (arith, h x (or_left (x == x) _ (eq-eqb x x refl))) in
      ap (λ (n : ℕ). get_or (f x ++ flat_map f xs) n e) k ∙ get_or-append-add (f x) (flat_map f xs) (i * w + j) e
      ∙ at-pieces xs i j d e (λ q on. h q (or_right (x == q) _ on)) (omega arith) within

-- ---- all paths of a length

-- the paths that avoid some nodes are those of the other members
pub paths_alike : (s t avoid over : List ℕ) (r : ℕ) → outside s avoid ≡ outside t over → paths_avoiding s avoid r ≡ paths_avoiding t over r
paths_alike s t avoid over zero e = refl
paths_alike s t avoid over (suc r) e =
    ap₂ (λ (f : ℕ → List (List ℕ)) (xs : List ℕ). flat_map f xs)
    (λ i q. map (λ path. q ∷ path) (paths_alike s t (q ∷ avoid) (q ∷ over) r (outside-cons s q avoid ∙ ap (λ (xs : List ℕ). without_id xs q) e ∙ sym (outside-cons t q over)) i)) e

pub paths-avoiding_one : (s : List ℕ) (q r : ℕ) → paths_avoiding s (q ∷ []) r ≡ paths_of_length (without_id s q) r
paths-avoiding_one s q r = paths_alike s (without_id s q) (q ∷ []) [] r (sym (outside-without s q []))

piece : List ℕ → ℕ → ℕ → List (List ℕ)
piece s r q = map (λ path. q ∷ path) (paths_of_length (without_id s q) r)

pub paths-cons : (s : List ℕ) (r : ℕ) → paths_of_length s (suc r) ≡ flat_map (λ q. map (λ path. q ∷ path) (paths_of_length (without_id s q) r)) s
paths-cons s r =
    ap₂ (λ (f : ℕ → List (List ℕ)) (xs : List ℕ). flat_map f xs) (λ i q. map (λ path. q ∷ path) (paths-avoiding_one s q r i)) (outside_nothing s)

pub length-paths : (s : List ℕ) (r : ℕ) → Distinct s → length (paths_of_length s r) ≡ path_count (length s) r
length-paths s zero d = refl
length-paths s (suc r) d =
    let here : (q : ℕ) → has_id s q ≡ true → length (map (λ path. q ∷ path) (paths_of_length (without_id s q) r)) ≡ path_count (length s - 1) r =
    λ q on. length_mapped (λ path. q ∷ path) (paths_of_length (without_id s q) r) ∙ length-paths (without_id s q) r (Distinct-without s q d) ∙ ap (λ (n : ℕ). path_count n r) (length-without s q d on) in
    ap length (paths-cons s r) ∙ length-pieces (λ q. map (λ path. q ∷ path) (paths_of_length (without_id s q) r)) (path_count (length s - 1) r) s here

-- how many stand behind each first node
length-piece : (s : List ℕ) (r q : ℕ) → Distinct s → has_id s q ≡ true → length (map (λ path. q ∷ path) (paths_of_length (without_id s q) r)) ≡ path_count (length s - 1) r
length-piece s r q d on =
    length_mapped (λ path. q ∷ path) (paths_of_length (without_id s q) r) ∙ length-paths (without_id s q) r (Distinct-without s q d) ∙ ap (λ (n : ℕ). path_count n r) (length-without s q d on)

at-map_cons : (q : ℕ) (ps : List (List ℕ)) (j : ℕ) → j < length ps → path_at (map (λ path. q ∷ path) ps) j ≡ q ∷ path_at ps j
at-map_cons q [] j h = absurd (omega arith)
at-map_cons q (p ∷ ps) zero h = refl
at-map_cons q (p ∷ ps) (suc j) h = at-map_cons q ps j (omega arith)

-- the path at a place: its first node is at the place's first digit
pub path_at-cons : (s : List ℕ) (r a b d : ℕ) → Distinct s → a < length s → b < path_count (length s - 1) r
    → path_at (paths_of_length s (suc r)) (a * path_count (length s - 1) r + b) ≡ get_or s a d ∷ path_at (paths_of_length (without_id s (get_or s a d)) r) b
path_at-cons s r a b d distinct low within =
    let w : ℕ = path_count (length s - 1) r in
    let q : ℕ = get_or s a d in
    let on : has_id s q ≡ true = has-at s a d low in
    ap (λ (ps : List (List ℕ)). path_at ps (a * w + b)) (paths-cons s r)
    ∙ at-pieces (λ q. map (λ path. q ∷ path) (paths_of_length (without_id s q) r)) w s a b d [] (λ k h. length-piece s r k distinct h) low within
    ∙ at-map_cons q (paths_of_length (without_id s q) r) b (omega (arith, length-paths (without_id s q) r (Distinct-without s q distinct), ap (λ (n : ℕ). path_count n r) (length-without s q distinct on), within))

div-mod : (i w : ℕ) → 0 < w → i ≡ i / w * w + i % w
div-mod i w some = omega (arith, mod-add-div' i w)

pub path_at-step : (s : List ℕ) (r i d : ℕ) → Distinct s → i < path_count (length s) (suc r)
    → path_at (paths_of_length s (suc r)) i ≡ get_or s (i / path_count (length s - 1) r) d ∷ path_at (paths_of_length (without_id s (get_or s (i / path_count (length s - 1) r) d)) r) (i % path_count (length s - 1) r)
path_at-step s r i d distinct low =
    let w : ℕ = path_count (length s - 1) r in
    let some : 0 < w = some_width i (length s) w low in
    let split : i ≡ i / w * w + i % w = omega (arith, div-mod i w some) in
    ap (path_at (paths_of_length s (suc r))) split ∙ path_at-cons s r (i / w) (i % w) d distinct (div_below i w (length s) some low) (mod_below i w some)

-- a path's place: that of its first node among the members, and that of the rest among the paths of the others
place-here : (c : ℕ) (cs : List ℕ) (ps rest : List (List ℕ)) → place_in ps cs < length ps → place_in (map (λ path. c ∷ path) ps ++ rest) (c ∷ cs) ≡ place_in ps cs
place-here c cs [] rest h = absurd (omega arith)
place-here c cs (p ∷ ps) rest h =
    elim (cases_Bool (same_nodes p cs)) [
      | inl s ↦ cond-true (c == c && same_nodes p cs) 0 (1 + place_in (map (λ path. c ∷ path) ps ++ rest) (c ∷ cs)) (ap₂ (λ (a b : Bool). a && b) (eq-eqb c c refl) s) ∙ sym (cond-true (same_nodes p cs) 0 (1 + place_in ps cs) s)
      | inr d ↦
          let k : place_in (p ∷ ps) cs ≡ 1 + place_in ps cs = cond-false (same_nodes p cs) 0 (1 + place_in ps cs) d in
          cond-false (c == c && same_nodes p cs) 0 (1 + place_in (map (λ path. c ∷ path) ps ++ rest) (c ∷ cs)) (ap₂ (λ (a b : Bool). a && b) (eq-eqb c c refl) d)
          ∙ ap (λ (n : ℕ). 1 + n) (place-here c cs ps rest (omega arith)) ∙ sym k
    ]

place-past : (x c : ℕ) (cs : List ℕ) (ps rest : List (List ℕ)) → (x == c) ≡ false → place_in (map (λ path. x ∷ path) ps ++ rest) (c ∷ cs) ≡ length ps + place_in rest (c ∷ cs)
place-past x c cs [] rest n = omega arith
place-past x c cs (p ∷ ps) rest n =
    omega (arith, cond-false (x == c && same_nodes p cs) 0 (1 + place_in (map (λ path. x ∷ path) ps ++ rest) (c ∷ cs)) (ap (λ (b : Bool). b && same_nodes p cs) n), place-past x c cs ps rest n)

place-pieces : (g : ℕ → List (List ℕ)) (w : ℕ) (s : List ℕ) (c : ℕ) (cs : List ℕ) → ((q : ℕ) → has_id s q ≡ true → length (g q) ≡ w) → has_id s c ≡ true → place_in (g c) cs < w
    → place_in (flat_map (λ q. map (λ path. q ∷ path) (g q)) s) (c ∷ cs) ≡ index_in s c * w + place_in (g c) cs
place-pieces g w [] c cs h on low = absurd (cc)
place-pieces g w (x ∷ xs) c cs h on low =
    let rest : List (List ℕ) = flat_map (λ q. map (λ path. q ∷ path) (g q)) xs in
    elim (cases_Bool (x == c)) [
      | inl e ↦
          let is : x ≡ c = eqb-true x c e in
          let wide : length (g c) ≡ w = h c (or_left (x == c) (has_id xs c) e) in
          let k : index_in (x ∷ xs) c ≡ 0 = cond-true (x == c) 0 (1 + index_in xs c) e in
          let z : index_in (x ∷ xs) c * w ≡ 0 = ap (λ (n : ℕ). n * w) k ∙ omega arith in
          ap (λ (y : ℕ). place_in (map (λ path. y ∷ path) (g y) ++ rest) (c ∷ cs)) is ∙ place-here c cs (g c) rest (omega arith) ∙ omega arith
      | inr n ↦
          let on' : has_id xs c ≡ true = ap (λ (b : Bool). b || has_id xs c) (sym n) ∙ on in
          let k : index_in (x ∷ xs) c * w ≡ w + index_in xs c * w = ap (λ (n : ℕ). n * w) (cond-false (x == c) 0 (1 + index_in xs c) n) ∙ omega arith in
          place-past x c cs (g x) rest n
          ∙ omega (arith, h x (or_left (x == x) (has_id xs x) (eq-eqb x x refl)), place-pieces g w xs c cs (λ q q-on. h q (or_right (x == q) (has_id xs q) q-on)) on' low)
    ]

pub place-cons : (s : List ℕ) (r c : ℕ) (cs : List ℕ) → Distinct s → has_id s c ≡ true → place_in (paths_of_length (without_id s c) r) cs < path_count (length s - 1) r
    → place_in (paths_of_length s (suc r)) (c ∷ cs) ≡ index_in s c * path_count (length s - 1) r + place_in (paths_of_length (without_id s c) r) cs
place-cons s r c cs d on low =
    ap (λ (ps : List (List ℕ)). place_in ps (c ∷ cs)) (paths-cons s r)
    ∙ place-pieces (λ q. paths_of_length (without_id s q) r) (path_count (length s - 1) r) s c cs
    (λ q h. length-paths (without_id s q) r (Distinct-without s q d) ∙ ap (λ (n : ℕ). path_count n r) (length-without s q d h)) on low

-- what is left of a path after its first node is a path of the other members
pub rest_within : (s : List ℕ) (c : ℕ) (cs : List ℕ) → has_id cs c ≡ false → ((q : ℕ) → has_id (c ∷ cs) q ≡ true → has_id s q ≡ true) → (q : ℕ) → has_id cs q ≡ true → has_id (without_id s c) q ≡ true
rest_within s c cs off within q on = has-without s c q (λ e. both_ways _ off (ap (has_id cs) (sym e) ∙ on)) (within q (or_right (c == q) (has_id cs q) on))

-- each path of distinct members has its place in the list
pub place-lt : (s path : List ℕ) → Distinct s → Distinct path → ((q : ℕ) → has_id path q ≡ true → has_id s q ≡ true)
    → place_in (paths_of_length s (length path)) path < path_count (length s) (length path)
place-lt s [] d p within = omega arith
place-lt s (c ∷ cs) d p within =
    let on : has_id s c ≡ true = within c (or_left (c == c) (has_id cs c) (eq-eqb c c refl)) in
    let low : place_in (paths_of_length (without_id s c) (length cs)) cs < path_count (length s - 1) (length cs) =
    subst (λ (n : ℕ). place_in (paths_of_length (without_id s c) (length cs)) cs < path_count n (length cs)) (length-without s c d on)
    (place-lt (without_id s c) cs (Distinct-without s c d) p.1 (rest_within s c cs p.0 within)) in
    omega (arith, place-cons s (length cs) c cs d on low, digits_fit (index_in s c) (place_in (paths_of_length (without_id s c) (length cs)) cs) (length s) (path_count (length s - 1) (length cs)) (index_in-lt s c on) low)

-- the path at a path's place is that path
pub path_at-place : (ps : List (List ℕ)) (path : List ℕ) → place_in ps path < length ps → path_at ps (place_in ps path) ≡ path
path_at-place [] path h = absurd (omega arith)
path_at-place (p ∷ ps) path h =
    elim (cases_Bool (same_nodes p path)) [
      | inl s ↦ ap (path_at (p ∷ ps)) (cond-true (same_nodes p path) 0 (1 + place_in ps path) s) ∙ same_nodes-tells p path s
      | inr d ↦
          let k : place_in (p ∷ ps) path ≡ suc (place_in ps path) = omega (arith, cond-false (same_nodes p path) 0 (1 + place_in ps path) d) in
          ap (path_at (p ∷ ps)) k ∙ path_at-place ps path (omega arith)
    ]

-- the path at a place is one of distinct members, of the list's length
pub has-without-left : (s : List ℕ) (q x : ℕ) → has_id (without_id s q) x ≡ true → (x ≢ q) × (has_id s x ≡ true)
has-without-left s q x h =
    let both = and_parts (not (x == q)) (has_id s x) (sym (has-without_id s q x) ∙ h) in
    (eqb-false x q (not-true (x == q) both.0), both.1)

pub has-of-without : (s : List ℕ) (q x : ℕ) → has_id (without_id s q) x ≡ true → has_id s x ≡ true
has-of-without s q x h = (has-without-left s q x h).1

IsListed-cons : (s : List ℕ) (r q : ℕ) (path : List ℕ) → has_id s q ≡ true → IsListed (without_id s q) r path → IsListed s (suc r) (q ∷ path)
IsListed-cons s r q path on l = record {
  distinct = (
    elim (cases_Bool (has_id path q)) [
      | inl h ↦ absurd ((has-without-left s q q (l.within q h)).0 refl)
      | inr h ↦ h
    ],
    l.distinct,
  );
  within = λ x h. elim (or_cases (q == x) (has_id path x) h) [
    | inl e ↦ ap (has_id s) (sym (eqb-true q x e)) ∙ on
    | inr later ↦ (has-without-left s q x (l.within x later)).1
  ];
  long = ap suc l.long;
}

pub IsListed-at : (s : List ℕ) (r i : ℕ) → Distinct s → i < path_count (length s) r → IsListed s r (path_at (paths_of_length s r) i)
IsListed-at s zero zero d low = record { distinct = tt; within = λ q h. absurd (cc); long = refl }
IsListed-at s zero (suc i) d low = absurd (omega arith)
IsListed-at s (suc r) i d low =
    let w : ℕ = path_count (length s - 1) r in
    let some : 0 < w = some_width i (length s) w low in
    let q : ℕ = get_or s (i / w) 0 in
    let on : has_id s q ≡ true = has-at s (i / w) 0 (div_below i w (length s) some low) in
    subst (IsListed s (suc r)) (sym (path_at-step s r i 0 d low))
    (IsListed-cons s r q (path_at (paths_of_length (without_id s q) r) (i % w)) on
    (IsListed-at (without_id s q) r (i % w) (Distinct-without s q d) (subst (λ (n : ℕ). i % w < path_count n r) (sym (length-without s q d on)) (mod_below i w some))))

-- the place of the path at a place is that place
pub place-path_at : (s : List ℕ) (r i : ℕ) → Distinct s → i < path_count (length s) r → place_in (paths_of_length s r) (path_at (paths_of_length s r) i) ≡ i
place-path_at s zero zero d low = refl
place-path_at s zero (suc i) d low = absurd (omega arith)
place-path_at s (suc r) i d low =
    let w : ℕ = path_count (length s - 1) r in
    let some : 0 < w = some_width i (length s) w low in
    let a-low : i / w < length s = div_below i w (length s) some low in
    let q : ℕ = get_or s (i / w) 0 in
    let on : has_id s q ≡ true = has-at s (i / w) 0 a-low in
    let rest : List ℕ = path_at (paths_of_length (without_id s q) r) (i % w) in
    let b : place_in (paths_of_length (without_id s q) r) rest ≡ i % w =
    place-path_at (without_id s q) r (i % w) (Distinct-without s q d) (subst (λ (n : ℕ). i % w < path_count n r) (sym (length-without s q d on)) (mod_below i w some)) in
    let b-low : place_in (paths_of_length (without_id s q) r) rest < w = omega (arith, b, mod_below i w some) in
    let a : index_in s q * w ≡ i / w * w = ap (λ (n : ℕ). n * w) (index_in-at s (i / w) 0 d a-low) in
    ap (place_in (paths_of_length s (suc r))) (path_at-step s r i 0 d low) ∙ place-cons s r q rest d on b-low ∙ omega (arith, a, b, div-mod i w some)

-- ---- the paths that are one node longer

regroup : (n c k : ℕ) → n * (c * k) ≡ n * c * k
regroup n c k = sym (mul_assoc n c k)

pub path_count-last : (n r : ℕ) → path_count n (suc r) ≡ path_count n r * (n - r)
path_count-last n zero = omega arith
path_count-last n (suc r) =
    let e : n - 1 - r ≡ n - suc r = omega arith in
    ap (λ (k : ℕ). n * k) (path_count-last (n - 1) r ∙ ap (λ (k : ℕ). path_count (n - 1) r * k) e) ∙ regroup n (path_count (n - 1) r) (n - suc r)

spread : (a b w v j : ℕ) → (a * w + b) * v + j ≡ a * (w * v) + (b * v + j)
spread a b w v j = omega arith

shift : (i a b w v j : ℕ) → i ≡ a * w + b → i * v + j ≡ a * (w * v) + (b * v + j)
shift i a b w v j e = ap (λ (k : ℕ). k * v + j) e ∙ spread a b w v j

-- the paths one node longer stand together behind each path, in the order of the members outside it
pub path_at-push : (s : List ℕ) (r i j : ℕ) → Distinct s → i < path_count (length s) r → j < length s - r
    → path_at (paths_of_length s (suc r)) (i * (length s - r) + j) ≡ path_at (paths_of_length s r) i ++ get_or (outside s (path_at (paths_of_length s r) i)) j 0 ∷ []
path_at-push s zero i j d low within =
    let z : i ≡ 0 = first_only i low in
    let e : i * (length s - 0) + j ≡ j * 1 + 0 = ap (λ (k : ℕ). k * (length s - 0) + j) z ∙ omega arith in
    ap (path_at (paths_of_length s 1)) e ∙ path_at-cons s 0 j 0 0 d (omega arith) (omega arith)
    ∙ ap (λ (xs : List ℕ). get_or xs j 0 ∷ []) (sym (outside_nothing s))
    ∙ ap (λ (k : ℕ). path_at ([] ∷ []) k ++ get_or (outside s (path_at ([] ∷ []) k)) j 0 ∷ []) (sym z)
path_at-push s (suc r) i j d low within =
    let n : ℕ = length s in
    let w : ℕ = path_count (n - 1) r in
    let v : ℕ = n - suc r in
    let some : 0 < w = some_width i n w low in
    let a : ℕ = i / w in
    let b : ℕ = i % w in
    let a-low : a < n = div_below i w n some low in
    let b-low : b < w = mod_below i w some in
    let q : ℕ = get_or s a 0 in
    let on : has_id s q ≡ true = has-at s a 0 a-low in
    let t : List ℕ = without_id s q in
    let nt : length t ≡ n - 1 = length-without s q d on in
    let vt : length t - r ≡ v = omega arith in
    let last : path_count (n - 1) (suc r) ≡ w * v = path_count-last (n - 1) r ∙ ap (λ (k : ℕ). w * k) (same_rest n r) in
    let split : i * v + j ≡ a * path_count (n - 1) (suc r) + (b * v + j) = shift i a b w v j (div-mod i w some) ∙ ap (λ (k : ℕ). a * k + (b * v + j)) (sym last) in
    let inner : b * v + j < path_count (n - 1) (suc r) = subst (λ (k : ℕ). b * v + j < k) (sym last) (digits_fit b j w v b-low within) in
    let later : path_at (paths_of_length t (suc r)) (b * v + j) ≡ path_at (paths_of_length t r) b ++ get_or (outside t (path_at (paths_of_length t r) b)) j 0 ∷ [] =
    ap (λ (k : ℕ). path_at (paths_of_length t (suc r)) (b * k + j)) (sym vt)
    ∙ path_at-push t r b j (Distinct-without s q d) (subst (λ (k : ℕ). b < path_count k r) (sym nt) b-low) (subst (λ (k : ℕ). j < k) (sym vt) within) in
    let whole : path_at (paths_of_length s (suc r)) i ≡ q ∷ path_at (paths_of_length t r) b = path_at-step s r i 0 d low in
    ap (path_at (paths_of_length s (suc (suc r)))) split ∙ path_at-cons s (suc r) a (b * v + j) 0 d a-low inner
    ∙ ap (λ (p : List ℕ). q ∷ p) later
    ∙ ap (λ (xs : List ℕ). (q ∷ path_at (paths_of_length t r) b) ++ get_or xs j 0 ∷ []) (outside-without s q (path_at (paths_of_length t r) b))
    ∙ ap (λ (p : List ℕ). p ++ get_or (outside s p) j 0 ∷ []) (sym whole)

-- how many members are outside a path
pub length-outside : (s path : List ℕ) → Distinct s → Distinct path → ((q : ℕ) → has_id path q ≡ true → has_id s q ≡ true) → length (outside s path) ≡ length s - length path
length-outside s [] d p within = ap length (outside_nothing s) ∙ omega arith
length-outside s (c ∷ cs) d p within =
    let on : has_id s c ≡ true = within c (or_left (c == c) (has_id cs c) (eq-eqb c c refl)) in
    ap length (sym (outside-without s c cs)) ∙ length-outside (without_id s c) cs (Distinct-without s c d) p.1 (rest_within s c cs p.0 within) ∙ omega (arith, length-without s c d on)
