-- The sections of a flat list of all paths, and the places in them.
use Rattle.std.proofs.Common.{ℕ, map, zero, suc, ◌≡◌, ◌≢◌, ◌<◌, ◌≤◌, ◌+◌, ◌-◌, ◌==◌, true, false, List, [], ◌∷◌, ◌++◌, length, get_or, set, take, drop, replicate, refl, sym, ap, ap₂, subst, ◌∙◌, inl, inr, arith, eq-eqb, eqb-true, append-nil}
use Rattle.std.specs.Prelude.{if◌then◌else◌}
use Rattle.std.proofs.lemmas.Bool.{cases_Bool, cases_lt, cond-true, cond-false, both_ways, or_left}
use Rattle.std.proofs.lemmas.List.{get_or-set_same, get_or-set_other, take_more, get_or-replicate, get_or_past, length-replicate, take_all, drop_all}
use Rattle.std.proofs.lemmas.List.Edits.{map_over_more}
use Rattle.node_grid.specs.NodeSet.{has_id, without_id}
use Rattle.node_grid.specs.Count.{Distinct}
use Rattle.omh_paths.specs.declared.wrapped.Wrapped.{Wrapped}
use Rattle.omh_paths.specs.declared.wrapped.Wrapped.TheVariants.{Fault}
use Rattle.omh_paths.specs.Paths.{same_nodes, outside, paths_of_length, path_count, place_in, path_at, index_in}
use Rattle.omh_paths.specs.PathLists.{same_nodes-tells, same_nodes-finds, length-paths, place-lt, path_at-place, place-cons, index_in-lt, length-without, Distinct-without, has-without-left}
use Rattle.omh_paths.specs.Facts.{outside-push, more_paths}
use Rattle.omh.specs.Heard.{entry, heard_paths, nothing_heard, with_heard}
use Rattle.omh.specs.HeardLaws.{IsHeardPath, entries_with}
use Rattle.omh.specs.FlatLaws.{section_at-le, section_at-next}
use Rattle.omh.specs.Flat.{section_at, flat_place, flat_heard, heard_flat, laid_own, forgotten}

-- ---- the members outside a path that grows

pub outside_more : (s path left new : List ℕ) (k q : ℕ) → k < length path → q ≡ get_or path k 0 → left ≡ outside s (take k path) → new ≡ without_id left q → new ≡ outside s (take (k + 1) path)
outside_more s path left new k q here at was cuts =
    cuts ∙ ap (λ (xs : List ℕ). without_id xs q) was ∙ sym (outside-push s (take k path) q)
    ∙ ap (λ (x : ℕ). outside s (take k path ++ x ∷ [])) at ∙ ap (outside s) (sym (take_more path k 0 here))

-- the place of a single node among the paths of one node
pub single_place : (s : List ℕ) (q : ℕ) → Distinct s → has_id s q ≡ true → place_in (paths_of_length s 1) (q ∷ []) ≡ index_in s q
single_place s q d on = place-cons s 0 q [] d on (omega arith) ∙ omega arith

-- ---- sections

-- a place in the section of the paths of r + 1 nodes
pub place_within : (nodes k r rounds i : ℕ) → k ≤ nodes → r ≤ rounds → i < path_count k (r + 1) → section_at nodes r + i < section_at nodes (rounds + 1)
place_within nodes k r rounds i few low h =
    omega (arith, section_at-le nodes (r + 1) (rounds + 1) (omega arith), section_at-next nodes r, more_paths k nodes (r + 1) few)

pub place_within_len : (nodes k len rounds i : ℕ) → k ≤ nodes → 0 < len → len ≤ rounds + 1 → i < path_count k len → section_at nodes (len - 1) + i < section_at nodes (rounds + 1)
place_within_len nodes k len rounds i few some short h =
    let e : len ≡ len - 1 + 1 = omega arith in
    place_within nodes k (len - 1) rounds i few (omega arith) (subst (λ (n : ℕ). i < path_count k n) e h)

-- the paths of one commander fit the working list
pub room_enough : (nodes k r rounds : ℕ) → k ≤ nodes → r ≤ rounds → path_count (k - 1) r ≤ 1 + section_at (nodes - 1) rounds
room_enough nodes k zero rounds few low = omega arith
room_enough nodes k (suc r) rounds few low =
    omega (arith, more_paths (k - 1) (nodes - 1) (suc r) (omega arith), section_at-le (nodes - 1) (suc r) rounds low)

-- ---- what stands at the places

get_or-nothing : {V : Type 0} (none : Wrapped V) (n i : ℕ) → get_or (replicate n none) i none ≡ none
get_or-nothing none n i = elim (cases_lt i n) [
  | inl l ↦ get_or-replicate n i none none l
  | inr m ↦ get_or_past (replicate n none) i none (omega (arith, length-replicate n none))
]

-- a list of nothing but Fault 0 is one in which nothing was heard
pub flat_nothing : {V : Type 0} (nodes rounds : ℕ) (members : List ℕ) (me n : ℕ) (none : Wrapped V) → none ≡ Fault 0 → heard_flat nodes rounds members me (replicate n none) ≡ nothing_heard members me rounds
flat_nothing {V} nodes rounds members me n none e =
    ap (λ (f : List ℕ → Wrapped V). map (entry f) (heard_paths members me rounds))
    (λ i path. (ap (λ (d : Wrapped V). get_or (replicate n none) (flat_place nodes members path) d) (sym e) ∙ get_or-nothing none n (flat_place nodes members path) ∙ e) i)

-- two paths have two places
module _ (nodes : ℕ) (members : List ℕ) (me rounds : ℕ) (d : Distinct members) (few : length members ≤ nodes) where
  place-in_section : (path : List ℕ) → IsHeardPath members me rounds path → flat_place nodes members path < section_at nodes (length path)
  place-in_section path h =
      let low = place-lt members path d h.distinct h.within in
      let some = h.some in
      let e : length path ≡ suc (length path - 1) = omega arith in
      omega (arith, low, more_paths (length members) nodes (length path) few, ap (section_at nodes) e, ap (path_count nodes) e)

  pub flat_place-lt : (path : List ℕ) → IsHeardPath members me rounds path → flat_place nodes members path < section_at nodes (rounds + 1)
  flat_place-lt path h = omega (arith, place-in_section path h, section_at-le nodes (length path) (rounds + 1) h.short)

  shorter_first : (p q : List ℕ) → IsHeardPath members me rounds p → length p < length q → flat_place nodes members p < flat_place nodes members q
  shorter_first p q h l = omega (arith, place-in_section p h, section_at-le nodes (length p) (length q - 1) (omega arith))

  flat_place-tells : (p q : List ℕ) → IsHeardPath members me rounds p → IsHeardPath members me rounds q → flat_place nodes members p ≡ flat_place nodes members q → p ≡ q
  flat_place-tells p q hp hq e = elim (cases_lt (length p) (length q)) [
    | inl l ↦ absurd (omega (arith, shorter_first p q hp l))
    | inr m ↦ elim (cases_lt (length q) (length p)) [
      | inl l ↦ absurd (omega (arith, shorter_first q p hq l))
      | inr n ↦
          let long : length p ≡ length q = omega arith in
          let same_section : section_at nodes (length p - 1) ≡ section_at nodes (length q - 1) = ap (λ (k : ℕ). section_at nodes (k - 1)) long in
          let place : place_in (paths_of_length members (length p)) p ≡ place_in (paths_of_length members (length q)) q = omega arith in
          let at_p = path_at-place (paths_of_length members (length p)) p (omega (arith, place-lt members p d hp.distinct hp.within, length-paths members (length p) d)) in
          let at_q = path_at-place (paths_of_length members (length q)) q (omega (arith, place-lt members q d hq.distinct hq.within, length-paths members (length q) d)) in
          sym at_p ∙ ap₂ (λ (n i : ℕ). path_at (paths_of_length members n) i) long place ∙ at_q
    ]
  ]

  -- a value put for one path
  put_heard : {V : Type 0} (flat : List (Wrapped V)) (path : List ℕ) (value : Wrapped V) → length flat ≡ section_at nodes (rounds + 1) → IsHeardPath members me rounds path
      → (p : List ℕ) → IsHeardPath members me rounds p
      → flat_heard nodes members (set flat (flat_place nodes members path) value) p ≡ (if same_nodes p path then value else flat_heard nodes members flat p)
  put_heard flat path value long h p real = elim (cases_Bool (same_nodes p path)) [
    | inl y ↦
        let e : p ≡ path = same_nodes-tells p path y in
        let low : flat_place nodes members path < length flat = omega (arith, flat_place-lt path h) in
        ap (λ (x : List ℕ). get_or (set flat (flat_place nodes members path) value) (flat_place nodes members x) (Fault 0)) e
        ∙ get_or-set_same flat (flat_place nodes members path) value (Fault 0) low ∙ sym (cond-true (same_nodes p path) value (flat_heard nodes members flat p) y)
    | inr n ↦
        let ne : flat_place nodes members p ≢ flat_place nodes members path =
        λ e. both_ways _ n (ap (λ (x : List ℕ). same_nodes x path) (flat_place-tells p path real h e) ∙ same_nodes-finds path) in
        get_or-set_other flat (flat_place nodes members path) (flat_place nodes members p) value (Fault 0) ne ∙ sym (cond-false (same_nodes p path) value (flat_heard nodes members flat p) n)
  ]

  pub flat_put : {V : Type 0} (flat : List (Wrapped V)) (path : List ℕ) (value : Wrapped V) → length flat ≡ section_at nodes (rounds + 1) → IsHeardPath members me rounds path
      → heard_flat nodes rounds members me (set flat (flat_place nodes members path) value) ≡ map (with_heard path value) (heard_flat nodes rounds members me flat)
  flat_put flat path value long h =
      entries_with (flat_heard nodes members flat) (flat_heard nodes members (set flat (flat_place nodes members path) value)) members me rounds path value d
      (put_heard flat path value long h)

-- ---- how many members there are

pub few_below : (n : ℕ) (s : List ℕ) → Distinct s → ((q : ℕ) → has_id s q ≡ true → q < n) → length s ≤ n
few_below zero [] d h = omega arith
few_below zero (x ∷ xs) d h = absurd (let l = h x (or_left (x == x) (has_id xs x) (eq-eqb x x refl)) in omega arith)
few_below (suc n) s d h = elim (cases_Bool (has_id s n)) [
  | inl on ↦
      omega (
        arith,
        length-without s n d on,
        index_in-lt s n on,
        few_below n (without_id s n) (Distinct-without s n d) (λ q q-on.
            let other = has-without-left s n q q-on in let low = h q other.1 in let ne : q ≢ n = other.0 in omega arith),
      )
  | inr off ↦
      let all : length s ≤ n = few_below n s d (λ q on. let low = h q on in let ne : q ≢ n = λ e. both_ways _ off (ap (has_id s) (sym e) ∙ on) in omega arith) in
      omega arith
]

-- ---- the node's own term

pub place_of_me : (others seen : List ℕ) (me rank : ℕ) (root : List ℕ) → Distinct others → has_id others me ≡ true → seen ≡ others → root ≡ me ∷ [] → rank ≡ place_in (paths_of_length seen (length root)) root → rank ≡ index_in others me
place_of_me others seen me rank root d on is at place =
    place ∙ ap₂ (λ (s p : List ℕ). place_in (paths_of_length s (length p)) p) is at ∙ single_place others me d on

pub laid_at : {V : Type 0} (others seen : List ℕ) (me from rank : ℕ) (root : List ℕ) (own : Wrapped V) (work : List (Wrapped V)) → Distinct others → has_id others me ≡ true → seen ≡ others → root ≡ me ∷ []
    → rank ≡ place_in (paths_of_length seen (length root)) root → set work (from + rank) own ≡ laid_own others me from own work
laid_at others seen me from rank root own work d on is at place =
    ap (λ (k : ℕ). set work (from + k) own) (place_of_me others seen me rank root d on is at place) ∙ sym (cond-true (has_id others me) (set work (from + index_in others me) own) work on)

pub unlaid : {V : Type 0} (others seen : List ℕ) (me from : ℕ) (own : Wrapped V) (work : List (Wrapped V)) → seen ≡ others → has_id seen me ≡ false → work ≡ laid_own others me from own work
unlaid others seen me from own work is off = sym (cond-false (has_id others me) (set work (from + index_in others me) own) work (ap (λ (s : List ℕ). has_id s me) (sym is) ∙ off))

pub laid_low : (others seen : List ℕ) (me from rank n : ℕ) (root : List ℕ) → Distinct others → has_id others me ≡ true → seen ≡ others → root ≡ me ∷ []
    → rank ≡ place_in (paths_of_length seen (length root)) root → from + length others ≤ n → from + rank < n
laid_low others seen me from rank n root d on is at place room = omega (arith, place_of_me others seen me rank root d on is at place, index_in-lt others me on)

pub only_me : (others root : List ℕ) (me q : ℕ) → root ≡ me ∷ [] → has_id others me ≡ true → has_id root q ≡ true → has_id others q ≡ true
only_me others root me q at on here = elim (cases_Bool (me == q)) [
  | inl e ↦ ap (has_id others) (sym (eqb-true me q e)) ∙ on
  | inr ne ↦ let there : has_id (me ∷ []) q ≡ true = ap (λ (s : List ℕ). has_id s q) (sym at) ∙ here in let no_way : false ≡ true = rw ne at there in cc
]

-- ---- forgetting

pub forget_more : {V : Type 0} (was now : List (Wrapped V)) (i : ℕ) (x : Wrapped V) → i < length was → now ≡ forgotten (take i was) ++ drop i was → x ≡ get_or now i x
    → set now i (Fault 0) ≡ forgotten (take (i + 1) was) ++ drop (i + 1) was
forget_more {V} was now i x within is at = map_over_more (λ (y : Wrapped V). Fault 0) was now i x within is at

pub forget_all : {V : Type 0} (was now : List (Wrapped V)) (i : ℕ) → length was ≤ i → now ≡ forgotten (take i was) ++ drop i was → now ≡ forgotten was
forget_all {V} was now i past is =
    is ∙ ap (λ (xs : List (Wrapped V)). forgotten xs ++ drop i was) (take_all i was past) ∙ ap (λ (xs : List (Wrapped V)). forgotten was ++ xs) (drop_all i was past) ∙ append-nil (forgotten was)

pub get_or-forgotten : {V : Type 0} (was : List (Wrapped V)) (i : ℕ) → get_or (forgotten was) i (Fault 0) ≡ Fault 0
get_or-forgotten [] i = refl
get_or-forgotten (x ∷ was) zero = refl
get_or-forgotten (x ∷ was) (suc i) = get_or-forgotten was i

-- a list in which all is forgotten is one in which nothing was heard
pub flat_forgotten : {V : Type 0} (nodes rounds : ℕ) (members : List ℕ) (me : ℕ) (was : List (Wrapped V)) → heard_flat nodes rounds members me (forgotten was) ≡ nothing_heard members me rounds
flat_forgotten {V} nodes rounds members me was =
    ap (λ (f : List ℕ → Wrapped V). map (entry f) (heard_paths members me rounds)) (λ i path. get_or-forgotten was (flat_place nodes members path) i)

pub length-forgotten : {V : Type 0} (was : List (Wrapped V)) → length (forgotten was) ≡ length was
length-forgotten [] = refl
length-forgotten (x ∷ was) = ap suc (length-forgotten was)
