-- What a slot leaves of a table that holds what was heard before it.
use Rattle.std.proofs.Common.{ℕ, zero, suc, ◌≡◌, ◌≢◌, ◌<◌, ◌+◌, ◌==◌, ◌||◌, ◌&&◌, Bool, true, false, not, if◌then◌else◌, List, [], ◌∷◌, ◌++◌, length, map, filter, refl, sym, ap, subst, ◌∙◌, inl, inr, arith, eq-eqb, ne_eqb}
use Rattle.std.specs.List.{AllByRecursion}
use Rattle.std.proofs.lemmas.Bool.{cases_Bool, cases_eq, cond-true, cond-false, both_ways, or_cases, or_left, or_right, and_from}
use Rattle.std.proofs.lemmas.List.{length_push}
use Rattle.node_grid.specs.NodeSet.{has_id, without_id, IsIdSet}
use Rattle.node_grid.specs.Count.{Distinct}
use Rattle.node_grid.specs.ListFacts.{map_map}
use Rattle.node_grid.specs.SetFacts.{split_off, front_distinct, has-without, member-lt}
use Rattle.node_grid.specs.TruthFacts.{or_of_three}
use Rattle.omh_paths.specs.declared.wrapped.Wrapped.{Wrapped}
use Rattle.omh_paths.specs.Paths.{same_nodes, paths_of_length, place_in}
use Rattle.node_grid.specs.ListLaws.{has_push}
use Rattle.omh_paths.specs.PathLists.{same_nodes-tells, same_nodes-finds, length-paths, IsListed-at, Distinct-without, place-lt}
use Rattle.omh_paths.specs.MemberLaws.{Distinct-ids}
use Rattle.omh_paths.specs.Facts.{all_at}
use Rattle.omh.specs.Heard.{entry, heard_paths}
use Rattle.omh.specs.HeardLaws.{IsHeardPath, entries_alike}
use Rattle.relay_rules.specs.Hearing.{has_path, told_to, pushed, paths_from, paths_told, all_told}

-- ---- paths of two lists

pub has_path-append : (ps qs : List (List ℕ)) (p : List ℕ) → has_path (ps ++ qs) p ≡ (has_path ps p || has_path qs p)
has_path-append [] qs p = refl
has_path-append (x ∷ ps) qs p = ap (λ (c : Bool). same_nodes x p || c) (has_path-append ps qs p) ∙ or_of_three (same_nodes x p) (has_path ps p) (has_path qs p)

-- ---- paths end in a node

pub record Split (path : List ℕ) : Type 0 where
  pub front : List ℕ
  pub last : ℕ
  pub is : path ≡ front ++ last ∷ []

pub split : (path : List ℕ) → 0 < length path → Split path
split [] h = absurd (omega arith)
split (x ∷ []) h = record { front = []; last = x; is = refl }
split (x ∷ y ∷ ys) h = let r = split (y ∷ ys) (omega arith) in record { front = x ∷ r.front; last = r.last; is = ap (λ (zs : List ℕ). x ∷ zs) r.is }

-- ---- which paths are told of

pub listed : (ps : List (List ℕ)) (p : List ℕ) → place_in ps p < length ps → has_path ps p ≡ true
listed [] p h = absurd (omega arith)
listed (x ∷ ps) p h = elim (cases_Bool (same_nodes x p)) [
  | inl y ↦ or_left (same_nodes x p) (has_path ps p) y
  | inr n ↦ or_right (same_nodes x p) (has_path ps p) (listed ps p (let e = cond-false (same_nodes x p) 0 (1 + place_in ps p) n in omega arith))
]

pub listed_pushed : (ps : List (List ℕ)) (p : List ℕ) (q : ℕ) → has_path ps p ≡ true → has_path (map (λ x. x ++ q ∷ []) ps) (p ++ q ∷ []) ≡ true
listed_pushed [] p q h = cc
listed_pushed (x ∷ ps) p q h = elim (or_cases (same_nodes x p) (has_path ps p) h) [
  | inl y ↦ or_left _ _ (ap (λ (z : List ℕ). same_nodes (z ++ q ∷ []) (p ++ q ∷ [])) (same_nodes-tells x p y) ∙ same_nodes-finds (p ++ q ∷ []))
  | inr n ↦ or_right (same_nodes (x ++ q ∷ []) (p ++ q ∷ [])) _ (listed_pushed ps p q n)
]

pub listed_kept : (f : List ℕ → Bool) (ps : List (List ℕ)) (p : List ℕ) → has_path ps p ≡ true → f p ≡ true → has_path (filter f ps) p ≡ true
listed_kept f [] p h k = cc
listed_kept f (x ∷ ps) p h k = elim (cases_Bool (f x)) [
  | inl keeps ↦ ap (λ (ys : List (List ℕ)). has_path ys p) (cond-true (f x) (x ∷ filter f ps) (filter f ps) keeps) ∙ elim (or_cases (same_nodes x p) (has_path ps p) h) [
    | inl y ↦ or_left _ _ y
    | inr n ↦ or_right (same_nodes x p) _ (listed_kept f ps p n k)
  ]
  | inr drops ↦ ap (λ (ys : List (List ℕ)). has_path ys p) (cond-false (f x) (x ∷ filter f ps) (filter f ps) drops) ∙ elim (or_cases (same_nodes x p) (has_path ps p) h) [
    | inl y ↦ absurd (both_ways _ drops (ap f (same_nodes-tells x p y) ∙ k))
    | inr n ↦ listed_kept f ps p n k
  ]
]

pub kept_listed : (f : List ℕ → Bool) (ps : List (List ℕ)) (p : List ℕ) → has_path (filter f ps) p ≡ true → has_path ps p ≡ true
kept_listed f [] p h = h
kept_listed f (x ∷ ps) p h = elim (cases_Bool (f x)) [
  | inl keeps ↦ elim (or_cases (same_nodes x p) _ (ap (λ (ys : List (List ℕ)). has_path ys p) (sym (cond-true (f x) (x ∷ filter f ps) (filter f ps) keeps)) ∙ h)) [
    | inl y ↦ or_left _ _ y
    | inr n ↦ or_right (same_nodes x p) _ (kept_listed f ps p n)
  ]
  | inr drops ↦ or_right (same_nodes x p) _ (kept_listed f ps p (ap (λ (ys : List (List ℕ)). has_path ys p) (sym (cond-false (f x) (x ∷ filter f ps) (filter f ps) drops)) ∙ h))
]

length_pushed : (r q : ℕ) (ps : List (List ℕ)) (p : List ℕ) → AllByRecursion (λ x. length x ≡ r) ps → has_path (map (λ x. x ++ q ∷ []) ps) p ≡ true → length p ≡ suc r
length_pushed r q [] p a h = cc
length_pushed r q (x ∷ ps) p a h = elim (or_cases (same_nodes (x ++ q ∷ []) p) _ h) [
  | inl y ↦ ap length (sym (same_nodes-tells (x ++ q ∷ []) p y)) ∙ (let e = length_push x q in let l = a.0 in omega arith)
  | inr n ↦ length_pushed r q ps p a.1 n
]

length_told : (members : List ℕ) (me r q : ℕ) (p : List ℕ) → Distinct members → has_path (paths_told members me r q) p ≡ true → length p ≡ suc r
length_told members me r q p d h = elim (cases_Bool (has_id members q && not (q == me))) [
  | inl y ↦
      let s : List ℕ = without_id members q in
      length_pushed r q (paths_of_length s r) p
      (all_at (λ x. length x ≡ r) (paths_of_length s r) (λ k l. (IsListed-at s r k (Distinct-without members q d) (let e = length-paths s r (Distinct-without members q d) in omega arith)).long))
      (kept_listed (λ x. not (has_id x me)) (pushed members r q) p (ap (λ (ys : List (List ℕ)). has_path ys p) (sym (cond-true _ (paths_from members me r q) [] y)) ∙ h))
  | inr n ↦ absurd (let e : false ≡ true = ap (λ (ys : List (List ℕ)). has_path ys p) (sym (cond-false _ (paths_from members me r q) [] n)) ∙ h in cc)
]

pub length_all : (members : List ℕ) (me r n : ℕ) (p : List ℕ) → Distinct members → has_path (all_told members me r n) p ≡ true → length p ≡ suc r
length_all members me r zero p d h = cc
length_all members me r (suc n) p d h = elim (or_cases (has_path (all_told members me r n) p) (has_path (paths_told members me r n) p) (sym (has_path-append (all_told members me r n) (paths_told members me r n) p) ∙ h)) [
  | inl a ↦ length_all members me r n p d a
  | inr b ↦ length_told members me r n p d b
]

pub told_all : (members : List ℕ) (me r n q : ℕ) (p : List ℕ) → q < n → has_path (paths_told members me r q) p ≡ true → has_path (all_told members me r n) p ≡ true
told_all members me r zero q p low h = absurd (omega arith)
told_all members me r (suc n) q p low h =
    has_path-append (all_told members me r n) (paths_told members me r n) p ∙ elim (cases_eq q n) [
      | inl e ↦ or_right (has_path (all_told members me r n) p) _ (ap (λ (k : ℕ). has_path (paths_told members me r k) p) (sym e) ∙ h)
      | inr ne ↦ or_left _ _ (told_all members me r n q p (omega arith) h)
    ]

-- a node is told of each path of so many nodes
tells_of : (members : List ℕ) (me rounds n r : ℕ) (p : List ℕ) (c : Split p) → IsIdSet n members → IsHeardPath members me rounds p → length p ≡ suc r → has_path (all_told members me r n) p ≡ true
tells_of members me rounds n r p c ids real long =
    let d : Distinct members = Distinct-ids n members ids in
    let q : ℕ = c.last in
    let on-p : has_id p q ≡ true = ap (λ (x : List ℕ). has_id x q) c.is ∙ has_push c.front q q ∙ or_right (has_id c.front q) (q == q) (eq-eqb q q refl) in
    let on : has_id members q ≡ true = real.within q on-p in
    let ne : q ≢ me = λ e. both_ways _ real.other (ap (has_id p) (sym e) ∙ on-p) in
    let dp : Distinct (c.front ++ q ∷ []) = subst Distinct c.is real.distinct in
    let len : length c.front ≡ r = (let e = length_push c.front q in let f = ap length c.is in omega arith) in
    let s : List ℕ = without_id members q in
    let off-q : has_id c.front q ≡ false = split_off c.front q dp in
    let inside : (x : ℕ) → has_id c.front x ≡ true → has_id s x ≡ true = λ x x-on.
    has-without members q x (λ e. both_ways _ off-q (ap (has_id c.front) (sym e) ∙ x-on))
    (real.within x (ap (λ (y : List ℕ). has_id y x) c.is ∙ has_push c.front q x ∙ or_left (has_id c.front x) (q == x) x-on)) in
    let placed : place_in (paths_of_length s (length c.front)) c.front < length (paths_of_length s (length c.front)) =
    (let e = length-paths s (length c.front) (Distinct-without members q d) in let l = place-lt s c.front (Distinct-without members q d) (front_distinct c.front q dp) inside in omega arith) in
    let among : has_path (paths_of_length s r) c.front ≡ true = subst (λ (k : ℕ). has_path (paths_of_length s k) c.front ≡ true) len (listed (paths_of_length s (length c.front)) c.front placed) in
    let kept : has_path (paths_from members me r q) (c.front ++ q ∷ []) ≡ true =
    listed_kept (λ x. not (has_id x me)) (pushed members r q) (c.front ++ q ∷ []) (listed_pushed (paths_of_length s r) c.front q among) (ap not (ap (λ (x : List ℕ). has_id x me) (sym c.is) ∙ real.other)) in
    let t : (has_id members q && not (q == me)) ≡ true = and_from _ _ on (ap not (ne_eqb q me ne)) in
    told_all members me r n q p (member-lt n members q ids on)
    (ap (λ (ys : List (List ℕ)). has_path ys p) (cond-true _ (paths_from members me r q) [] t) ∙ ap (has_path (paths_from members me r q)) c.is ∙ kept)

-- the paths told of in a round are those of its length
pub told_is : (members : List ℕ) (me rounds n r : ℕ) (p : List ℕ) → IsIdSet n members → IsHeardPath members me rounds p → has_path (all_told members me r n) p ≡ (length p == suc r)
told_is members me rounds n r p ids real = elim (cases_eq (length p) (suc r)) [
  | inl e ↦ tells_of members me rounds n r p (split p (omega arith)) ids real e ∙ sym (eq-eqb (length p) (suc r) e)
  | inr ne ↦ elim (cases_Bool (has_path (all_told members me r n) p)) [
    | inl y ↦ absurd (ne (length_all members me r n p (Distinct-ids n members ids) y))
    | inr none ↦ none ∙ sym (ne_eqb (length p) (suc r) ne)
  ]
]

-- what was heard after a slot, where what was heard before it is tabulated, and both are told by h
pub slot_tabled : {V : Type 0} (f g h : List ℕ → Wrapped V) (members : List ℕ) (me rounds n r : ℕ) → IsIdSet n members
    → ((p : List ℕ) → IsHeardPath members me rounds p → length p ≡ suc r → g p ≡ h p) → ((p : List ℕ) → IsHeardPath members me rounds p → length p ≢ suc r → f p ≡ h p)
    → map (told_to (all_told members me r n) g) (map (entry f) (heard_paths members me rounds)) ≡ map (entry h) (heard_paths members me rounds)
slot_tabled {V} f g h members me rounds n r ids here there =
    map_map (entry f) (told_to (all_told members me r n) g) (heard_paths members me rounds)
    ∙ entries_alike (λ p. if has_path (all_told members me r n) p then g p else f p) h members me rounds (Distinct-ids n members ids) (λ p real. elim (cases_eq (length p) (suc r)) [
      | inl e ↦ cond-true _ (g p) (f p) (told_is members me rounds n r p ids real ∙ eq-eqb (length p) (suc r) e) ∙ here p real e
      | inr ne ↦ cond-false _ (g p) (f p) (told_is members me rounds n r p ids real ∙ ne_eqb (length p) (suc r) ne) ∙ there p real ne
    ])
