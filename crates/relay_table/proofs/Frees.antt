-- Laying the members outside each path behind those outside shorter ones.
use Rattle.std.proofs.Common.{ℕ, zero, suc, ◌≡◌, ◌<◌, ◌≤◌, ◌+◌, ◌-◌, List, [], ◌∷◌, ◌++◌, length, take, drop, get_or, sym, ap, ap₂, subst, ◌∙◌, inl, inr, arith}
use Rattle.std.specs.List.{flat_map}
use Rattle.std.proofs.lemmas.Bool.{cases_eq}
use Rattle.std.proofs.lemmas.List.{take_more, take-take, flat_map_more, get_or-take, get_or-drop, get_or-map, length-map, length-take, length-drop, ext_get_or}
use Rattle.std.proofs.lemmas.List.Folds.{length-flat_map-take}
use Rattle.node_grid.specs.NodeSet.{without_id, IsIdSet}
use Rattle.omh_paths.specs.Paths.{outside, paths_of_length, path_count, path_at}
use Rattle.omh_paths.specs.PathLists.{outside_nothing, length-paths}
use Rattle.omh_paths.specs.MemberLaws.{Distinct-ids}
use Rattle.omh_paths.specs.Facts.{more_paths}
use Rattle.omh.specs.Flat.{section_at}
use Rattle.path_order.specs.Order.{each_left_out, free_members}
use Rattle.path_order.specs.OrderLaws.{free_members_law}
use Rattle.relay_walk.specs.Laid.{laid}
use Rattle.relay_walk.specs.LaidLaws.{laid_before, laid_in}
use Rattle.relay_table.specs.Free.{free_begins, AreFree, left_out_of}

-- the sets from one place until another, and what is left of those before the k-th
abbrev pub part : ℕ → ℕ → List (List ℕ) → List (List ℕ)
part from until sets = take (until - from) (drop from sets)

abbrev pub left_before : ℕ → ℕ → ℕ → List (List ℕ) → List (List ℕ)
left_before from until k sets = flat_map each_left_out (take (k - from) (part from until sets))

part_at : (from until k : ℕ) (sets : List (List ℕ)) → from ≤ k → k < until → until ≤ length sets → get_or (part from until sets) (k - from) [] ≡ get_or sets k []
part_at from until k sets low high room =
    get_or-take (until - from) (drop from sets) (k - from) [] (omega arith) ∙ get_or-drop from sets (k - from) [] ∙ ap (λ (i : ℕ). get_or sets i []) (omega arith)

length-part : (from until : ℕ) (sets : List (List ℕ)) → until ≤ length sets → from ≤ until → length (part from until sets) ≡ until - from
length-part from until sets room order = omega (arith, length-take (until - from) (drop from sets), length-drop from sets)

-- one set more
pub left_more : (from until k : ℕ) (sets : List (List ℕ)) → from ≤ k → k < until → until ≤ length sets
    → left_before from until k sets ++ each_left_out (get_or sets k []) ≡ left_before from until (k + 1) sets
left_more from until k sets low high room =
    let p : List (List ℕ) = part from until sets in
    let n = length-part from until sets room (omega arith) in
    ap (λ (s : List ℕ). flat_map each_left_out (take (k - from) p) ++ each_left_out s) (sym (part_at from until k sets low high room))
    ∙ flat_map_more each_left_out [] (take (k - from) p) (get_or p (k - from) [])
    ∙ ap (flat_map each_left_out) (sym (take_more p (k - from) [] (omega (arith, n))))
    ∙ ap (λ (i : ℕ). flat_map each_left_out (take i p)) (omega arith)

pub left_fits : (from until k : ℕ) (sets : List (List ℕ)) → from ≤ k → k < until → until ≤ length sets
    → length (left_before from until k sets) + length (get_or sets k []) ≤ length (left_out_of from until sets)
left_fits from until k sets low high room =
    let p : List (List ℕ) = part from until sets in
    let n = length-part from until sets room (omega arith) in
    let h = length-flat_map-take each_left_out p (k - from) [] (omega (arith, n)) in
    let e : length (each_left_out (get_or p (k - from) [])) ≡ length (get_or sets k []) =
    length-map (get_or p (k - from) []) (without_id (get_or p (k - from) [])) ∙ ap (λ (s : List ℕ). length s) (part_at from until k sets low high room) in
    omega (arith, h, e)

pub left_all : (from until : ℕ) (sets : List (List ℕ)) → left_before from until until sets ≡ left_out_of from until sets
left_all from until sets = ap (flat_map each_left_out) (take-take (until - from) (until - from) (drop from sets) (omega arith))

pub left_none : (from until : ℕ) (sets : List (List ℕ)) → left_before from until from sets ≡ []
left_none from until sets = let z : from - from ≡ 0 = omega arith in ap (λ (n : ℕ). flat_map each_left_out (take n (part from until sets))) z

-- ---- the sets of paths one node longer

length-free : (n : ℕ) (members : List ℕ) (r : ℕ) → IsIdSet n members → length (free_members members r) ≡ path_count (length members) r
length-free n members r ids = length-map (paths_of_length members r) (outside members) ∙ length-paths members r (Distinct-ids n members ids)

free_at : (n : ℕ) (members : List ℕ) (r k : ℕ) → IsIdSet n members → k < path_count (length members) r → get_or (free_members members r) k [] ≡ outside members (path_at (paths_of_length members r) k)
free_at n members r k ids low =
    get_or-map (outside members) (paths_of_length members r) k [] [] (omega (arith, length-paths members r (Distinct-ids n members ids)))

-- the sets of one length as they lie
part_free : (n : ℕ) (members : List ℕ) (r : ℕ) (sets : List (List ℕ)) → IsIdSet n members → AreFree members r sets → free_begins (length members) (suc r) ≤ length sets
    → part (free_begins (length members) r) (free_begins (length members) (suc r)) sets ≡ free_members members r
part_free n members r sets ids free room =
    let from : ℕ = free_begins (length members) r in
    let count : ℕ = path_count (length members) r in
    let long = length-part from (from + count) sets room (omega arith) in
    let all = length-free n members r ids in
    ext_get_or [] (part from (from + count) sets) (free_members members r) (omega (arith, long, all)) (λ k low.
    let few : k < count = omega (arith, long) in
    ap (λ (i : ℕ). get_or (part from (from + count) sets) i []) (omega arith)
    ∙ part_at from (from + count) (from + k) sets (omega arith) (omega arith) room
    ∙ free r k (omega arith) few ∙ sym (free_at n members r k ids few))

pub longer_fits : (n : ℕ) (members : List ℕ) (r : ℕ) (sets : List (List ℕ)) → IsIdSet n members → AreFree members r sets → free_begins (length members) (suc (suc r)) ≤ length sets
    → free_begins (length members) (suc r) + length (left_out_of (free_begins (length members) r) (free_begins (length members) (suc r)) sets) ≤ length sets
longer_fits n members r sets ids free room =
    let e = ap (λ (s : List (List ℕ)). length (flat_map each_left_out s)) (part_free n members r sets ids free (omega arith)) in
    let l = ap (λ (s : List (List ℕ)). length s) (sym (free_members_law members r)) in
    omega (arith, e, l, length-free n members (suc r) ids)

-- sections of paths of one node and more begin one place earlier
pub section-begins : (n r : ℕ) → free_begins n (suc r) ≡ 1 + section_at n r
section-begins n zero = omega arith
section-begins n (suc r) = let e = section-begins n r in omega arith

-- where those of one node more begin, as the code reckons it
pub one_more : (n r : ℕ) → free_begins n (r + 1) ≡ free_begins n (suc r)
one_more n r = ap (free_begins n) (next r)
  where
    next : (r : ℕ) → r + 1 ≡ suc r
    next r = omega arith

begins-le : (n a d : ℕ) → free_begins n a ≤ free_begins n (a + d)
begins-le n a zero = let e = ap (free_begins n) (add-none a) in omega (arith, e)
  where
    add-none : (a : ℕ) → a ≡ a + 0
    add-none a = omega arith
begins-le n a (suc d) = let e = ap (free_begins n) (add-more a d) in omega (arith, begins-le n a d, e)
  where
    add-more : (a d : ℕ) → suc (a + d) ≡ a + suc d
    add-more a d = omega arith

pub begins-mono : (n a b : ℕ) → a ≤ b → free_begins n a ≤ free_begins n b
begins-mono n a b h = let e = ap (free_begins n) (there a b h) in omega (arith, begins-le n a (b - a), e)
  where
    there : (a b : ℕ) → a ≤ b → a + (b - a) ≡ b
    there a b h = omega arith

pub longer_free : (n : ℕ) (members : List ℕ) (r : ℕ) (sets new : List (List ℕ)) → IsIdSet n members → AreFree members r sets → free_begins (length members) (suc (suc r)) ≤ length sets
    → new ≡ laid (free_begins (length members) (suc r)) (left_out_of (free_begins (length members) r) (free_begins (length members) (suc r)) sets) sets
    → AreFree members (suc r) new
longer_free n members r sets new ids free room is s k low few =
    let c : ℕ = length members in
    let next : List (List ℕ) = free_members members (suc r) in
    let made : left_out_of (free_begins c r) (free_begins c (suc r)) sets ≡ next =
    ap (flat_map each_left_out) (part_free n members r sets ids free (omega arith)) ∙ sym (free_members_law members r) in
    let now : new ≡ laid (free_begins c (suc r)) next sets = is ∙ ap (λ (x : List (List ℕ)). laid (free_begins c (suc r)) x sets) made in
    let long = length-free n members (suc r) ids in
    elim (cases_eq s (suc r)) [
      | inl e ↦
          let here : k < path_count c (suc r) = subst (λ (t : ℕ). k < path_count c t) e few in
          ap₂ (λ (xs : List (List ℕ)) (t : ℕ). get_or xs (free_begins c t + k) []) now e
          ∙ laid_in (free_begins c (suc r)) next sets k [] (omega (arith, long)) (omega (arith, long))
          ∙ free_at n members (suc r) k ids here
          ∙ ap (λ (t : ℕ). outside members (path_at (paths_of_length members t) k)) (sym e)
      | inr ne ↦
          let short : s ≤ r = omega arith in
          let m = begins-mono c (suc s) (suc r) (omega arith) in
          ap (λ (xs : List (List ℕ)). get_or xs (free_begins c s + k) []) now
          ∙ laid_before (free_begins c (suc r)) next sets (free_begins c s + k) [] (omega (arith, m)) (omega arith)
          ∙ free s k short few
    ]

-- outside no path stand all members
pub first_free : (members : List ℕ) (sets new : List (List ℕ)) → 0 < length sets → new ≡ laid 0 (members ∷ []) sets → AreFree members 0 new
first_free members sets new some is s k low few =
    let z : s ≡ 0 = omega arith in
    let one : k < path_count (length members) 0 = subst (λ (t : ℕ). k < path_count (length members) t) z few in
    let first : k ≡ 0 = omega arith in
    ap₂ (λ (xs : List (List ℕ)) (t : ℕ). get_or xs (free_begins (length members) t + k) []) is z
    ∙ ap (λ (j : ℕ). get_or (laid 0 (members ∷ []) sets) (0 + j) []) first
    ∙ laid_in 0 (members ∷ []) sets 0 [] (omega arith) (omega arith)
    ∙ sym (outside_nothing members)
    ∙ ap₂ (λ (t j : ℕ). outside members (path_at (paths_of_length members t) j)) (sym z) (sym first)

-- no members
pub none_free : (m : ℕ) (sets : List (List ℕ)) → get_or sets 0 [] ≡ [] → AreFree [] m sets
none_free m sets is zero k low few =
    let first : k ≡ 0 = omega arith in
    ap (λ (j : ℕ). get_or sets (0 + j) []) first ∙ is
none_free m sets is (suc s) k low few = absurd (omega arith)

-- for more members there are more sets
pub begins-few : (n m r : ℕ) → n ≤ m → free_begins n r ≤ free_begins m r
begins-few n m zero h = omega arith
begins-few n m (suc r) h = omega (arith, begins-few n m r h, more_paths n m r h)
