-- Where the entry for a path stands, and of which path it was meant.
use Rattle.std.proofs.Common.{ℕ, zero, suc, ◌≡◌, ◌≢◌, ◌<◌, ◌≤◌, ◌+◌, ◌-◌, Bool, true, false, List, [], ◌∷◌, length, None, Some, refl, sym, ap, ◌∙◌, inl, inr, arith, eq-eqb, take, slice_get}
use Rattle.std.proofs.lemmas.Bool.{cases_Bool, cond-true, cond-false, or_right}
use Rattle.std.proofs.lemmas.Option.{same_Some}
use Rattle.node_grid.specs.ListLaws.{has_push}
use Rattle.node_grid.specs.NumberFacts.{small_power}
use Rattle.omh.specs.Written.{last_node}
use Rattle.node_grid.specs.NodeSet.{has_id, without_id, IsIdSet}
use Rattle.node_grid.specs.NodeSetLaws.{length-ids}
use Rattle.node_grid.specs.Count.{Distinct}
use Rattle.omh_paths.specs.Paths.{same_nodes, paths_of_length, path_count, place_in, path_at}
use Rattle.omh_paths.specs.PathLists.{same_nodes-tells, Distinct-without, length-without, length-paths, place-lt, IsListed-at, has-without-left}
use Rattle.omh_paths.specs.MemberLaws.{Distinct-ids, path_count-le}
use Rattle.omh.specs.Facts.{front_last}
use Rattle.protocol.specs.Heard.{paths_of}
use Rattle.protocol.specs.TalkLaws.{paths_of_member}
use Rattle.heard_links.specs.Hearing.{source}

-- of a set of nodes below n, at most 16
module _ (n : ℕ) (few : n ≤ 16) (s : List ℕ) (ids : IsIdSet n s) (q : ℕ) (on : has_id s q ≡ true) where
  pub long_of : (r : ℕ) → length (paths_of s r q) ≡ path_count (length (without_id s q)) r
  long_of r = ap length (paths_of_member s r q on) ∙ length-paths (without_id s q) r (Distinct-without s q (Distinct-ids n s ids))

  pub place_of : (front : List ℕ) (k : ℕ) → k ≡ place_in (paths_of_length (without_id s q) (length front)) front → k ≡ place_in (paths_of s (length front) q) front
  place_of front k e = e ∙ ap (λ (ps : List (List ℕ)). place_in ps front) (sym (paths_of_member s (length front) q on))

  pub place_few : (front : List ℕ) (k : ℕ) → length front ≤ 3 → k < path_count (length (without_id s q)) (length front) → k < 4096
  place_few front k short low =
      let l = length-ids n s ids in
      let w = length-without s q (Distinct-ids n s ids) on in
      omega (arith, path_count-le (length (without_id s q)) (length front) (omega arith), small_power (length front) short)

  pub placed_in : (front : List ℕ) → Distinct front → ((x : ℕ) → has_id front x ≡ true → has_id (without_id s q) x ≡ true) → place_in (paths_of s (length front) q) front < length (paths_of s (length front) q)
  placed_in front d within =
      let low = place-lt (without_id s q) front (Distinct-without s q (Distinct-ids n s ids)) d within in
      omega (arith, low, long_of (length front), ap (λ (ps : List (List ℕ)). place_in ps front) (paths_of_member s (length front) q on))

got_more : {X : Type 0} (x : X) (xs : List X) (n k : ℕ) → n ≡ 1 + k → slice_get (x ∷ xs) n ≡ slice_get xs k
got_more x xs n k e = let at : n ≡ suc k = omega arith in ap (slice_get (x ∷ xs)) at

got_placed : (ps : List (List ℕ)) (path : List ℕ) → place_in ps path < length ps → slice_get ps (place_in ps path) ≡ Some path
got_placed [] path h = absurd (omega arith)
got_placed (p ∷ ps) path h = elim (cases_Bool (same_nodes p path)) [
  | inl is ↦ ap (slice_get (p ∷ ps)) (cond-true (same_nodes p path) 0 (1 + place_in ps path) is) ∙ ap Some (same_nodes-tells p path is)
  | inr isnt ↦
      got_more p ps (place_in (p ∷ ps) path) (place_in ps path) (cond-false (same_nodes p path) 0 (1 + place_in ps path) isnt)
      ∙ got_placed ps path (omega (arith, cond-false (same_nodes p path) 0 (1 + place_in ps path) isnt))
]

pub got_at : (ps : List (List ℕ)) (k : ℕ) → k < length ps → slice_get ps k ≡ Some (path_at ps k)
got_at [] k h = absurd (omega arith)
got_at (p ∷ ps) zero h = refl
got_at (p ∷ ps) (suc k) h = got_at ps k (omega arith)

got_none : (ps : List (List ℕ)) (k : ℕ) → length ps ≤ k → slice_get ps k ≡ None
got_none [] k h = refl
got_none (p ∷ ps) zero h = absurd (omega arith)
got_none (p ∷ ps) (suc k) h = got_none ps k (omega arith)

-- where both go by the same members, it was meant of the path itself
pub source_same : (full : Bool) (its mine : List ℕ) (q : ℕ) (front : List ℕ) → full ≡ true → its ≡ mine → place_in (paths_of mine (length front) q) front < length (paths_of mine (length front) q)
    → source full its mine q front ≡ Some front
source_same full its mine q front f same placed =
    cond-true full _ None f ∙ ap (λ (ms : List ℕ). slice_get (paths_of ms (length front) q) (place_in (paths_of mine (length front) q) front)) same
    ∙ got_placed (paths_of mine (length front) q) front placed

pub source_at : (its mine : List ℕ) (q : ℕ) (front : List ℕ) (k : ℕ) → has_id its q ≡ true → k ≡ place_in (paths_of mine (length front) q) front → k < length (paths_of its (length front) q)
    → Some (path_at (paths_of_length (without_id its q) (length front)) k) ≡ source true its mine q front
source_at its mine q front k on e low =
    sym (ap (slice_get (paths_of its (length front) q)) (sym e) ∙ got_at (paths_of its (length front) q) k low
    ∙ ap (λ (ps : List (List ℕ)). Some (path_at ps k)) (paths_of_member its (length front) q on))

pub source_none : (its mine : List ℕ) (q : ℕ) (front : List ℕ) (k : ℕ) → k ≡ place_in (paths_of mine (length front) q) front → length (paths_of its (length front) q) ≤ k
    → None ≡ source true its mine q front
source_none its mine q front k e low = sym (ap (slice_get (paths_of its (length front) q)) (sym e) ∙ got_none (paths_of its (length front) q) k low)

got_parts : (ps : List (List ℕ)) (k : ℕ) (p : List ℕ) → slice_get ps k ≡ Some p → (k < length ps) × (path_at ps k ≡ p)
got_parts [] k p h = cc
got_parts (q ∷ qs) zero p h = let e : q ≡ p = same_Some q p h in (omega arith, e)
got_parts (q ∷ qs) (suc k) p h = let r = got_parts qs k p h in (omega (arith, r.0), r.1)

-- what is known of the path that was meant
pub record IsMeant (full : Bool) (its : List ℕ) (q : ℕ) (front p : List ℕ) : Type 0 where
  pub is_full : full ≡ true
  pub long : length p ≡ length front
  pub within : (x : ℕ) → has_id p x ≡ true → has_id (without_id its q) x ≡ true

meant_at : (its mine : List ℕ) (n q : ℕ) (front p : List ℕ) → IsIdSet n its → source true its mine q front ≡ Some p → IsMeant true its q front p
meant_at its mine n q front p ids h = elim (cases_Bool (has_id its q)) [
  | inl on ↦
      let r = got_parts (paths_of its (length front) q) (place_in (paths_of mine (length front) q) front) p h in
      let d = Distinct-without its q (Distinct-ids n its ids) in
      let listed = IsListed-at (without_id its q) (length front) (place_in (paths_of mine (length front) q) front) d
      (omega (arith, r.0, ap length (paths_of_member its (length front) q on), length-paths (without_id its q) (length front) d)) in
      let is : path_at (paths_of_length (without_id its q) (length front)) (place_in (paths_of mine (length front) q) front) ≡ p =
      ap (λ (ps : List (List ℕ)). path_at ps (place_in (paths_of mine (length front) q) front)) (sym (paths_of_member its (length front) q on)) ∙ r.1 in
      record { is_full = refl; long = ap length (sym is) ∙ listed.long; within = λ x has. listed.within x (ap (λ (p : List ℕ). has_id p x) is ∙ has) }
  | inr off ↦
      let none : None ≡ Some p = sym (ap (λ (ps : List (List ℕ)). slice_get ps (place_in (paths_of mine (length front) q) front)) (cond-false (has_id its q) _ [] off)) ∙ h in
      absurd (none_some p none)
] where
  none_some : (p : List ℕ) → None ≡ Some p → ⊥
  none_some p e = cc

pub meant : (full : Bool) (its mine : List ℕ) (n q : ℕ) (front p : List ℕ) → IsIdSet n its → source full its mine q front ≡ Some p → IsMeant full its q front p
meant true its mine n q front p ids h = meant_at its mine n q front p ids h
meant false its mine n q front p ids h = cc

pub last_has : (path : List ℕ) → 0 < length path → has_id path (last_node path) ≡ true
last_has path some =
    ap (λ (p : List ℕ). has_id p (last_node path)) (front_last path some)
    ∙ has_push (take (length path - 1) path) (last_node path) (last_node path) ∙ or_right (has_id (take (length path - 1) path) (last_node path)) _ (eq-eqb (last_node path) (last_node path) refl)

-- the last node of a path that another node meant is another one
pub meant_other : (full : Bool) (its : List ℕ) (q : ℕ) (front p : List ℕ) → IsMeant full its q front p → 0 < length front → q ≢ last_node p
meant_other full its q front p is some e =
    (has-without-left its q (last_node p) (is.within (last_node p) (last_has p (omega (arith, is.long))))).0 (sym e)
