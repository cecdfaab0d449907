-- What the rooms of a station are large enough for.
use Rattle.std.proofs.Common.{ℕ, zero, suc, ◌≡◌, ◌<◌, ◌≤◌, ◌+◌, ◌-◌, ◌*◌, true, false, List, [], ◌∷◌, length, map, get_or, refl, sym, ap, subst, ◌∙◌, inl, inr, arith, eq-eqb, eqb-true}
use Rattle.std.specs.Prelude.{◌==◌, ◌&&◌, not, Bool}
use Rattle.std.proofs.lemmas.Bool.{and_parts, or_cases}
use Rattle.std.proofs.lemmas.List.{length-map}
use Rattle.node_grid.specs.CapacityLaws.{capacity-le}
use Rattle.node_grid.specs.NodeSet.{has_id, without_id, IsIdSet}
use Rattle.node_grid.specs.NodeSetLaws.{has-without_id}
use Rattle.node_grid.specs.Count.{Distinct}
use Rattle.omh_paths.specs.declared.wrapped.Wrapped.{Wrapped}
use Rattle.omh_paths.specs.Paths.{outside, paths_of_length, path_count, path_at, index_in}
use Rattle.omh_paths.specs.PathLists.{length-paths, Distinct-without, path_at-cons, index_in-lt, at-index_in}
use Rattle.omh_paths.specs.MemberLaws.{Distinct-ids, path_count-few}
use Rattle.omh.specs.Flat.{section_at}
use Rattle.omh.specs.FlatLaws.{section_at-le}
use Rattle.omh.proofs.Flats.{few_below}
use Rattle.relay_table.specs.Free.{free_begins}
use Rattle.relay_table.specs.Rooms.{IsFreeRoom}
use Rattle.relay_table.specs.Settling.{other_path}
use Rattle.relay_table.specs.Tabled.{IsStation, kept_nodes}
use Rattle.relay_table.proofs.Frees.{begins-mono, begins-few, section-begins}

-- ---- how many members there are

module _ {capacity nodes rounds me : ℕ} {members others : List ℕ} (s : IsStation capacity nodes rounds me members others) where
  pub few_members : length members ≤ nodes
  few_members = few_below nodes members (Distinct-ids capacity members s.members_ok) s.below

  pub sixteen_members : length members ≤ 16
  sixteen_members = omega (arith, few_members, s.nodes_ok, capacity-le capacity s.capacity_ok)

  pub others_distinct : Distinct others
  others_distinct = subst Distinct (sym s.others_ok) (Distinct-without members me (Distinct-ids capacity members s.members_ok))

  pub sixteen_others : length others ≤ 16
  sixteen_others = omega (arith, s.few, s.nodes_ok, capacity-le capacity s.capacity_ok)

-- those but for the node itself, which is one of the nodes
pub few_others : (capacity nodes me : ℕ) (members : List ℕ) → IsIdSet capacity members → ((q : ℕ) → has_id members q ≡ true → q < nodes) → me < nodes → length (without_id members me) ≤ nodes - 1
few_others capacity nodes me members ids below low =
    let d = Distinct-ids capacity members ids in
    let others : List ℕ = without_id members me in
    let gone : has_id others me ≡ false = has-without_id members me me ∙ ap (λ (b : Bool). not b && has_id members me) (eq-eqb me me refl) in
    let all = few_below nodes (me ∷ others) (gone, Distinct-without members me d) (λ q on. low_of q on) in
    omega (arith, all)
  where
    low_of : (q : ℕ) → has_id (me ∷ without_id members me) q ≡ true → q < nodes
    low_of q on = elim (or_cases (me == q) (has_id (without_id members me) q) on) [
      | inl here ↦ let e = eqb-true me q here in omega arith
      | inr there ↦ below q (and_parts (not (q == me)) (has_id members q) (sym (has-without_id members me q) ∙ there)).1
    ]

-- ---- the sets

-- a path's place among the sets
pub set_low : (nodes rounds r k : ℕ) (members : List ℕ) → length members ≤ nodes → r ≤ rounds → k < path_count (length members) r → free_begins (length members) r + k < free_begins nodes (suc rounds)
set_low nodes rounds r k members few low here =
    let a = begins-mono (length members) (suc r) (suc rounds) (omega arith) in
    omega (arith, a, begins-few (length members) nodes (suc rounds) few)

-- ---- terms

pub told_many : {V : Type 0} (others : List ℕ) (r : ℕ) (says : List ℕ → Wrapped V) → Distinct others → section_at (length others) r + length (map says (paths_of_length others (suc r))) ≡ section_at (length others) (r + 1)
told_many others r says d =
    let next : r + 1 ≡ suc r = omega arith in
    omega (arith, length-map (paths_of_length others (suc r)) says, length-paths others (suc r) d, ap (section_at (length others)) next)

-- the number of paths, as it is counted
pub end_is : (count n r end : ℕ) → end ≡ path_count count r → count ≡ n → end ≡ path_count n r
end_is count n r end is same = is ∙ ap (λ (c : ℕ). path_count c r) same

-- the set at a path's place has the members outside the path
pub free_there : (nodes rounds : ℕ) (members : List ℕ) (sets : List (List ℕ)) (count r k : ℕ) (set : List ℕ) → IsFreeRoom nodes rounds members sets → count ≡ length members → r ≤ rounds → k < path_count (length members) r
    → set ≡ get_or sets (free_begins count r + k) [] → set ≡ outside members (path_at (paths_of_length members r) k)
free_there nodes rounds members sets count r k set room same low here is =
    is ∙ ap (λ (c : ℕ). get_or sets (free_begins c r + k) []) same ∙ room.free r k low here

pub set_there : (nodes rounds : ℕ) (members : List ℕ) (sets : List (List ℕ)) (count r k : ℕ) → IsFreeRoom nodes rounds members sets → count ≡ length members → length members ≤ nodes → r ≤ rounds → k < path_count (length members) r
    → free_begins count r + k < length sets
set_there nodes rounds members sets count r k room same few low here =
    omega (arith, room.long, set_low nodes rounds r k members few low here, ap (λ (c : ℕ). free_begins c r) same)

section_ends : (n r : ℕ) → 0 < r → section_at n r ≡ section_at n (r - 1) + path_count n r
section_ends n zero some = absurd (omega arith)
section_ends n (suc r) some = ap (λ (k : ℕ). section_at n k + path_count n (suc r)) (back r)
  where
    back : (r : ℕ) → r ≡ suc r - 1
    back r = omega arith

-- where the section of the paths of r nodes begins, and that it lies within what was heard
pub begins_within : (count n r begins room : ℕ) → count ≡ n → begins ≡ section_at count (r - 1) → 0 < r → section_at n r ≤ room → (begins ≡ section_at n (r - 1)) × (begins + path_count n r ≤ room)
begins_within count n r begins room same is some fits =
    let e : begins ≡ section_at n (r - 1) = is ∙ ap (λ (c : ℕ). section_at c (r - 1)) same in
    (e, omega (arith, e, section_ends n r some, fits))

-- ---- what a table has room for

section-few : (n m r : ℕ) → n ≤ m → section_at n r ≤ section_at m r
section-few n m r h = omega (arith, begins-few n m (suc r) h, section-begins n r, section-begins m r)

pub section_small : (n r : ℕ) → n ≤ 16 → r ≤ 4 → section_at n r ≤ 65536 * r
section_small n zero few short = omega arith
section_small n (suc r) few short = omega (arith, section_small n r few (omega arith), path_count-few n (suc r) few short)

kept_few : (m : ℕ) → m ≤ 3 → kept_nodes m ≤ 3
kept_few zero h = omega arith
kept_few (suc zero) h = omega arith
kept_few (suc (suc m)) h = h

module _ {capacity nodes rounds me : ℕ} {members others : List ℕ} (s : IsStation capacity nodes rounds me members others) where
  pub section_fits : (len : ℕ) → len ≤ kept_nodes rounds → section_at (length others) len ≤ section_at (nodes - 1) (kept_nodes rounds)
  section_fits len low = omega (arith, section-few (length others) (nodes - 1) len s.few, section_at-le (nodes - 1) len (kept_nodes rounds) low)

  pub paths_fit : (len : ℕ) → 0 < len → len ≤ kept_nodes rounds → path_count (length others) len ≤ section_at (nodes - 1) (kept_nodes rounds)
  paths_fit len some low = omega (arith, section_ends (length others) len some, section_fits len low)

  pub rooms_small : section_at (nodes - 1) (kept_nodes rounds) ≤ 262144
  rooms_small = omega (arith, section_small (nodes - 1) (kept_nodes rounds) (omega (arith, s.nodes_ok, capacity-le capacity s.capacity_ok)) (omega (arith, kept_few rounds s.rounds_ok)), kept_few rounds s.rounds_ok)

-- ---- the paths of one node

pub single_path : (others : List ℕ) (k : ℕ) → Distinct others → k < length others → other_path others 1 k ≡ get_or others k 0 ∷ []
single_path others k d low = ap (path_at (paths_of_length others 1)) (alone k) ∙ path_at-cons others 0 k 0 0 d low (omega arith)
  where
    alone : (k : ℕ) → k ≡ k * 1 + 0
    alone k = omega arith

pub root_path : (others : List ℕ) (c : ℕ) → Distinct others → has_id others c ≡ true → other_path others 1 (index_in others c) ≡ c ∷ []
root_path others c d on = single_path others (index_in others c) d (index_in-lt others c on) ∙ ap (λ (q : ℕ). q ∷ []) (at-index_in others c 0 on)
