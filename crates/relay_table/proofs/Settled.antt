-- Settling the longest paths from the frames of the last round, and shorter ones from those.
use Rattle.std.proofs.Common.{ℕ, suc, ◌≡◌, ◌<◌, ◌≤◌, ◌+◌, ◌-◌, ◌*◌, Bool, true, false, not, List, [], ◌∷◌, ◌++◌, length, map, take, drop, get_or, refl, sym, ap, ap₂, subst, ◌∙◌, inl, inr, arith}
use Rattle.std.specs.Prelude.{if◌then◌else◌, Option}
use Rattle.std.proofs.Math.Nat.{mul-le-mul}
use Rattle.std.proofs.lemmas.Nat.{mul-add-lt}
use Rattle.std.proofs.lemmas.Bool.{cases_Bool, cases_eq, cond-true, cond-false}
use Rattle.std.proofs.lemmas.List.{get_or-drop, get_or-take, get_or-map, ext_get_or, length-map, length-take, length-drop, length_push, take_all}
use Rattle.node_grid.specs.Capacity.{IsCapacity}
use Rattle.node_grid.specs.NodeSet.{has_id, without_id, IsIdSet}
use Rattle.node_grid.specs.Count.{bit, count, Distinct}
use Rattle.node_grid.specs.NumberFacts.{next_is}
use Rattle.omh_paths.specs.declared.wrapped.Wrapped.{Wrapped}
use Rattle.omh_paths.specs.declared.wrapped.Wrapped.TheVariants.{Fault}
use Rattle.omh_paths.specs.Wrapped.{IsExact, unwrapped}
use Rattle.omh_paths.specs.Majority.{majority}
use Rattle.omh_paths.specs.Paths.{outside, paths_of_length, path_count, path_at, IsListed}
use Rattle.omh_paths.specs.PathLists.{length-paths, path_at-push, path_count-last, IsListed-at, Distinct-without, length-outside}
use Rattle.omh_paths.specs.Tables.{tables_law}
use Rattle.omh_paths.specs.MemberLaws.{Distinct-ids}
use Rattle.omh.specs.Omh.{Ear, settled_within, settled_at}
use Rattle.omh.specs.Flat.{section_at}
use Rattle.omh.specs.HeardLaws.{has-without-me}
use Rattle.path_order.specs.Order.{passed, IsNext}
use Rattle.path_order.specs.OrderLaws.{cursors_law, passed_more, count_kept}
use Rattle.relay_walk.specs.declared.round.Round.{Round}
use Rattle.relay_walk.specs.Laid.{laid}
use Rattle.relay_walk.specs.LaidLaws.{laid_before, laid_in, laid_behind}
use Rattle.relay_walk.specs.Walking.{entries_of, next_in, HaveNext, IsMoved, IsWalk}
use Rattle.relay_walk.proofs.Loops.{map_on}
use Rattle.relay_table.specs.Tabled.{told_in}
use Rattle.relay_table.specs.Settling.{is_on_path, own_said, other_path, HearsKept, HearsLast, AreSettled, told_behind}
use Rattle.relay_table.proofs.Walks.{off, on_path, have_next, nexts_are, goes_on, says_same}
use Rattle.relay_table.proofs.Apart.{settles, settles_last}

-- ---- the longest paths

-- what is settled for the first of the others' paths
abbrev pub AreSettledTo : {V : Type 0} → (V → V → Bool) → Ear V → List ℕ → ℕ → ℕ → List (Wrapped V) → Type 0
AreSettledTo eq x others len count terms = (j : ℕ) → j < count → get_or terms j (Fault 0) ≡ settled_at eq x (other_path others len j)

-- the first k of all paths are behind
pub record IsBehind {V : Type 0} {N : ℕ} (read : List ℕ → Wrapped V) (members others : List ℕ) (me r : ℕ) (first : Round N) (k at : ℕ) (now : Round N) : Type 0 where
  pub walk : IsWalk members others r k now
  pub same : entries_of read now ≡ entries_of read first
  pub at_is : at ≡ passed (paths_of_length members r) me k

pub behind_none : {V : Type 0} {N : ℕ} (read : List ℕ → Wrapped V) (members others : List ℕ) (me r : ℕ) (first : Round N) → IsWalk members others r 0 first → IsBehind read members others me r first 0 0 first
behind_none read members others me r first walk = record { walk = walk; same = refl; at_is = refl }

module _ {V : Type 0} {n : ℕ} (read : List ℕ → Wrapped V) (members others : List ℕ) (me r : ℕ) (first : Round n) (k at : ℕ) (now : Round n)
    (ids : IsIdSet n members) (others_are : others ≡ without_id members me) (low : k < path_count (length members) r) (h : IsBehind read members others me r first k at now)
    (free : List ℕ) (free_is : free ≡ outside members (path_at (paths_of_length members r) k)) where
  abbrev path : List ℕ
  path = path_at (paths_of_length members r) k

  on_it : is_on_path members me free ≡ has_id path me
  on_it = ap (is_on_path members me) free_is ∙ on_path n members others me r k ids others_are low

  pub next_behind : IsCapacity n → HaveNext (without_id free me) now
  next_behind sized = subst (λ (f : List ℕ). HaveNext (without_id f me) now) (sym free_is) (have_next n members others me r k ids others_are low sized now h.walk)

  next_path : is_on_path members me free ≡ false → IsNext members r me k
  next_path out = cursors_law n members ids r me k low (sym on_it ∙ out)

  -- it is the next of the others' paths
  pub is_next : is_on_path members me free ≡ false → other_path others r at ≡ path
  is_next out = ap₂ (λ (s : List ℕ) (j : ℕ). path_at (paths_of_length s r) j) others_are h.at_is ∙ (next_path out).path

  pub next_low : is_on_path members me free ≡ false → at < path_count (length others) r
  next_low out =
      let l = ap (λ (s : List ℕ). length (paths_of_length s r)) others_are in
      let d = subst Distinct (sym others_are) (Distinct-without members me (Distinct-ids n members ids)) in
      omega (arith, (next_path out).within, h.at_is, l, length-paths others r d)

  pub behind_more : (next : Round n) (after : ℕ) → IsMoved (without_id free me) now next → after ≡ (if is_on_path members me free then at else at + 1) → IsBehind read members others me r first (k + 1) after next
  behind_more next after moved is = record {
    walk = goes_on n members others me r k ids others_are low now next h.walk (subst (λ (f : List ℕ). IsMoved (without_id f me) now next) free_is moved);
    same = says_same read (without_id free me) now next moved ∙ h.same;
    at_is =
        let more = passed_more (paths_of_length members r) me k (omega (arith, length-paths members r (Distinct-ids n members ids))) in
        elim (cases_Bool (has_id path me)) [
          | inl on ↦
              let b = ap (λ (c : Bool). bit (not c)) on in
              let e : after ≡ at = is ∙ cond-true (is_on_path members me free) at (at + 1) (on_it ∙ on) in
              omega (arith, more, b, e, h.at_is)
          | inr out ↦
              let b = ap (λ (c : Bool). bit (not c)) out in
              let e : after ≡ at + 1 = is ∙ cond-false (is_on_path members me free) at (at + 1) (on_it ∙ out) in
              omega (arith, more, b, e, h.at_is)
        ];
  }

  -- what is settled for it
  module _ {eq : V → V → Bool} (exact : IsExact eq) (full : Bool) (flat : List (Wrapped V)) (x : Ear V) (some : 0 < r) (kept : HearsKept r r members others me full flat x) (last : HearsLast (entries_of read first) members others r x)
      (section : List (Wrapped V)) (section_is : section ≡ drop (section_at (length others) (r - 1)) flat) where
    settled_next : (out : is_on_path members me free ≡ false)
        → unwrapped (majority eq (own_said full members me (get_or section at (Fault 0)) ∷ map (next_in read now) (without_id free me))) ≡ settled_at eq x (other_path others r at)
    settled_next out =
        let d = Distinct-ids n members ids in
        let dx : Distinct x.members = subst Distinct (sym kept.members_are) d in
        let ox : others ≡ without_id x.members x.me = others_are ∙ ap₂ (λ (s : List ℕ) (i : ℕ). without_id s i) (sym kept.members_are) (sym kept.me_is) in
        let here = is_next out in
        let lo = next_low out in
        let off : has_id (other_path others r at) x.me ≡ false = ap₂ (λ (p : List ℕ) (i : ℕ). has_id p i) here kept.me_is ∙ sym on_it ∙ out in
        let dist = subst Distinct (sym others_are) (Distinct-without members me d) in
        let long : length (other_path others r at) ≡ r = (IsListed-at others r at dist lo).long in
        let times : x.rounds + 1 - length (other_path others r at) ≡ 1 = omega (arith, kept.rounds_are, long) in
        let heard : get_or section at (Fault 0) ≡ x.heard (other_path others r at) =
        ap (λ (ts : List (Wrapped V)). get_or ts at (Fault 0)) section_is ∙ get_or-drop (section_at (length others) (r - 1)) flat at (Fault 0) ∙ sym (kept.heard r at some (omega arith) lo) in
        let own : own_said full members me (get_or section at (Fault 0)) ≡ own_said x.full x.members x.me (x.heard (other_path others r at)) =
        ap (own_said full members me) heard
        ∙ ap (λ (b : Bool). own_said b members me (x.heard (other_path others r at))) (sym kept.full_is)
        ∙ ap₂ (λ (s : List ℕ) (i : ℕ). own_said x.full s i (x.heard (other_path others r at))) (sym kept.members_are) (sym kept.me_is) in
        let nexts : map (next_in read now) (without_id free me) ≡ map (λ q. settled_within eq x 0 (other_path others r at ++ q ∷ [])) (outside others (other_path others r at)) =
        ap (λ (f : List ℕ). map (next_in read now) (without_id f me)) free_is
        ∙ nexts_are n members others me r k ids others_are low read now h.walk
        ∙ ap (λ (f : ℕ → Option (List (Wrapped V))). told_behind f members others r path) h.same
        ∙ ap (told_behind (entries_of read first) members others r) (sym here)
        ∙ map_on (λ q. told_in (entries_of read first) members r (other_path others r at ++ q ∷ [])) (λ q. settled_within eq x 0 (other_path others r at ++ q ∷ [])) (outside others (other_path others r at))
        (λ q on. sym (last at q lo on) ∙ sym (settles_last eq x (other_path others r at ++ q ∷ []))) in
        ap₂ (λ (o : Wrapped V) (ts : List (Wrapped V)). unwrapped (majority eq (o ∷ ts))) own nexts
        ∙ sym (settles exact x others (other_path others r at) 0 dx ox off)
        ∙ ap (λ (t : ℕ). settled_within eq x t (other_path others r at)) (sym times)

    pub settled_more : (terms new : List (Wrapped V)) (after : ℕ) → after ≡ (if is_on_path members me free then at else at + 1) → path_count (length others) r ≤ length terms
        → new ≡ (if is_on_path members me free then terms
        else laid at (unwrapped (majority eq (own_said full members me (get_or section at (Fault 0)) ∷ map (next_in read now) (without_id free me))) ∷ []) terms)
        → AreSettledTo eq x others r at terms → AreSettledTo eq x others r after new
    settled_more terms new after goes room is was j low-j =
        let value : Wrapped V = unwrapped (majority eq (own_said full members me (get_or section at (Fault 0)) ∷ map (next_in read now) (without_id free me))) in
        elim (cases_Bool (is_on_path members me free)) [
          | inl on ↦
              let e : after ≡ at = goes ∙ cond-true (is_on_path members me free) at (at + 1) on in
              ap (λ (ts : List (Wrapped V)). get_or ts j (Fault 0)) (is ∙ cond-true (is_on_path members me free) terms (laid at (value ∷ []) terms) on) ∙ was j (omega arith)
          | inr out ↦
              let e : after ≡ at + 1 = goes ∙ cond-false (is_on_path members me free) at (at + 1) out in
              let lo = next_low out in
              ap (λ (ts : List (Wrapped V)). get_or ts j (Fault 0)) (is ∙ cond-false (is_on_path members me free) terms (laid at (value ∷ []) terms) out)
              ∙ elim (cases_eq j at) [
                | inl same ↦
                    ap (λ (i : ℕ). get_or (laid at (value ∷ []) terms) i (Fault 0)) (plus_none same)
                    ∙ laid_in at (value ∷ []) terms 0 (Fault 0) (omega arith) (omega arith)
                    ∙ settled_next out ∙ ap (λ (i : ℕ). settled_at eq x (other_path others r i)) (sym same)
                | inr ne ↦ laid_before at (value ∷ []) terms j (Fault 0) (omega arith) (omega arith) ∙ was j (omega arith)
              ]
        ]
      where
        plus_none : {j at : ℕ} → j ≡ at → j ≡ at + 0
        plus_none e = omega arith

-- all of the others' paths in the end
pub passed_all : (n : ℕ) (members others : List ℕ) (me r k : ℕ) → IsIdSet n members → others ≡ without_id members me → path_count (length members) r ≤ k → passed (paths_of_length members r) me k ≡ path_count (length others) r
passed_all n members others me r k ids is past =
    let d = Distinct-ids n members ids in
    let ps : List (List ℕ) = paths_of_length members r in
    ap (count (off me)) (take_all k ps (omega (arith, length-paths members r d)))
    ∙ sym (count_kept (off me) ps)
    ∙ ap (λ (xs : List (List ℕ)). length xs) (sym (tables_law members me r))
    ∙ ap (λ (s : List ℕ). length (paths_of_length s r)) (sym is)
    ∙ length-paths others r (subst Distinct (sym is) (Distinct-without members me d))

-- ---- shorter paths

-- the terms of the paths behind the k-th one are there
pub terms_fit : (n len k room : ℕ) → k < path_count n len → path_count n (len + 1) ≤ room → k * (n - len) + (n - len) ≤ room
terms_fit n len k room low fits =
    let m : (k + 1) * (n - len) ≤ path_count n len * (n - len) = mul-le-mul (omega arith) (le-refl (n - len)) in
    let e : (k + 1) * (n - len) ≡ k * (n - len) + (n - len) = omega arith in
    let all : path_count n (len + 1) ≡ path_count n len * (n - len) = ap (path_count n) (next_is len) ∙ path_count-last n len in
    omega (arith, m, e, all, fits)
  where
    le-refl : (n : ℕ) → n ≤ n
    le-refl n = omega arith

-- terms of the paths behind the k-th one stand behind those of the paths before it
pub child_low : (k c w i : ℕ) → k < c → i < w → k * w + i < c * w
child_low k c w i low within = let h = mul-add-lt k w i c low within in omega (arith, h)

ahead : (k w i : ℕ) → i < w → k ≤ k * w + i
ahead k w i within = let m : k * 1 ≤ k * w = mul-le-mul (le-refl k) (omega arith) in omega (arith, m)
  where
    le-refl : (n : ℕ) → n ≤ n
    le-refl n = omega arith

module _ {V : Type 0} {eq : V → V → Bool} (exact : IsExact eq) (n : ℕ) (members others : List ℕ) (me rounds len k : ℕ) (full : Bool) (flat old now : List (Wrapped V)) (x : Ear V)
    (ids : IsIdSet n members) (others_are : others ≡ without_id members me) (some : 0 < len) (shorter : len < rounds) (low : k < path_count (length others) len)
    (kept : HearsKept rounds rounds members others me full flat x) (longer : AreSettled eq x others (len + 1) old) (rest : (i : ℕ) → k ≤ i → get_or now i (Fault 0) ≡ get_or old i (Fault 0))
    (room : path_count (length others) (len + 1) ≤ length now)
    (section : List (Wrapped V)) (section_is : section ≡ drop (section_at (length others) (len - 1)) flat) where
  abbrev w : ℕ
  w = length others - len

  abbrev here : List ℕ
  here = other_path others len k

  dist : Distinct others
  dist = subst Distinct (sym others_are) (Distinct-without members me (Distinct-ids n members ids))

  listed : IsListed others len here
  listed = IsListed-at others len k dist low

  wide : length (outside others here) ≡ w
  wide = let l = length-outside others here dist listed.distinct listed.within in omega (arith, l, listed.long)

  all_children : path_count (length others) (len + 1) ≡ path_count (length others) len * w
  all_children = ap (path_count (length others)) (next_is len) ∙ path_count-last (length others) len

  child : (i : ℕ) → i < w → get_or now (k * w + i) (Fault 0) ≡ settled_within eq x (rounds - len) (here ++ get_or (outside others here) i 0 ∷ [])
  child i within =
      let c = child_low k (path_count (length others) len) w i low within in
      let below : k * w + i < path_count (length others) (len + 1) = omega (arith, c, all_children) in
      let path : other_path others (len + 1) (k * w + i) ≡ here ++ get_or (outside others here) i 0 ∷ [] =
      ap (λ (l : ℕ). path_at (paths_of_length others l) (k * w + i)) (next_is len) ∙ path_at-push others len k i dist low within in
      let times : x.rounds + 1 - length (here ++ get_or (outside others here) i 0 ∷ []) ≡ rounds - len =
      omega (arith, kept.rounds_are, length_push here (get_or (outside others here) i 0), listed.long) in
      rest (k * w + i) (ahead k w i within) ∙ longer (k * w + i) below
      ∙ ap (settled_at eq x) path
      ∙ ap (λ (t : ℕ). settled_within eq x t (here ++ get_or (outside others here) i 0 ∷ [])) times

  children : take w (drop (k * w) now) ≡ map (λ q. settled_within eq x (rounds - len) (here ++ q ∷ [])) (outside others here)
  children =
      let t : ℕ → Wrapped V = λ q. settled_within eq x (rounds - len) (here ++ q ∷ []) in
      let long : length (take w (drop (k * w) now)) ≡ w = omega (arith, length-take w (drop (k * w) now), length-drop (k * w) now, terms_fit (length others) len k (length now) low room) in
      ext_get_or (Fault 0) (take w (drop (k * w) now)) (map t (outside others here)) (omega (arith, long, wide, length-map (outside others here) t)) (λ i l.
      let within : i < w = omega (arith, long) in
      get_or-take w (drop (k * w) now) i (Fault 0) within ∙ get_or-drop (k * w) now i (Fault 0) ∙ child i within
      ∙ sym (get_or-map t (outside others here) i 0 (Fault 0) (omega (arith, wide))))

  pub settled_shorter : unwrapped (majority eq (own_said full members me (get_or section k (Fault 0)) ∷ take w (drop (k * w) now))) ≡ settled_at eq x here
  settled_shorter =
      let dx : Distinct x.members = subst Distinct (sym kept.members_are) (Distinct-ids n members ids) in
      let ox : others ≡ without_id x.members x.me = others_are ∙ ap₂ (λ (s : List ℕ) (i : ℕ). without_id s i) (sym kept.members_are) (sym kept.me_is) in
      let off : has_id here x.me ≡ false = ap (has_id here) kept.me_is ∙ has-without-me members me here (λ q on. subst (λ (s : List ℕ). has_id s q ≡ true) others_are (listed.within q on)) in
      let times : x.rounds + 1 - length here ≡ suc (rounds - len) = omega (arith, kept.rounds_are, listed.long) in
      let heard : get_or section k (Fault 0) ≡ x.heard here =
      ap (λ (ts : List (Wrapped V)). get_or ts k (Fault 0)) section_is ∙ get_or-drop (section_at (length others) (len - 1)) flat k (Fault 0) ∙ sym (kept.heard len k some (omega arith) low) in
      let own : own_said full members me (get_or section k (Fault 0)) ≡ own_said x.full x.members x.me (x.heard here) =
      ap (own_said full members me) heard
      ∙ ap (λ (b : Bool). own_said b members me (x.heard here)) (sym kept.full_is)
      ∙ ap₂ (λ (s : List ℕ) (i : ℕ). own_said x.full s i (x.heard here)) (sym kept.members_are) (sym kept.me_is) in
      ap₂ (λ (o : Wrapped V) (ts : List (Wrapped V)). unwrapped (majority eq (o ∷ ts))) own children
      ∙ sym (settles exact x others here (rounds - len) dx ox off)
      ∙ ap (λ (t : ℕ). settled_within eq x t here) (sym times)

  pub shorter_more : (new : List (Wrapped V)) (value : Wrapped V) → k < length now → AreSettledTo eq x others len k now
      → value ≡ unwrapped (majority eq (own_said full members me (get_or section k (Fault 0)) ∷ take w (drop (k * w) now)))
      → new ≡ laid k (value ∷ []) now → AreSettledTo eq x others len (k + 1) new
  shorter_more new value fits was value_is is j low-j =
      ap (λ (ts : List (Wrapped V)). get_or ts j (Fault 0)) is
      ∙ elim (cases_eq j k) [
        | inl same ↦
            ap (λ (i : ℕ). get_or (laid k (value ∷ []) now) i (Fault 0)) (plus_none same)
            ∙ laid_in k (value ∷ []) now 0 (Fault 0) (omega arith) (omega arith)
            ∙ value_is ∙ settled_shorter ∙ ap (λ (i : ℕ). settled_at eq x (other_path others len i)) (sym same)
        | inr ne ↦ laid_before k (value ∷ []) now j (Fault 0) (omega arith) (omega arith) ∙ was j (omega arith)
      ]
    where
      plus_none : {j k : ℕ} → j ≡ k → j ≡ k + 0
      plus_none e = omega arith

pub rest_more : {V : Type 0} (k : ℕ) (value : Wrapped V) (old now new : List (Wrapped V)) → k < length now → new ≡ laid k (value ∷ []) now → ((i : ℕ) → k ≤ i → get_or now i (Fault 0) ≡ get_or old i (Fault 0))
    → (i : ℕ) → k + 1 ≤ i → get_or new i (Fault 0) ≡ get_or old i (Fault 0)
rest_more {V} k value old now new fits is rest i high =
    ap (λ (ts : List (Wrapped V)). get_or ts i (Fault 0)) is ∙ laid_behind k (value ∷ []) now i (Fault 0) (omega arith) (omega arith) ∙ rest i (omega arith)
