-- What was heard by path, as it lies flat over the other members.
use Rattle.std.proofs.Common.{ℕ, zero, suc, ◌≡◌, ◌≢◌, ◌<◌, ◌≤◌, ◌+◌, ◌-◌, ◌*◌, ◌==◌, Bool, true, List, [], ◌∷◌, ◌++◌, length, map, get_or, refl, sym, ap, ap₂, subst, ◌∙◌, inl, inr, arith, eq-eqb, ne_eqb}
use Rattle.std.specs.Prelude.{nat_le, if◌then◌else◌, Option}
use Rattle.std.proofs.lemmas.Bool.{cases_Bool, cases_lt, cases_eq, le-leb, lt-leb, cond-true, cond-false}
use Rattle.std.proofs.lemmas.List.{get_or-map, length-map, length_push}
use Rattle.node_grid.specs.NodeSet.{has_id, without_id, IsIdSet}
use Rattle.node_grid.specs.Count.{Distinct}
use Rattle.omh_paths.specs.declared.wrapped.Wrapped.{Wrapped}
use Rattle.omh_paths.specs.declared.wrapped.Wrapped.TheVariants.{Fault}
use Rattle.omh_paths.specs.Paths.{outside, paths_of_length, path_count, place_in, index_in, IsListed}
use Rattle.omh_paths.specs.PathLists.{length-paths, place-lt, path_at-place, place-path_at, IsListed-at, Distinct-without, has-of-without, index_in-lt, at-index_in, length-outside, path_count-last, path_at-push}
use Rattle.omh_paths.specs.MemberLaws.{Distinct-ids}
use Rattle.omh.specs.Heard.{Entry, Hearing, entry, heard_in, heard_paths, nothing_heard, ear_of}
use Rattle.omh.specs.HeardLaws.{IsHeardPath, heard_in-at, entries_alike, has-without-me, within_others}
use Rattle.omh.specs.Flat.{section_at, flat_heard}
use Rattle.omh.specs.FlatLaws.{section_at-le}
use Rattle.relay_walk.specs.Laid.{laid}
use Rattle.relay_walk.specs.LaidLaws.{laid_before, laid_in, laid_behind}
use Rattle.relay_table.specs.Tabled.{kept_nodes, kept_heard, heard_among, told_in, after_frames}
use Rattle.relay_table.specs.Settling.{other_path, HearsKept, HearsLast}
use Rattle.relay_table.proofs.Settled.{child_low}

-- ---- where terms are kept

pub kept_where : {V : Type 0} (most : ℕ) (others : List ℕ) (flat : List (Wrapped V)) (path : List ℕ) → length path ≤ most → kept_heard most others flat path ≡ flat_heard (length others) others flat path
kept_where most others flat path low = cond-true (nat_le (length path) most) (flat_heard (length others) others flat path) (Fault 0) (le-leb (length path) most low)

pub not_kept : {V : Type 0} (most : ℕ) (others : List ℕ) (flat : List (Wrapped V)) (path : List ℕ) → most < length path → kept_heard most others flat path ≡ Fault 0
not_kept most others flat path high = cond-false (nat_le (length path) most) (flat_heard (length others) others flat path) (Fault 0) (lt-leb (length path) most high)

real_path : (n : ℕ) (members others : List ℕ) (me rounds len k : ℕ) → IsIdSet n members → others ≡ without_id members me → 0 < len → len ≤ rounds + 1 → k < path_count (length others) len → IsHeardPath members me rounds (other_path others len k)
real_path n members others me rounds len k ids is some short low =
    let d = Distinct-without members me (Distinct-ids n members ids) in
    let listed : IsListed others len (other_path others len k) = IsListed-at others len k (subst Distinct (sym is) d) low in
    let within : (q : ℕ) → has_id (other_path others len k) q ≡ true → has_id (without_id members me) q ≡ true = λ q on. ap (λ (s : List ℕ). has_id s q) (sym is) ∙ listed.within q on in
    record {
      distinct = listed.distinct;
      within = λ q on. has-of-without members me q (within q on);
      other = has-without-me members me (other_path others len k) within;
      some = omega (arith, listed.long);
      short = omega (arith, listed.long);
    }

-- ---- a section that is written over

suc_of : (l r : ℕ) → l ≡ r + 1 → l ≡ suc r
suc_of l r e = omega arith

module _ {V : Type 0} (n : ℕ) (members : List ℕ) (me rounds most r : ℕ) (ids : IsIdSet n members) (flat : List (Wrapped V)) (says : List ℕ → Wrapped V) where
  abbrev others : List ℕ
  others = without_id members me

  abbrev told : List (Wrapped V)
  told = map says (paths_of_length others (suc r))

  abbrev after : List (Wrapped V)
  after = laid (section_at (length others) r) told flat

  dist : Distinct others
  dist = Distinct-without members me (Distinct-ids n members ids)

  many : length told ≡ path_count (length others) (suc r)
  many = length-map (paths_of_length others (suc r)) says ∙ length-paths others (suc r) dist

  abbrev Heard : List ℕ → Type 0
  Heard path = kept_heard most others after path ≡ (if length path == r + 1 then says path else kept_heard most others flat path)

  abbrev place : List ℕ → ℕ
  place path = place_in (paths_of_length others (length path)) path

  in_section : (path : List ℕ) → IsHeardPath members me rounds path → place path < path_count (length others) (length path)
  in_section path real = place-lt others path dist real.distinct (within_others real)

  heard_here : r + 1 ≤ most → section_at (length others) (suc r) ≤ length flat → (path : List ℕ) → IsHeardPath members me rounds path → length path ≡ r + 1 → kept_heard most others after path ≡ says path
  heard_here kept room path real e =
      let l : length path ≡ suc r = suc_of (length path) r e in
      let low : place_in (paths_of_length others (suc r)) path < path_count (length others) (suc r) =
      subst (λ (k : ℕ). place_in (paths_of_length others k) path < path_count (length others) k) l (in_section path real) in
      kept_where most others after path (omega arith)
      ∙ ap (λ (k : ℕ). get_or after (section_at (length others) (k - 1) + place_in (paths_of_length others k) path) (Fault 0)) l
      ∙ ap (λ (k : ℕ). get_or after (section_at (length others) k + place_in (paths_of_length others (suc r)) path) (Fault 0)) (back r)
      ∙ laid_in (section_at (length others) r) told flat (place_in (paths_of_length others (suc r)) path) (Fault 0) (omega (arith, many)) (omega (arith, many))
      ∙ get_or-map says (paths_of_length others (suc r)) (place_in (paths_of_length others (suc r)) path) [] (Fault 0) (omega (arith, length-paths others (suc r) dist))
      ∙ ap says (path_at-place (paths_of_length others (suc r)) path (omega (arith, length-paths others (suc r) dist)))
    where
      back : (r : ℕ) → suc r - 1 ≡ r
      back r = omega arith

  heard_there : section_at (length others) (suc r) ≤ length flat → (path : List ℕ) → IsHeardPath members me rounds path → length path ≢ r + 1 → kept_heard most others after path ≡ kept_heard most others flat path
  heard_there room path real ne = elim (cases_lt most (length path)) [
    | inl high ↦ not_kept most others after path high ∙ sym (not_kept most others flat path high)
    | inr low ↦
        let l = in_section path real in
        let some = real.some in
        let e : length path ≡ suc (length path - 1) = omega arith in
        let s = ap (section_at (length others)) e in
        let c = ap (path_count (length others)) e in
        let middle : flat_heard (length others) others after path ≡ flat_heard (length others) others flat path = elim (cases_lt r (length path)) [
          | inr shorter ↦ laid_before (section_at (length others) r) told flat (section_at (length others) (length path - 1) + place path) (Fault 0) (omega (arith, l, s, c, section_at-le (length others) (length path) r shorter)) (omega arith)
          | inl longer ↦
              laid_behind (section_at (length others) r) told flat (section_at (length others) (length path - 1) + place path) (Fault 0)
              (omega (arith, many, section_at-le (length others) (suc r) (length path - 1) (omega arith))) (omega (arith, many))
        ] in
        kept_where most others after path low ∙ middle ∙ sym (kept_where most others flat path low)
  ]

  heard_after : r + 1 ≤ most → section_at (length others) (suc r) ≤ length flat → (path : List ℕ) → IsHeardPath members me rounds path → Heard path
  heard_after kept room path real = elim (cases_eq (length path) (r + 1)) [
    | inl e ↦ heard_here kept room path real e ∙ sym (cond-true (length path == r + 1) (says path) (kept_heard most others flat path) (eq-eqb (length path) (r + 1) e))
    | inr ne ↦ heard_there room path real ne ∙ sym (cond-false (length path == r + 1) (says path) (kept_heard most others flat path) (ne_eqb (length path) (r + 1) ne))
  ]

-- an entry of a path of r + 1 nodes that is told
abbrev pub told_to : {V : Type 0} → ℕ → (List ℕ → Wrapped V) → Entry V → Entry V
told_to r says e = if length e.path == r + 1 then record { path = e.path; value = says e.path } else e

told_entry : {V : Type 0} (r : ℕ) (says f : List ℕ → Wrapped V) (path : List ℕ) → entry (λ p. if length p == r + 1 then says p else f p) path ≡ told_to r says (entry f path)
told_entry {V} r says f path = elim (cases_Bool (length path == r + 1)) [
  | inl y ↦ ap (λ (u : Wrapped V). record { path = path; value = u }) (cond-true (length path == r + 1) (says path) (f path) y) ∙ sym (cond-true (length path == r + 1) (record { path = path; value = says path }) (entry f path) y)
  | inr n ↦ ap (λ (u : Wrapped V). record { path = path; value = u }) (cond-false (length path == r + 1) (says path) (f path) n) ∙ sym (cond-false (length path == r + 1) (record { path = path; value = says path }) (entry f path) n)
]

pub told_entries : {V : Type 0} (r : ℕ) (says f : List ℕ → Wrapped V) (ps : List (List ℕ)) → map (told_to r says) (map (entry f) ps) ≡ map (entry (λ p. if length p == r + 1 then says p else f p)) ps
told_entries r says f [] = refl
told_entries r says f (p ∷ ps) = ap₂ ◌∷◌ (sym (told_entry r says f p)) (told_entries r says f ps)

-- what was heard after the terms of the paths of r + 1 nodes were laid
pub heard_laid : {V : Type 0} (n : ℕ) (members : List ℕ) (me rounds r : ℕ) (flat now : List (Wrapped V)) (says : List ℕ → Wrapped V) → IsIdSet n members → r + 1 ≤ kept_nodes rounds
    → section_at (length (without_id members me)) (suc r) ≤ length flat → now ≡ laid (section_at (length (without_id members me)) r) (map says (paths_of_length (without_id members me) (suc r))) flat
    → heard_among members me rounds now ≡ map (told_to r says) (heard_among members me rounds flat)
heard_laid {V} n members me rounds r flat now says ids kept room is =
    ap (heard_among members me rounds) is
    ∙ entries_alike (kept_heard (kept_nodes rounds) (without_id members me) (laid (section_at (length (without_id members me)) r) (map says (paths_of_length (without_id members me) (suc r))) flat))
    (λ p. if length p == r + 1 then says p else kept_heard (kept_nodes rounds) (without_id members me) flat p) members me rounds (Distinct-ids n members ids)
    (heard_after n members me rounds (kept_nodes rounds) r ids flat says kept room)
    ∙ sym (told_entries r says (kept_heard (kept_nodes rounds) (without_id members me) flat) (heard_paths members me rounds))

-- nothing was heard
pub heard_nothing : {V : Type 0} (members : List ℕ) (me rounds : ℕ) (flat : List (Wrapped V)) → ((k : ℕ) → get_or flat k (Fault 0) ≡ Fault 0) → heard_among members me rounds flat ≡ nothing_heard members me rounds
heard_nothing {V} members me rounds flat none =
    ap (λ (f : List ℕ → Wrapped V). map (entry f) (heard_paths members me rounds)) (λ i path. each path i)
  where
    each : (path : List ℕ) → kept_heard (kept_nodes rounds) (without_id members me) flat path ≡ Fault 0
    each path = elim (cases_lt (kept_nodes rounds) (length path)) [
      | inr low ↦ kept_where (kept_nodes rounds) (without_id members me) flat path low ∙ none _
      | inl high ↦ not_kept (kept_nodes rounds) (without_id members me) flat path high
    ]

-- ---- what a path's place has

pub place_there : {V : Type 0} (others : List ℕ) (most len k : ℕ) (flat : List (Wrapped V)) → Distinct others → 0 < len → len ≤ most → k < path_count (length others) len
    → kept_heard most others flat (other_path others len k) ≡ get_or flat (section_at (length others) (len - 1) + k) (Fault 0)
place_there {V} others most len k flat d some low few =
    let long : length (other_path others len k) ≡ len = (IsListed-at others len k d few).long in
    kept_where most others flat (other_path others len k) (omega (arith, long))
    ∙ ap (λ (l : ℕ). get_or flat (section_at (length others) (l - 1) + place_in (paths_of_length others l) (other_path others len k)) (Fault 0)) long
    ∙ ap (λ (j : ℕ). get_or flat (section_at (length others) (len - 1) + j) (Fault 0)) (place-path_at others len k d few)

pub kept-le : (m : ℕ) → kept_nodes m ≤ m + 1
kept-le zero = omega arith
kept-le (suc zero) = omega arith
kept-le (suc (suc m)) = omega arith

pub kept-ge : (m : ℕ) → m ≤ kept_nodes m
kept-ge zero = omega arith
kept-ge (suc zero) = omega arith
kept-ge (suc (suc m)) = omega arith

pub heard_at : {V : Type 0} (n : ℕ) (members others : List ℕ) (me rounds len k : ℕ) (flat : List (Wrapped V)) → IsIdSet n members → others ≡ without_id members me → 0 < len → len ≤ kept_nodes rounds → k < path_count (length others) len
    → heard_in (heard_among members me rounds flat) (other_path others len k) ≡ get_or flat (section_at (length others) (len - 1) + k) (Fault 0)
heard_at {V} n members others me rounds len k flat ids is some low few =
    let d = Distinct-ids n members ids in
    let short : len ≤ rounds + 1 = omega (arith, kept-le rounds) in
    heard_in-at (kept_heard (kept_nodes rounds) (without_id members me) flat) members me rounds (other_path others len k) d (real_path n members others me rounds len k ids is some short few)
    ∙ ap (λ (s : List ℕ). kept_heard (kept_nodes rounds) s flat (other_path others len k)) (sym is)
    ∙ place_there others (kept_nodes rounds) len k flat (subst Distinct (sym is) (Distinct-without members me d)) some low few

-- ---- the node that settles

-- as it is after the last round, and where nothing is relayed
pub hears_after : {V : Type 0} (n : ℕ) (members others : List ℕ) (me rounds : ℕ) (full : Bool) (flat : List (Wrapped V)) (frames : ℕ → Option (List (Wrapped V))) (h : Hearing V)
    → IsIdSet n members → others ≡ without_id members me → h.rounds ≡ rounds → h.members ≡ members → h.me ≡ me → h.full ≡ full → h.heard ≡ heard_among members me rounds flat
    → HearsKept rounds rounds members others me full flat (ear_of (after_frames frames rounds h))
hears_after {V} n members others me rounds full flat frames h ids is rounds_are members_are me_is full_is heard_is = record {
  rounds_are = rounds_are;
  members_are = members_are;
  me_is = me_is;
  full_is = full_is;
  heard = λ len k some low few.
      let d = Distinct-ids n members ids in
      let f : List ℕ → Wrapped V = kept_heard (kept_nodes rounds) (without_id members me) flat in
      let says : List ℕ → Wrapped V = told_in frames h.members rounds in
      let path : List ℕ = other_path others len k in
      let long : length path ≡ len = (IsListed-at others len k (subst Distinct (sym is) (Distinct-without members me d)) few).long in
      ap (λ (es : List (Entry V)). heard_in (map (told_to rounds says) es) path) heard_is
      ∙ ap (λ (es : List (Entry V)). heard_in es path) (told_entries rounds says f (heard_paths members me rounds))
      ∙ heard_in-at (λ p. if length p == rounds + 1 then says p else f p) members me rounds path d (real_path n members others me rounds len k ids is some (omega arith) few)
      ∙ cond-false (length path == rounds + 1) (says path) (f path) (ne_eqb (length path) (rounds + 1) (other_length (length path) len rounds long low))
      ∙ ap (λ (s : List ℕ). kept_heard (kept_nodes rounds) s flat path) (sym is)
      ∙ place_there others (kept_nodes rounds) len k flat (subst Distinct (sym is) (Distinct-without members me d)) some (omega (arith, kept-ge rounds)) few;
}
  where
    other_length : (l len rounds : ℕ) → l ≡ len → len ≤ rounds → l ≢ rounds + 1
    other_length l len rounds e low bad = omega arith

pub hears_last_after : {V : Type 0} (n : ℕ) (members others : List ℕ) (me rounds : ℕ) (flat : List (Wrapped V)) (frames : ℕ → Option (List (Wrapped V))) (h : Hearing V)
    → IsIdSet n members → others ≡ without_id members me → 0 < rounds → h.members ≡ members → h.heard ≡ heard_among members me rounds flat
    → HearsLast frames members others rounds (ear_of (after_frames frames rounds h))
hears_last_after {V} n members others me rounds flat frames h ids is some members_are heard_is k q low on =
    let d = Distinct-ids n members ids in
    let dist = subst Distinct (sym is) (Distinct-without members me d) in
    let f : List ℕ → Wrapped V = kept_heard (kept_nodes rounds) (without_id members me) flat in
    let says : List ℕ → Wrapped V = told_in frames h.members rounds in
    let front : List ℕ = other_path others rounds k in
    let path : List ℕ = front ++ q ∷ [] in
    let listed : IsListed others rounds front = IsListed-at others rounds k dist low in
    let w : ℕ = length others - rounds in
    let i : ℕ = index_in (outside others front) q in
    let within : i < w = omega (arith, index_in-lt (outside others front) q on, length-outside others front dist listed.distinct listed.within, listed.long) in
    let there : k * w + i < path_count (length others) (suc rounds) = omega (arith, child_low k (path_count (length others) rounds) w i low within, path_count-last (length others) rounds) in
    let at : other_path others (suc rounds) (k * w + i) ≡ path = path_at-push others rounds k i dist low within ∙ ap (λ (x : ℕ). front ++ x ∷ []) (at-index_in (outside others front) q 0 on) in
    let real : IsHeardPath members me rounds path = subst (IsHeardPath members me rounds) at (real_path n members others me rounds (suc rounds) (k * w + i) ids is (omega arith) (omega arith) there) in
    let grown : length path ≡ rounds + 1 = length_push front q ∙ omega (arith, listed.long) in
    ap (λ (es : List (Entry V)). heard_in (map (told_to rounds says) es) path) heard_is
    ∙ ap (λ (es : List (Entry V)). heard_in es path) (told_entries rounds says f (heard_paths members me rounds))
    ∙ heard_in-at (λ p. if length p == rounds + 1 then says p else f p) members me rounds path d real
    ∙ cond-true (length path == rounds + 1) (says path) (f path) (eq-eqb (length path) (rounds + 1) grown)
    ∙ ap (λ (ms : List ℕ). told_in frames ms rounds path) members_are

-- as it is before that
pub hears_now : {V : Type 0} (n : ℕ) (members others : List ℕ) (me rounds : ℕ) (full : Bool) (flat : List (Wrapped V)) (h : Hearing V)
    → IsIdSet n members → others ≡ without_id members me → h.rounds ≡ rounds → h.members ≡ members → h.me ≡ me → h.full ≡ full → h.heard ≡ heard_among members me rounds flat
    → HearsKept rounds (kept_nodes rounds) members others me full flat (ear_of h)
hears_now {V} n members others me rounds full flat h ids is rounds_are members_are me_is full_is heard_is = record {
  rounds_are = rounds_are;
  members_are = members_are;
  me_is = me_is;
  full_is = full_is;
  heard = λ len k some low few. ap (λ (es : List (Entry V)). heard_in es (other_path others len k)) heard_is ∙ heard_at n members others me rounds len k flat ids is some low few;
}
