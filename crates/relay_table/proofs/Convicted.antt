-- Whom a node convicts, from the terms of the paths of one and two nodes.
use Rattle.std.proofs.Common.{ℕ, zero, suc, ◌≡◌, ◌<◌, ◌≤◌, ◌+◌, ◌-◌, ◌*◌, ◌&&◌, Bool, true, false, List, [], ◌∷◌, ◌++◌, length, map, take, drop, get_or, sym, ap, ap₂, subst, ◌∙◌, arith}
use Rattle.std.proofs.lemmas.List.{get_or-drop, get_or-take, get_or-map, ext_get_or, length-map, length-take, length-drop}
use Rattle.node_grid.specs.NodeSet.{has_id, without_id, IsIdSet}
use Rattle.node_grid.specs.Count.{Distinct}
use Rattle.omh_paths.specs.declared.wrapped.Wrapped.{Wrapped}
use Rattle.omh_paths.specs.declared.wrapped.Wrapped.TheVariants.{Fault}
use Rattle.omh_paths.specs.MemberLaws.{Distinct-ids, path_count-few}
use Rattle.omh_paths.specs.Paths.{outside, path_count, index_in}
use Rattle.omh_paths.specs.PathLists.{outside-cons, outside_nothing, path_at-push, path_count-last, length-outside, IsListed-at, index_in-lt, Distinct-without}
use Rattle.omh.specs.Omh.{Ear}
use Rattle.omh.specs.Flat.{section_at}
use Rattle.equivocation.specs.Conviction.{is_convicted, convicts, relays_of}
use Rattle.relay_table.specs.Settling.{other_path, HearsKept}
use Rattle.relay_table.specs.Tabled.{kept_nodes}
use Rattle.relay_table.proofs.Settled.{terms_fit, child_low}
use Rattle.relay_table.proofs.Stations.{root_path}

pub kept-pairs : (m : ℕ) → 0 < m → 2 ≤ kept_nodes m
kept-pairs zero some = absurd (omega arith)
kept-pairs (suc zero) some = omega arith
kept-pairs (suc (suc m)) some = omega arith

-- with no relay round nobody is convicted
pub no_rounds : {V : Type 0} (eq : V → V → Bool) (x : Ear V) (c : ℕ) → x.rounds ≡ 0 → convicts eq x c ≡ false
no_rounds eq x c none = ap (is_convicted eq (x.heard (c ∷ [])) (relays_of x c) (x.full && has_id x.members x.me)) none

-- the terms of the pairs of a member are there, and they are few
pub pairs_fit : (n place room : ℕ) → place < n → section_at n 2 ≤ room → n + place * (n - 1) + (n - 1) ≤ room
pairs_fit n place room low fits =
    let one : path_count n 1 ≡ n = omega arith in
    let two : section_at n 2 ≡ n + path_count n 2 = omega arith in
    omega (arith, terms_fit n 1 place (path_count n 2) (omega arith) (omega arith), two, fits)

pub pairs_few : (n place : ℕ) → place < n → n ≤ 16 → place * (n - 1) + (n - 1) ≤ 65536
pairs_few n place low few = omega (arith, terms_fit n 1 place (path_count n 2) (omega arith) (omega arith), path_count-few n 2 few (omega arith))

-- the members that relay another member's item are the others but for it
pub relays_outside : (members : List ℕ) (me c : ℕ) → outside members (c ∷ me ∷ []) ≡ outside (without_id members me) (c ∷ [])
relays_outside members me c =
    outside-cons members c (me ∷ [])
    ∙ ap (λ (s : List ℕ). without_id s c) (outside-cons members me [] ∙ ap (λ (s : List ℕ). without_id s me) (outside_nothing members))
    ∙ sym (outside-cons (without_id members me) c [] ∙ ap (λ (s : List ℕ). without_id s c) (outside_nothing (without_id members me)))

module _ {V : Type 0} (eq : V → V → Bool) (n : ℕ) (members others : List ℕ) (me rounds most c : ℕ) (full : Bool) (flat : List (Wrapped V)) (x : Ear V)
    (ids : IsIdSet n members) (others_are : others ≡ without_id members me) (two : 2 ≤ most) (on : has_id others c ≡ true) (kept : HearsKept rounds most members others me full flat x)
    (room : section_at (length others) 2 ≤ length flat) where
  abbrev place : ℕ
  place = index_in others c

  abbrev w : ℕ
  w = length others - 1

  dist : Distinct others
  dist = subst Distinct (sym others_are) (Distinct-without members me (Distinct-ids n members ids))

  low : place < length others
  low = index_in-lt others c on

  root : other_path others 1 place ≡ c ∷ []
  root = root_path others c dist on

  listed : place < path_count (length others) 1
  listed = let l = low in omega arith

  own : get_or flat place (Fault 0) ≡ x.heard (c ∷ [])
  own = ap (λ (k : ℕ). get_or flat k (Fault 0)) (alone place) ∙ sym (kept.heard 1 place (omega arith) (omega arith) listed) ∙ ap x.heard root
    where
      alone : (place : ℕ) → place ≡ section_at (length others) (1 - 1) + place
      alone place = omega arith

  wide : length (outside others (c ∷ [])) ≡ w
  wide =
      let l = IsListed-at others 1 place dist listed in
      ap (λ (path : List ℕ). length (outside others path)) (sym root) ∙ length-outside others (other_path others 1 place) dist l.distinct l.within ∙ ap (λ (k : ℕ). length others - k) l.long

  relay : (i : ℕ) → i < w → get_or flat (length others + place * w + i) (Fault 0) ≡ x.heard (c ∷ get_or (outside others (c ∷ [])) i 0 ∷ [])
  relay i within =
      let below = child_low place (path_count (length others) 1) w i listed within in
      let pair : place * w + i < path_count (length others) 2 = omega (arith, below, path_count-last (length others) 1) in
      let one : length others + place * w + i ≡ section_at (length others) (2 - 1) + (place * w + i) = omega arith in
      ap (λ (k : ℕ). get_or flat k (Fault 0)) one
      ∙ sym (kept.heard 2 (place * w + i) (omega arith) two pair)
      ∙ ap x.heard (path_at-push others 1 place i dist listed within)
      ∙ ap (λ (path : List ℕ). x.heard (path ++ get_or (outside others path) i 0 ∷ [])) root

  relays : take w (drop (length others + place * w) flat) ≡ relays_of x c
  relays =
      let begins : ℕ = length others + place * w in
      let long : length (take w (drop begins flat)) ≡ w = omega (arith, length-take w (drop begins flat), length-drop begins flat, pairs_fit (length others) place (length flat) low room) in
      let there : outside x.members (c ∷ x.me ∷ []) ≡ outside others (c ∷ []) =
      ap₂ (λ (s : List ℕ) (i : ℕ). outside s (c ∷ i ∷ [])) kept.members_are kept.me_is ∙ relays_outside members me c ∙ ap (λ (s : List ℕ). outside s (c ∷ [])) (sym others_are) in
      ext_get_or (Fault 0) (take w (drop begins flat)) (map (λ q. x.heard (c ∷ q ∷ [])) (outside others (c ∷ []))) (omega (arith, long, wide, length-map (outside others (c ∷ [])) (λ q. x.heard (c ∷ q ∷ [])))) (λ i l.
      let within : i < w = omega (arith, long) in
      get_or-take w (drop begins flat) i (Fault 0) within ∙ get_or-drop begins flat i (Fault 0) ∙ relay i within
      ∙ sym (get_or-map (λ q. x.heard (c ∷ q ∷ [])) (outside others (c ∷ [])) i 0 (Fault 0) (omega (arith, wide))))
      ∙ ap (map (λ q. x.heard (c ∷ q ∷ []))) (sym there)

  pub convicts_as : is_convicted eq (get_or flat place (Fault 0)) (take w (drop (length others + place * w) flat)) (full && has_id members me) rounds ≡ convicts eq x c
  convicts_as =
      ap₂ (λ (t : Wrapped V) (ts : List (Wrapped V)). is_convicted eq t ts (full && has_id members me) rounds) own relays
      ∙ ap₂ (λ (b : Bool) (r : ℕ). is_convicted eq (x.heard (c ∷ [])) (relays_of x c) (b && has_id members me) r) (sym kept.full_is) (sym kept.rounds_are)
      ∙ ap₂ (λ (s : List ℕ) (i : ℕ). is_convicted eq (x.heard (c ∷ [])) (relays_of x c) (x.full && has_id s i) x.rounds) (sym kept.members_are) (sym kept.me_is)
