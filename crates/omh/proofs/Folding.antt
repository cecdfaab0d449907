-- What is settled for the paths of r relays, from what is settled for those of one relay more.
use Rattle.std.proofs.Common.{ℕ, ◌||◌, zero, suc, ◌≡◌, ◌≢◌, ◌<◌, ◌≤◌, ◌+◌, ◌-◌, ◌*◌, ◌==◌, ◌⊎◌, Bool, true, false, List, [], ◌∷◌, ◌++◌, map, length, get_or, set, take, drop, refl, sym, ap, ap₂, subst, ◌∙◌, inl, inr, arith, eq-eqb, ne_eqb}
use Rattle.std.specs.Prelude.{if◌then◌else◌}
use Rattle.std.proofs.lemmas.Bool.{cases_Bool, cases_eq, cond-true, cond-false}
use Rattle.std.proofs.lemmas.List.{get_or-set_same, get_or-set_other, length-drop, length-take-le, get_or-take, get_or-drop, get_or-map, ext_get_or, get_or_default, get_or_append_left, length-take, length-append}
use Rattle.node_grid.specs.NodeSet.{has_id}
use Rattle.node_grid.specs.Count.{Distinct}
use Rattle.node_grid.specs.ListFacts.{length_mapped}
use Rattle.node_grid.specs.NumberFacts.{product_few, terms_fit, some_width, digits_fit, same_rest}
use Rattle.omh_paths.specs.declared.wrapped.Wrapped.{Wrapped}
use Rattle.omh_paths.specs.declared.wrapped.Wrapped.TheVariants.{Fault}
use Rattle.omh_paths.specs.Wrapped.{wrapped, unwrapped}
use Rattle.omh_paths.specs.Majority.{majority}
use Rattle.omh_paths.specs.Paths.{outside, paths_of_length, path_count, place_in, path_at, index_in, IsListed}
use Rattle.omh_paths.specs.PathLaws.{off_from}
use Rattle.node_grid.specs.CapacityLaws.{capacity-le}
use Rattle.omh_paths.specs.MemberLaws.{path_count-few, Distinct-ids}
use Rattle.omh_paths.specs.PathLists.{index_in-lt, path_count-last, IsListed-at, length-outside, index_in-at, at-index_in, has-at, Distinct-filter, place-path_at, path_at-place, length-paths}
use Rattle.omh_paths.specs.Facts.{paths_is, longer_count, more_paths}
use Rattle.omh.specs.Facts.{length-settled, relay_path-push, relay_place-lt, length-laid}
use Rattle.omh.specs.declared.station.Branch.{Branch}
use Rattle.omh.specs.Omh.{Ear, own_term, settled_at, term_at}
use Rattle.omh.specs.SettledLaws.{settled_at_end, settled_at_later}
use Rattle.omh.specs.Flat.{relay_path, SettledAt, AreSettled, laid_own, section_at, IsStation, IsRoom, IsBranch, flat_place, flat_heard, path_settled, flat_ear}
use Rattle.omh.specs.FlatLaws.{section_at-le, section_at-next}
use Rattle.omh.proofs.Flats.{room_enough, single_place}

-- ---- a list of terms with the node's own

laid_me : {V : Type 0} (nodes : List ℕ) (me from j : ℕ) (own : Wrapped V) (work : List (Wrapped V)) → Distinct nodes → j < length nodes → from + j < length work → get_or nodes j 0 ≡ me
    → get_or (laid_own nodes me from own work) (from + j) (Fault 0) ≡ own
laid_me nodes me from j own work d low room e =
    let on : has_id nodes me ≡ true = ap (has_id nodes) (sym e) ∙ has-at nodes j 0 low in
    let k : index_in nodes me ≡ j = ap (index_in nodes) (sym e) ∙ index_in-at nodes j 0 d low in
    ap (λ ts. get_or ts (from + j) (Fault 0)) (cond-true (has_id nodes me) (set work (from + index_in nodes me) own) work on)
    ∙ ap (λ (i : ℕ). get_or (set work (from + i) own) (from + j) (Fault 0)) k ∙ get_or-set_same work (from + j) own (Fault 0) room

laid_other : {V : Type 0} (nodes : List ℕ) (me from j : ℕ) (own : Wrapped V) (work : List (Wrapped V)) → get_or nodes j 0 ≢ me
    → get_or (laid_own nodes me from own work) (from + j) (Fault 0) ≡ get_or work (from + j) (Fault 0)
laid_other nodes me from j own work ne = elim (cases_Bool (has_id nodes me)) [
  | inl y ↦
      let apart : from + j ≢ from + index_in nodes me = λ e. let k : j ≡ index_in nodes me = omega arith in ne (ap (λ (i : ℕ). get_or nodes i 0) k ∙ at-index_in nodes me 0 y) in
      ap (λ ts. get_or ts (from + j) (Fault 0)) (cond-true (has_id nodes me) (set work (from + index_in nodes me) own) work y)
      ∙ get_or-set_other work (from + index_in nodes me) (from + j) own (Fault 0) apart
  | inr n ↦ ap (λ ts. get_or ts (from + j) (Fault 0)) (cond-false (has_id nodes me) (set work (from + index_in nodes me) own) work n)
]

-- places that are no term's stay
pub laid_outside : {V : Type 0} (nodes : List ℕ) (me from i : ℕ) (own : Wrapped V) (work : List (Wrapped V)) → (i < from) ⊎ (from + length nodes ≤ i)
    → get_or (laid_own nodes me from own work) i (Fault 0) ≡ get_or work i (Fault 0)
laid_outside nodes me from i own work out = elim (cases_Bool (has_id nodes me)) [
  | inl y ↦
      let low = index_in-lt nodes me y in
      let apart : i ≢ from + index_in nodes me = elim out [ inl l ↦ (λ e. omega arith) | inr m ↦ (λ e. omega arith) ] in
      ap (λ ts. get_or ts i (Fault 0)) (cond-true (has_id nodes me) (set work (from + index_in nodes me) own) work y)
      ∙ get_or-set_other work (from + index_in nodes me) i own (Fault 0) apart
  | inr n ↦ ap (λ ts. get_or ts i (Fault 0)) (cond-false (has_id nodes me) (set work (from + index_in nodes me) own) work n)
]

-- ---- one path

pub relay_listed : (members : List ℕ) (place r k : ℕ) → Distinct members → place < length members → k < path_count (length members - 1) r → IsListed members (suc r) (relay_path members place r k)
relay_listed members place r k d low within =
    IsListed-at members (suc r) (place * path_count (length members - 1) r + k) d (relay_place-lt members place r k low within)

longer-lt : (members : List ℕ) (r k j : ℕ) → k < path_count (length members - 1) r → j < length members - suc r → k * (length members - suc r) + j < path_count (length members - 1) (suc r)
longer-lt members r k j within inside =
    let n : ℕ = length members in
    let last : path_count (n - 1) (suc r) ≡ path_count (n - 1) r * (n - suc r) = path_count-last (n - 1) r ∙ ap (λ (x : ℕ). path_count (n - 1) r * x) (same_rest n r) in
    omega (arith, last, digits_fit k j (path_count (n - 1) r) (n - suc r) within inside)

module _ {V : Type 0} (eq : V → V → Bool) (x : Ear V) (distinct : Distinct x.members) (place r : ℕ) (low : place < length x.members) (short : suc r ≤ x.rounds) where
  -- each term of a path's majority
  term_is : (k j : ℕ) (own : Wrapped V) (work : List (Wrapped V)) → k < path_count (length x.members - 1) r → j < length x.members - suc r
      → has_id (relay_path x.members place r k) x.me ≡ false → own ≡ own_term x (relay_path x.members place r k) → k * (length x.members - suc r) + j < length work
      → SettledAt eq x place (suc r) work (k * (length x.members - suc r) + j)
      → get_or (laid_own (outside x.members (relay_path x.members place r k)) x.me (k * (length x.members - suc r)) own work) (k * (length x.members - suc r) + j) (Fault 0)
      ≡ term_at eq x (relay_path x.members place r k) (get_or (outside x.members (relay_path x.members place r k)) j 0)
  term_is k j own work within inside off is room settled =
      let p : List ℕ = relay_path x.members place r k in
      let listed = relay_listed x.members place r k distinct low within in
      let others : List ℕ = outside x.members p in
      let many : length others ≡ length x.members - suc r = length-outside x.members p distinct listed.distinct listed.within ∙ ap (λ (n : ℕ). length x.members - n) listed.long in
      let q : ℕ = get_or others j 0 in
      let from : ℕ = k * (length x.members - suc r) in
      elim (cases_eq q x.me) [
        | inl e ↦
            laid_me others x.me from j own work (Distinct-filter _ x.members distinct) (omega arith) room e ∙ is
            ∙ sym (cond-true (q == x.me) (own_term x p) (settled_at eq x (p ++ q ∷ [])) (eq-eqb q x.me e))
        | inr ne ↦
            let longer : relay_path x.members place (suc r) (from + j) ≡ p ++ q ∷ [] = relay_path-push x.members place r k j distinct low within inside in
            let free : has_id (relay_path x.members place (suc r) (from + j)) x.me ≡ false = ap (λ (ns : List ℕ). has_id ns x.me) longer ∙ off_from p q x.me off ne in
            laid_other others x.me from j own work ne ∙ settled free ∙ ap (settled_at eq x) longer
            ∙ sym (cond-false (q == x.me) (own_term x p) (settled_at eq x (p ++ q ∷ [])) (ne_eqb q x.me ne))
      ]

  -- so the path is settled from them
  pub settled_from : (k : ℕ) (own : Wrapped V) (work : List (Wrapped V)) → k < path_count (length x.members - 1) r
      → has_id (relay_path x.members place r k) x.me ≡ false → own ≡ own_term x (relay_path x.members place r k)
      → k * (length x.members - suc r) + (length x.members - suc r) ≤ length work
      → ((j : ℕ) → j < length x.members - suc r → SettledAt eq x place (suc r) work (k * (length x.members - suc r) + j))
      → unwrapped (majority eq (take (length x.members - suc r) (drop (k * (length x.members - suc r)) (laid_own (outside x.members (relay_path x.members place r k)) x.me (k * (length x.members - suc r)) own work))))
      ≡ settled_at eq x (relay_path x.members place r k)
  settled_from k own work within off is room settled =
      let w : ℕ = length x.members - suc r in
      let from : ℕ = k * w in
      let p : List ℕ = relay_path x.members place r k in
      let listed = relay_listed x.members place r k distinct low within in
      let others : List ℕ = outside x.members p in
      let many : length others ≡ w = length-outside x.members p distinct listed.distinct listed.within ∙ ap (λ (n : ℕ). length x.members - n) listed.long in
      let laid : List (Wrapped V) = laid_own others x.me from own work in
      let long : length laid ≡ length work = length-laid others x.me from own work in
      let terms : List (Wrapped V) = take w (drop from laid) in
      let whole : length terms ≡ w = length-take-le w (drop from laid) (omega (arith, length-drop from laid)) in
      let same : terms ≡ map (term_at eq x p) others =
      ext_get_or (Fault 0) terms (map (term_at eq x p) others) (omega (arith, whole, many, length_mapped (term_at eq x p) others))
      (λ j l.
      let inside : j < w = omega (arith, whole) in
      get_or-take w (drop from laid) j (Fault 0) inside ∙ get_or-drop from laid j (Fault 0)
      ∙ term_is k j own work within inside off is (omega arith) (settled j inside)
      ∙ sym (get_or-map (term_at eq x p) others j 0 (Fault 0) (omega arith)))
      in
      ap (λ (ts : List (Wrapped V)). unwrapped (majority eq ts)) same ∙ sym (settled_at_later eq x p (omega (arith, listed.long)))

-- ---- all paths of r relays, one after another

-- the paths before k are settled, and so are those of one relay more from where the k-th path's begin
pub record IsHalfway {V : Type 0} (eq : V → V → Bool) (x : Ear V) (place r : ℕ) (work : List (Wrapped V)) (k : ℕ) : Type 0 where
  pub done : (i : ℕ) → i < k → SettledAt eq x place r work i
  pub todo : (i : ℕ) → k * (length x.members - suc r) ≤ i → i < path_count (length x.members - 1) (suc r) → SettledAt eq x place (suc r) work i

settled_moved : {V : Type 0} (eq : V → V → Bool) (x : Ear V) (place r i : ℕ) (work new : List (Wrapped V)) → get_or new i (Fault 0) ≡ get_or work i (Fault 0) → SettledAt eq x place r work i → SettledAt eq x place r new i
settled_moved eq x place r i work new e h = λ off. e ∙ h off

before_terms : (i k w : ℕ) → i < k → (i < k * w) ⊎ (k * w + w ≤ i)
before_terms i k zero h = inr (omega arith)
before_terms i k (suc w) h = inl (omega (arith, at_most k w))
  where
    at_most : (k w : ℕ) → k ≤ k * suc w
    at_most k w = omega arith

past_place : (i k w : ℕ) → 0 < w → (k + 1) * w ≤ i → k < i
past_place i k zero some h = absurd (omega arith)
past_place i k (suc w) some h = omega arith

next_terms : (k w : ℕ) → (k + 1) * w ≡ k * w + w
next_terms k w = omega arith

-- the terms of each path are among the paths of one relay more
pub terms_within : (n r k : ℕ) → k < path_count (n - 1) r → k * (n - suc r) + (n - suc r) ≤ path_count (n - 1) (suc r)
terms_within n r k h = omega (arith, longer_count n r, terms_fit k (path_count (n - 1) r) (n - suc r) h)

pub halfway_more : {V : Type 0} (eq : V → V → Bool) (x : Ear V) (place r k : ℕ) (work : List (Wrapped V)) (own value : Wrapped V) → Distinct x.members → place < length x.members → suc r ≤ x.rounds
    → IsHalfway eq x place r work k → k < path_count (length x.members - 1) r → path_count (length x.members - 1) (suc r) ≤ length work → k < length work
    → own ≡ own_term x (relay_path x.members place r k)
    → value ≡ unwrapped (majority eq (take (length x.members - suc r) (drop (k * (length x.members - suc r)) (laid_own (outside x.members (relay_path x.members place r k)) x.me (k * (length x.members - suc r)) own work))))
    → IsHalfway eq x place r (set (laid_own (outside x.members (relay_path x.members place r k)) x.me (k * (length x.members - suc r)) own work) k value) (k + 1)
halfway_more {V} eq x place r k work own value d low short h within room here is v =
    let w : ℕ = length x.members - suc r in
    let p : List ℕ = relay_path x.members place r k in
    let listed = relay_listed x.members place r k d low within in
    let others : List ℕ = outside x.members p in
    let many : length others ≡ w = length-outside x.members p d listed.distinct listed.within ∙ ap (λ (n : ℕ). length x.members - n) listed.long in
    let laid : List (Wrapped V) = laid_own others x.me (k * w) own work in
    let new : List (Wrapped V) = set laid k value in
    let fits = terms_within (length x.members) r k within in
    record {
      done = λ i l. elim (cases_eq i k) [
        | inl e ↦ subst (SettledAt eq x place r new) (sym e) (λ off.
            get_or-set_same laid k value (Fault 0) (omega (arith, length-laid others x.me (k * w) own work)) ∙ v
            ∙ settled_from eq x d place r low short k own work within off is (omega arith) (λ j inside. h.todo (k * w + j) (omega arith) (longer-lt x.members r k j within inside)))
        | inr ne ↦
            let before : i < k = omega arith in
            let out : (i < k * w) ⊎ (k * w + length others ≤ i) = subst (λ (n : ℕ). (i < k * w) ⊎ (k * w + n ≤ i)) (sym many) (before_terms i k w before) in
            settled_moved eq x place r i work new (get_or-set_other laid k i value (Fault 0) ne ∙ laid_outside others x.me (k * w) i own work out) (h.done i before)
      ];
      todo = λ i from l.
          let some : 0 < w = some_width i (path_count (length x.members - 1) r) w (omega (arith, longer_count (length x.members) r)) in
          let past : k < i = past_place i k w some from in
          let ne : i ≢ k = λ e. omega arith in
          let out : (i < k * w) ⊎ (k * w + length others ≤ i) = inr (omega (arith, next_terms k w)) in
          settled_moved eq x place (suc r) i work new (get_or-set_other laid k i value (Fault 0) ne ∙ laid_outside others x.me (k * w) i own work out) (h.todo i (omega (arith, next_terms k w)) l);
    }

pub halfway_start : {V : Type 0} (eq : V → V → Bool) (x : Ear V) (place r s : ℕ) (work : List (Wrapped V)) → s ≡ suc r → AreSettled eq x place s work → IsHalfway eq x place r work 0
halfway_start eq x place r s work e h = record {
  done = λ i l. absurd (omega arith);
  todo = λ i from l. subst (λ (t : ℕ). AreSettled eq x place t work) e h i l;
}

pub halfway_end : {V : Type 0} (eq : V → V → Bool) (x : Ear V) (place r k : ℕ) (work : List (Wrapped V)) → path_count (length x.members - 1) r ≤ k → IsHalfway eq x place r work k → AreSettled eq x place r work
halfway_end eq x place r k work past h = λ i l. h.done i (omega arith)

-- ---- the numbers that the code works with

pub first_few : (capacity nodes rounds : ℕ) (members : List ℕ) (count place r paths : ℕ) → IsStation capacity nodes rounds members count → place < length members → r ≤ rounds → paths ≡ path_count (count - 1) r
    → (paths ≤ 65536) × (place * paths ≤ 1048576)
first_few capacity nodes rounds members count place r paths s low short e =
    let cap = capacity-le capacity s.capacity_ok in
    let few = path_count-few (count - 1) r (omega (arith, s.few_ok, s.nodes_ok)) (omega (arith, s.rounds_ok)) in
    let paths_few : paths ≤ 65536 = omega arith in
    (paths_few, omega (arith, product_few place paths (omega (arith, s.count_ok, s.few_ok, s.nodes_ok)) paths_few))

end_of : (place p q : ℕ) (members : List ℕ) (r : ℕ) → p ≡ path_count (length members - 1) r → place < length members → q ≡ path_count (length members) (suc r) → place * p + p ≤ q
end_of place p q members r e low is = omega (arith, is, terms_fit place (length members) (path_count (length members - 1) r) low, ap (λ (n : ℕ). place * n) e)

pub branch_is : (capacity nodes rounds : ℕ) (members : List ℕ) (count place r : ℕ) (b : Branch) → IsStation capacity nodes rounds members count → place < length members → r ≤ rounds
    → section_at nodes r ≤ 262144 → b.paths ≡ path_count (count - 1) r → b.first ≡ place * b.paths → b.begins ≡ section_at nodes r + b.first → IsBranch nodes rounds members place r b
branch_is capacity nodes rounds members count place r b s low short small p f e =
    let few = first_few capacity nodes rounds members count place r b.paths s low short p in
    let are : b.paths ≡ path_count (length members - 1) r = paths_is b.paths count (length members) r p s.count_ok in
    let is : r + 1 ≡ suc r = omega arith in
    let last : b.first + b.paths ≤ path_count (length members) (r + 1) = omega (arith, f, end_of place b.paths (path_count (length members) (r + 1)) members r are low (ap (path_count (length members)) is)) in
    record {
      paths_are = are;
      first_is = f ∙ ap (λ (n : ℕ). place * n) are;
      begins_is = e;
      listed = last;
      within = omega (arith, e, last, section_at-le nodes (r + 1) (rounds + 1) (omega arith), section_at-next nodes r, more_paths (length members) nodes (r + 1) (omega (arith, s.count_ok, s.few_ok)));
      room = omega (arith, are, room_enough nodes (length members) r rounds (omega (arith, s.count_ok, s.few_ok)) short);
      few = few.0;
      small = omega (arith, small, e, f, few.0, few.1);
    }

-- ---- a step of the code's loop

pub flat_place-relay : (nodes : ℕ) (members : List ℕ) (place r k : ℕ) → Distinct members → place < length members → k < path_count (length members - 1) r
    → flat_place nodes members (relay_path members place r k) ≡ section_at nodes r + (place * path_count (length members - 1) r + k)
flat_place-relay nodes members place r k d low within =
    let p : List ℕ = relay_path members place r k in
    let listed = relay_listed members place r k d low within in
    let at : place_in (paths_of_length members (length p)) p ≡ place * path_count (length members - 1) r + k =
    ap (λ (n : ℕ). place_in (paths_of_length members n) p) listed.long ∙ place-path_at members (suc r) (place * path_count (length members - 1) r + k) d (relay_place-lt members place r k low within) in
    let section : section_at nodes (length p - 1) ≡ section_at nodes r = ap (section_at nodes) (omega (arith, listed.long)) in
    omega (arith, at, section)

-- the path that the code finds
path_is : (members path : List ℕ) (place r k first : ℕ) → path ≡ path_at (paths_of_length members (r + 1)) (first + k) → first ≡ place * path_count (length members - 1) r → path ≡ relay_path members place r k
path_is members path place r k first e f =
    let s : r + 1 ≡ suc r = omega arith in
    e ∙ ap₂ (λ (n i : ℕ). path_at (paths_of_length members n) (i + k)) s f

width_outside : (members path : List ℕ) (place r k width : ℕ) → Distinct members → place < length members → k < path_count (length members - 1) r → path ≡ relay_path members place r k → width ≡ length members - suc r
    → width ≡ length (outside members path)
width_outside members path place r k width d low within p w =
    let listed = relay_listed members place r k d low within in
    w ∙ ap (λ (n : ℕ). length members - n) (sym listed.long)
    ∙ sym (length-outside members (relay_path members place r k) d listed.distinct listed.within) ∙ ap (λ (ns : List ℕ). length (outside members ns)) (sym p)

-- the k-th path of a branch, and room for its terms
pub record IsStep (members path : List ℕ) (place r k width work : ℕ) : Type 0 where
  pub inside : k < path_count (length members - 1) r
  pub path_at : path ≡ relay_path members place r k
  pub width_is : width ≡ length members - suc r
  pub width_at : width ≡ length (outside members path)
  pub terms : k * width + width ≤ work
  pub terms_few : k * width + width ≤ 65536
  pub longer : path_count (length members - 1) (suc r) ≤ work
  pub here : k < work

pub step_of : {V : Type 0} (capacity nodes rounds : ℕ) (members path : List ℕ) (count place r k width : ℕ) (b : Branch) (flat work : List (Wrapped V)) → IsStation capacity nodes rounds members count → IsRoom nodes rounds flat work
    → place < length members → r < rounds → IsBranch nodes rounds members place r b → k < b.paths → path ≡ path_at (paths_of_length members (r + 1)) (b.first + k) → width ≡ count - (r + 1)
    → IsStep members path place r k width (length work)
step_of capacity nodes rounds members path count place r k width b flat work s room low short branch k-low p w =
    let inside : k < path_count (length members - 1) r = omega (arith, branch.paths_are) in
    let at : path ≡ relay_path members place r k = path_is members path place r k b.first p branch.first_is in
    let width_is : width ≡ length members - suc r = omega (arith, w, s.count_ok) in
    let product : k * width ≡ k * (length members - suc r) = ap (λ (n : ℕ). k * n) width_is in
    let fits = terms_within (length members) r k inside in
    let longer : path_count (length members - 1) (suc r) ≤ length work = omega (arith, room.work_ok, room_enough nodes (length members) (suc r) rounds (omega (arith, s.count_ok, s.few_ok)) short) in
    let cap = capacity-le capacity s.capacity_ok in
    let few = path_count-few (length members - 1) (suc r) (omega (arith, s.count_ok, s.few_ok, s.nodes_ok)) (omega (arith, s.rounds_ok)) in
    record {
      inside = inside;
      path_at = at;
      width_is = width_is;
      width_at = width_outside members path place r k width (Distinct-ids capacity members s.members_ok) low inside at width_is;
      terms = omega (arith, product, width_is, fits, longer);
      terms_few = omega (arith, product, width_is, fits, few);
      longer = longer;
      here = omega (arith, branch.room, room.work_ok);
    }

-- what the code reads is what was heard for the path
pub heard_is : {V : Type 0} (nodes : ℕ) (members : List ℕ) (flat : List (Wrapped V)) (path : List ℕ) (place r k at : ℕ) (item : Wrapped V) → Distinct members → place < length members → k < path_count (length members - 1) r
    → path ≡ relay_path members place r k → at ≡ section_at nodes r + (place * path_count (length members - 1) r + k) → at < length flat → item ≡ get_or flat at item → item ≡ flat_heard nodes members flat path
heard_is nodes members flat path place r k at item d low within p i room is =
    is ∙ get_or_default flat at item (Fault 0) room
    ∙ ap (λ (n : ℕ). get_or flat n (Fault 0)) (i ∙ sym (flat_place-relay nodes members place r k d low within) ∙ ap (flat_place nodes members) (sym p))

pub loop_more : {V : Type 0} (eq : V → V → Bool) (x : Ear V) (place r k : ℕ) (path : List ℕ) (width : ℕ) (work new : List (Wrapped V)) (item own : Wrapped V) → Distinct x.members → place < length x.members → suc r ≤ x.rounds
    → IsHalfway eq x place r work k → k < path_count (length x.members - 1) r → path_count (length x.members - 1) (suc r) ≤ length work → k < length work
    → path ≡ relay_path x.members place r k → width ≡ length x.members - suc r → item ≡ x.heard path → own ≡ (if x.full then wrapped item else Fault 0)
    → new ≡ path_settled eq (outside x.members path) x.me k width own work
    → IsHalfway eq x place r new (k + 1)
loop_more {V} eq x place r k path width work new item own d low short h within room here p w heard o n =
    let real : List ℕ = relay_path x.members place r k in
    let own_is : own ≡ own_term x real = o ∙ ap (λ (u : Wrapped V). if x.full then wrapped u else Fault 0) (heard ∙ ap x.heard p) in
    let v : ℕ = length x.members - suc r in
    let value : Wrapped V = unwrapped (majority eq (take v (drop (k * v) (laid_own (outside x.members real) x.me (k * v) own work)))) in
    let new_is : new ≡ set (laid_own (outside x.members real) x.me (k * v) own work) k value =
    n ∙ ap₂ (λ (ns : List ℕ) (m : ℕ). path_settled eq (outside x.members ns) x.me k m own work) p w in
    subst (λ (ts : List (Wrapped V)). IsHalfway eq x place r ts (k + 1)) (sym new_is) (halfway_more eq x place r k work own value d low short h within room here own_is refl)

pub room_more : {V : Type 0} (eq : V → V → Bool) (nodes rounds : ℕ) (flat work new : List (Wrapped V)) (outside : List ℕ) (me k width : ℕ) (own : Wrapped V) → IsRoom nodes rounds flat work → new ≡ path_settled eq outside me k width own work → IsRoom nodes rounds flat new
room_more eq nodes rounds flat work new outside me k width own room n =
    record { flat_ok = room.flat_ok; work_ok = ap length n ∙ length-settled eq outside me k width own work ∙ room.work_ok; known = room.known }

-- ---- from the longest paths to the commander's own

pub copied_settled : {V : Type 0} (eq : V → V → Bool) (nodes rounds : ℕ) (members : List ℕ) (me : ℕ) (full : Bool) (flat work new : List (Wrapped V)) (place : ℕ) (b : Branch) → Distinct members → place < length members
    → IsBranch nodes rounds members place rounds b → length flat ≡ section_at nodes (rounds + 1) → new ≡ take b.paths (drop b.begins flat) ++ drop b.paths work
    → AreSettled eq (flat_ear nodes rounds members me full flat) place rounds new
copied_settled {V} eq nodes rounds members me full flat work new place b d low branch long is k within off =
    let x : Ear V = flat_ear nodes rounds members me full flat in
    let p : List ℕ = relay_path members place rounds k in
    let listed = relay_listed members place rounds k d low within in
    let front : List (Wrapped V) = take b.paths (drop b.begins flat) in
    let inside : k < b.paths = omega (arith, branch.paths_are) in
    let here : k < length front = omega (arith, length-take b.paths (drop b.begins flat), length-drop b.begins flat, branch.within) in
    ap (λ (ts : List (Wrapped V)). get_or ts k (Fault 0)) is
    ∙ get_or_append_left front (drop b.paths work) (Fault 0) k here
    ∙ get_or-take b.paths (drop b.begins flat) k (Fault 0) inside ∙ get_or-drop b.begins flat k (Fault 0)
    ∙ ap (λ (i : ℕ). get_or flat i (Fault 0)) (omega (arith, branch.begins_is, branch.first_is, flat_place-relay nodes members place rounds k d low within))
    ∙ sym (settled_at_end eq x p (omega (arith, listed.long)))

pub copied_room : {V : Type 0} (nodes rounds : ℕ) (flat work new : List (Wrapped V)) (begins longest : ℕ) → IsRoom nodes rounds flat work → longest ≤ length work → begins + longest ≤ length flat
    → new ≡ take longest (drop begins flat) ++ drop longest work → IsRoom nodes rounds flat new
copied_room nodes rounds flat work new begins longest room low inside is = record {
  flat_ok = room.flat_ok;
  work_ok = ap length is ∙ omega (arith, length-append (take longest (drop begins flat)) (drop longest work), length-take-le longest (drop begins flat) (omega (arith, length-drop begins flat)), length-drop longest work, room.work_ok);
  known = room.known;
}

pub relay_root : (members : List ℕ) (c place : ℕ) → Distinct members → has_id members c ≡ true → place ≡ index_in members c → relay_path members place 0 0 ≡ c ∷ []
relay_root members c place d on e =
    let i : place * 1 + 0 ≡ place = omega arith in
    ap (path_at (paths_of_length members 1)) (i ∙ e ∙ sym (single_place members c d on))
    ∙ path_at-place (paths_of_length members 1) (c ∷ []) (omega (arith, single_place members c d on, index_in-lt members c on, length-paths members 1 d))

pub settled_moved_to : {V : Type 0} (eq : V → V → Bool) (x : Ear V) (place r s : ℕ) (work : List (Wrapped V)) → r ≡ s → AreSettled eq x place r work → AreSettled eq x place s work
settled_moved_to eq x place r s work e h = subst (λ (t : ℕ). AreSettled eq x place t work) e h

-- at the end the first value is what is settled for the commander
pub root_settled : {V : Type 0} (eq : V → V → Bool) (x : Ear V) (place c r : ℕ) (work : List (Wrapped V)) (value : Wrapped V) → Distinct x.members → has_id x.members c ≡ true → c ≢ x.me → place ≡ index_in x.members c → r ≡ 0 → AreSettled eq x place r work
    → value ≡ get_or work 0 (Fault 0) → value ≡ settled_at eq x (c ∷ [])
root_settled eq x place c r work value d on ne e z h v =
    let root : relay_path x.members place 0 0 ≡ c ∷ [] = relay_root x.members c place d on e in
    let off : has_id (relay_path x.members place 0 0) x.me ≡ false = ap (λ (ns : List ℕ). has_id ns x.me) root ∙ alone c x.me ne in
    v ∙ settled_moved_to eq x place r 0 work z h 0 (omega arith) off ∙ ap (settled_at eq x) root
  where
    alone : (c me : ℕ) → c ≢ me → has_id (c ∷ []) me ≡ false
    alone c me ne = ap (λ (b : Bool). b || false) (ne_eqb c me ne)
