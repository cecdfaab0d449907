-- The steps of counting, of ranking and of unranking.
use Rattle.std.proofs.Common.{ℕ, zero, suc, ◌≡◌, ◌<◌, ◌≤◌, ◌+◌, ◌-◌, ◌*◌, ◌/◌, ◌%◌, true, ◌==◌, List, [], ◌∷◌, ◌++◌, length, drop, get_or, refl, sym, ap, ap₂, subst, ◌∙◌, arith, eq-eqb, append-nil}
use Rattle.std.proofs.lemmas.Bool.{or_left}
use Rattle.std.proofs.lemmas.List.{append_assoc, length-append, get_or-append-add}
use Rattle.std.proofs.lemmas.Nat.{div-mul-add, mod-mul-add}
use Rattle.std.proofs.Math.Nat.{mul-le-mul, mod-lt, div-lt_iff_lt-mul}
use Rattle.std.proofs.Math.Seq.{drop-cons}
use Rattle.node_grid.specs.NodeSet.{has_id, without_id, IsIdSet}
use Rattle.node_grid.specs.NodeSetLaws.{length-ids}
use Rattle.node_grid.specs.Count.{Distinct}
use Rattle.node_grid.specs.NumberFacts.{some_width}
use Rattle.node_grid.specs.SetFacts.{member-lt}
use Rattle.omh_paths.specs.Paths.{paths_of_length, path_count, place_in, path_at, index_in}
use Rattle.omh_paths.specs.MemberLaws.{path_count-few, Distinct-ids}
use Rattle.omh_paths.specs.PathLists.{Distinct-without, length-without, place-cons, place-lt, path_at-step, rest_within, has-at, has-of-without, IsListed-at}

-- ---- ranking

at_most_product : (p w : ℕ) → 0 < w → p ≤ p * w
at_most_product p zero h = absurd (omega arith)
at_most_product p (suc w) h = omega arith

-- the place so far, over the members that are left for the rest of the path
pub record IsRanked (n : ℕ) (s path left rest : List ℕ) (place : ℕ) : Type 0 where
  pub total : place * path_count (length left) (length rest) + place_in (paths_of_length left (length rest)) rest ≡ place_in (paths_of_length s (length path)) path
  pub distinct : Distinct left
  pub few : length left ≤ 16
  pub low : (q : ℕ) → has_id left q ≡ true → q < n
  pub real : Distinct rest
  pub within : (q : ℕ) → has_id rest q ≡ true → has_id left q ≡ true

pub ranked_start : (n : ℕ) (s path : List ℕ) → n ≤ 16 → IsIdSet n s → Distinct path → ((q : ℕ) → has_id path q ≡ true → has_id s q ≡ true) → IsRanked n s path s path 0
ranked_start n s path h ids real within = record {
  total = omega arith;
  distinct = Distinct-ids n s ids;
  few = omega (arith, length-ids n s ids);
  low = λ q on. member-lt n s q ids on;
  real = real;
  within = within;
}

regroup : (p m w i r : ℕ) → p * (m * w) + (i * w + r) ≡ (p * m + i) * w + r
regroup p m w i r = omega arith

pub head_within : {n : ℕ} {s path left : List ℕ} {place : ℕ} (c : ℕ) (cs : List ℕ) → IsRanked n s path left (c ∷ cs) place → has_id left c ≡ true
head_within c cs h = h.within c (or_left (c == c) (has_id cs c) (eq-eqb c c refl))

pub ranked_more : {n : ℕ} {s path left : List ℕ} {place : ℕ} (c : ℕ) (cs : List ℕ) → IsRanked n s path left (c ∷ cs) place
    → IsRanked n s path (without_id left c) cs (place * length left + index_in left c)
ranked_more {n} {s} {path} {left} {place} c cs h =
    let on : has_id left c ≡ true = head_within c cs h in
    let w : ℕ = path_count (length left - 1) (length cs) in
    let short : length (without_id left c) ≡ length left - 1 = length-without left c h.distinct on in
    let within = rest_within left c cs h.real.0 h.within in
    let later : ℕ = place_in (paths_of_length (without_id left c) (length cs)) cs in
    let low : later < w = subst (λ (k : ℕ). later < path_count k (length cs)) short (place-lt (without_id left c) cs (Distinct-without left c h.distinct) h.real.1 within) in
    record {
      total =
          ap (λ (k : ℕ). (place * length left + index_in left c) * path_count k (length cs) + later) short
          ∙ sym (regroup place (length left) w (index_in left c) later)
          ∙ ap (λ (k : ℕ). place * (length left * w) + k) (sym (place-cons left (length cs) c cs h.distinct on low))
          ∙ h.total;
      distinct = Distinct-without left c h.distinct;
      few = omega (arith, h.few, short);
      low = λ q q-on. h.low q (has-of-without left c q q-on);
      real = h.real.1;
      within = within;
    }

-- the place so far is at most the whole place, so it stays small
pub place_bound : {n : ℕ} {s path left rest : List ℕ} {place : ℕ} → IsRanked n s path left rest place → Distinct s → length s ≤ 16 → Distinct path → ((q : ℕ) → has_id path q ≡ true → has_id s q ≡ true) → length path ≤ 4 → place < 65536
place_bound {n} {s} {path} {left} {rest} {place} h distinct few real within short =
    let some : 0 < path_count (length left) (length rest) = omega (arith, place-lt left rest h.distinct h.real h.within) in
    omega (arith, at_most_product place (path_count (length left) (length rest)) some, h.total, place-lt s path distinct real within, path_count-few (length s) (length path) few short)

pub ranked_end : {n : ℕ} {s path left : List ℕ} {place : ℕ} → IsRanked n s path left [] place → place ≡ place_in (paths_of_length s (length path)) path
ranked_end h = omega (arith, h.total)

-- ---- unranking

-- the nodes so far, and the place among the paths of the rest over the members that are left
pub record IsUnranked (n : ℕ) (s : List ℕ) (len index : ℕ) (front left : List ℕ) (r rest : ℕ) : Type 0 where
  pub path : path_at (paths_of_length s len) index ≡ front ++ path_at (paths_of_length left r) rest
  pub in_range : rest < path_count (length left) r
  pub distinct : Distinct left
  pub few : length left ≤ 16
  pub low : (q : ℕ) → has_id left q ≡ true → q < n

pub unranked_start : (n : ℕ) (s : List ℕ) (len index : ℕ) → n ≤ 16 → IsIdSet n s → index < path_count (length s) len → IsUnranked n s len index [] s (len - 0) index
unranked_start n s len index h ids low =
    let e : len ≡ len - 0 = omega arith in
    subst (λ (r : ℕ). IsUnranked n s len index [] s r index) e (record {
      path = refl;
      in_range = low;
      distinct = Distinct-ids n s ids;
      few = omega (arith, length-ids n s ids);
      low = λ q on. member-lt n s q ids on;
    })

pub some_behind : {n : ℕ} {s : List ℕ} {len index : ℕ} {front left : List ℕ} {rest : ℕ} (r : ℕ) → IsUnranked n s len index front left (suc r) rest → 0 < path_count (length left - 1) r
some_behind {n} {s} {len} {index} {front} {left} {rest} r h = some_width rest (length left) (path_count (length left - 1) r) h.in_range

pub first_place : {n : ℕ} {s : List ℕ} {len index : ℕ} {front left : List ℕ} {rest : ℕ} (r : ℕ) → IsUnranked n s len index front left (suc r) rest → rest / path_count (length left - 1) r < length left
first_place {n} {s} {len} {index} {front} {left} {rest} r h = (div-lt_iff_lt-mul (some_behind r h)).1 h.in_range

pub unranked_more : {n : ℕ} {s : List ℕ} {len index : ℕ} {front left : List ℕ} {rest : ℕ} (r q : ℕ) → IsUnranked n s len index front left (suc r) rest
    → q ≡ get_or left (rest / path_count (length left - 1) r) 0 → IsUnranked n s len index (front ++ q ∷ []) (without_id left q) r (rest % path_count (length left - 1) r)
unranked_more {n} {s} {len} {index} {front} {left} {rest} r q h is =
    let w : ℕ = path_count (length left - 1) r in
    let at : List ℕ → Type 0 = λ xs. path_at (paths_of_length s len) index ≡ xs in
    let on : has_id left q ≡ true = ap (has_id left) is ∙ has-at left (rest / w) 0 (first_place r h) in
    let short : length (without_id left q) ≡ length left - 1 = length-without left q h.distinct on in
    record {
      path =
          h.path ∙ ap (λ (xs : List ℕ). front ++ xs) (path_at-step left r rest 0 h.distinct h.in_range)
          ∙ ap (λ (x : ℕ). front ++ x ∷ path_at (paths_of_length (without_id left x) r) (rest % w)) (sym is)
          ∙ sym (append_assoc front (q ∷ []) (path_at (paths_of_length (without_id left q) r) (rest % w)));
      in_range = subst (λ (k : ℕ). rest % w < path_count k r) (sym short) (mod-lt rest (some_behind r h));
      distinct = Distinct-without left q h.distinct;
      few = omega (arith, h.few, short);
      low = λ x x-on. h.low x (has-of-without left q x x-on);
    }

-- at the end the nodes are the path
pub unranked_end : {n : ℕ} {s : List ℕ} {len index : ℕ} {front left : List ℕ} {rest : ℕ} → IsUnranked n s len index front left 0 rest → front ≡ path_at (paths_of_length s len) index
unranked_end {n} {s} {len} {index} {front} {left} {rest} h =
    let z : rest ≡ 0 = omega (arith, h.in_range) in
    sym (h.path ∙ ap (λ (k : ℕ). front ++ path_at ([] ∷ []) k) z ∙ append-nil front)

pub distinct_end : (n : ℕ) (s : List ℕ) (len index : ℕ) (path : List ℕ) → IsIdSet n s → index < path_count (length s) len → path ≡ path_at (paths_of_length s len) index → Distinct path
distinct_end n s len index path ids low is = subst Distinct (sym is) (IsListed-at s len index (Distinct-ids n s ids) low).distinct

-- ---- as the code goes

pub drop_node : (path : List ℕ) (k node : ℕ) → k < length path → node ≡ get_or path k 0 → drop k path ≡ node ∷ drop (k + 1) path
drop_node path k node here is =
    let e : suc k ≡ k + 1 = omega arith in
    drop-cons path k 0 here ∙ ap₂ (λ (x j : ℕ). x ∷ drop j path) (sym is) e

pub ranked_at : {n : ℕ} {s path left : List ℕ} {place : ℕ} (k node : ℕ) → IsRanked n s path left (drop k path) place → k < length path → node ≡ get_or path k 0 → IsRanked n s path left (node ∷ drop (k + 1) path) place
ranked_at {n} {s} {path} {left} {place} k node h here is = subst (λ (xs : List ℕ). IsRanked n s path left xs place) (drop_node path k node here is) h

pub product_small : (p m : ℕ) → p < 65536 → m ≤ 16 → p * m ≤ 1048576
product_small p m h l =
    let q : p ≤ 65536 = omega arith in
    omega (arith, mul-le-mul q l)

pub unranked_at : {n : ℕ} {s : List ℕ} {len index : ℕ} {front left : List ℕ} {rest : ℕ} (k : ℕ) → IsUnranked n s len index front left (len - k) rest → k < len → IsUnranked n s len index front left (suc (len - k - 1)) rest
unranked_at {n} {s} {len} {index} {front} {left} {rest} k h l =
    let e : len - k ≡ suc (len - k - 1) = omega arith in
    subst (λ (r : ℕ). IsUnranked n s len index front left r rest) e h

-- one member's share of an index was not reached, or is left behind
pub place_reached : (set seen later : List ℕ) (x index behind rest : ℕ) → set ≡ seen ++ x ∷ later → index ≡ length seen * behind + rest → rest < behind → x ≡ get_or set (index / behind) 0
place_reached set seen later x index behind rest split is within =
    let place : index / behind ≡ length seen = ap (λ (n : ℕ). n / behind) is ∙ div-mul-add (length seen) behind rest within in
    let zero_on : length seen + 0 ≡ index / behind = omega (arith, place) in
    sym (ap₂ (λ (xs : List ℕ) (k : ℕ). get_or xs k 0) split (sym zero_on) ∙ get_or-append-add seen (x ∷ later) 0 0)

pub rest_reached : (seen : List ℕ) (index behind rest : ℕ) → index ≡ length seen * behind + rest → rest < behind → rest ≡ index % behind
rest_reached seen index behind rest is within = sym (ap (λ (n : ℕ). n % behind) is ∙ mod-mul-add (length seen) behind rest within)

share : (n behind rest : ℕ) → behind ≤ rest → n * behind + rest ≡ (n + 1) * behind + (rest - behind)
share n behind rest l = omega arith

pub place_passed : (seen : List ℕ) (x index behind rest : ℕ) → index ≡ length seen * behind + rest → behind ≤ rest → index ≡ length (seen ++ x ∷ []) * behind + (rest - behind)
place_passed seen x index behind rest is l =
    let more : length (seen ++ x ∷ []) ≡ length seen + 1 = length-append seen (x ∷ []) in
    is ∙ share (length seen) behind rest l ∙ ap (λ (n : ℕ). n * behind + (rest - behind)) (sym more)
