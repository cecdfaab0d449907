-- What is laid for the paths of one relay more.
use Rattle.std.proofs.Common.{ℕ, suc, ◌≡◌, ◌≢◌, ◌<◌, ◌≤◌, ◌+◌, ◌-◌, ◌*◌, true, List, length, get_or, set, sym, ap, subst, ◌∙◌, inl, inr, arith}
use Rattle.std.specs.Prelude.{Option, if◌then◌else◌}
use Rattle.std.proofs.lemmas.Bool.{cases_lt}
use Rattle.std.proofs.lemmas.List.{get_or-set_same}
use Rattle.node_grid.specs.NodeSet.{has_id}
use Rattle.node_grid.specs.Count.{Distinct}
use Rattle.omh_paths.specs.declared.wrapped.Wrapped.{Wrapped}
use Rattle.omh_paths.specs.declared.wrapped.Wrapped.TheVariants.{Plain, Fault}
use Rattle.omh_paths.specs.Wrapped.{wrapped}
use Rattle.omh_paths.specs.Paths.{outside, path_count, index_in}
use Rattle.omh.specs.Flat.{relay_path}
use Rattle.omh.specs.Written.{IsSmall}
use Rattle.omh.proofs.Folding.{relay_listed, relay_root}
use Rattle.omh.specs.Facts.{relay_path-push}
use Rattle.settled_paths.specs.Passing.{or_passed, passed}
use Rattle.settled_paths.specs.Levels.{level_at, level_value, AreLaid, AreSmall}
use Rattle.settled_paths.proofs.Places.{level_within}
use Rattle.settled_paths.proofs.Passes.{passed_push}

-- ---- errors that were wrapped a few times

pub small_more : {V : Type 0} (a b : ℕ) (v : Wrapped V) → a ≤ b → IsSmall a v → IsSmall b v
small_more a b (Plain v) le h = tt
small_more a b (Fault k) le h = omega arith

pub small_wrapped : {V : Type 0} (a : ℕ) (v : Wrapped V) → IsSmall a v → IsSmall (a + 1) (wrapped v)
small_wrapped a (Plain v) h = tt
small_wrapped a (Fault k) h = omega arith

pub small_known : {V : Type 0} (v : Wrapped V) → IsSmall 254 v → v ≢ Fault 255
small_known (Plain v) h e = cc
small_known (Fault k) h e = let n : k ≡ 255 = cc in absurd (omega arith)

-- ---- the terms of one path more

pub layer_more : {W : Type 0} (P : ℕ → W → Type 0) (laid new : List W) (d : W) (next k w from : ℕ) → from ≡ next + k * w
    → ((i : ℕ) → i < k * w → P i (get_or laid (next + i) d)) → ((i : ℕ) → i < from → get_or new i d ≡ get_or laid i d) → ((j : ℕ) → j < w → P (k * w + j) (get_or new (from + j) d))
    → (i : ℕ) → i < (k + 1) * w → P i (get_or new (next + i) d)
layer_more {W} P laid new d next k w from at before kept here i l = elim (cases_lt i (k * w)) [
  | inl low ↦ subst (P i) (sym (kept (next + i) (omega arith))) (before i low)
  | inr high ↦
      let j : ℕ = i - k * w in
      let inside : j < w = omega arith in
      let e : k * w + j ≡ i = omega arith in
      let f : from + j ≡ next + i = omega arith in
      subst (λ (a : ℕ). P i (get_or new a d)) f (subst (λ (a : ℕ). P a (get_or new (from + j) d)) e (here j inside))
]

-- then all of them are
pub layer_all : {V : Type 0} (P : ℕ → ℕ → Wrapped V → Type 0) (members : List ℕ) (relays next : ℕ) (laid new : List (Wrapped V)) → next ≡ level_at (length members - 1) (suc relays)
    → ((r k : ℕ) → r ≤ relays → k < path_count (length members - 1) r → P r k (level_value members r k laid)) → ((i : ℕ) → i < next → get_or new i (Fault 0) ≡ get_or laid i (Fault 0))
    → ((k : ℕ) → k < path_count (length members - 1) (suc relays) → P (suc relays) k (get_or new (next + k) (Fault 0)))
    → (r k : ℕ) → r ≤ relays + 1 → k < path_count (length members - 1) r → P r k (level_value members r k new)
layer_all {V} P members relays next laid new at before kept here r k few within = elim (cases_lt r (suc relays)) [
  | inl low ↦
      let inside = level_within (length members - 1) r k (suc relays) within low in
      subst (P r k) (sym (kept (level_at (length members - 1) r + k) (omega (arith, inside)))) (before r k (omega arith) within)
  | inr high ↦
      let e : suc relays ≡ r = omega arith in
      last r k e within
]
  where
    last : (r k : ℕ) → suc relays ≡ r → k < path_count (length members - 1) r → P r k (level_value members r k new)
    last r k e within =
        subst (λ (a : ℕ). k < path_count (length members - 1) a → P a k (level_value members a k new)) e
        (λ inside. subst (λ (a : ℕ). P (suc relays) k (get_or new (a + k) (Fault 0))) at (here k inside)) within

-- what is laid for the members outside a path is what they pass on
pub layer_term : {V : Type 0} (full : List ℕ) (own : Wrapped V) (says : ℕ → List ℕ → Option (Wrapped V)) (members path : List ℕ) (place r k j w : ℕ) (before value : Wrapped V) → Distinct members → place < length members
    → k < path_count (length members - 1) r → j < w → w ≡ length members - suc r → path ≡ relay_path members place r k → before ≡ passed full own says (relay_path members place r k)
    → value ≡ (if has_id full (get_or (outside members path) j 0) then wrapped (or_passed (says (get_or (outside members path) j 0) path) before) else Fault 0)
    → value ≡ passed full own says (relay_path members place (suc r) (k * w + j))
layer_term {V} full own says members path place r k j w before value d low within inside w-is path-is b v =
    let p : List ℕ = relay_path members place r k in
    let listed = relay_listed members place r k d low within in
    v ∙ ap (λ (u : Wrapped V). if has_id full (get_or (outside members path) j 0) then wrapped (or_passed (says (get_or (outside members path) j 0) path) u) else Fault 0) b
    ∙ ap (λ (ns : List ℕ). if has_id full (get_or (outside members ns) j 0) then wrapped (or_passed (says (get_or (outside members ns) j 0) ns) (passed full own says p)) else Fault 0) path-is
    ∙ sym (passed_push full own says p (get_or (outside members p) j 0) (omega (arith, listed.long)))
    ∙ ap (passed full own says) (sym (relay_path-push members place r k j d low within (omega arith)))
    ∙ ap (λ (a : ℕ). passed full own says (relay_path members place (suc r) (k * a + j))) (sym w-is)

-- ---- the commander's own

pub first_laid : {V : Type 0} (members full : List ℕ) (own : Wrapped V) (says : ℕ → List ℕ → Option (Wrapped V)) (c place : ℕ) (laid new : List (Wrapped V)) → Distinct members → has_id members c ≡ true → place ≡ index_in members c
    → 0 < length laid → new ≡ set laid 0 own → AreLaid members full own says place 0 new
first_laid {V} members full own says c place laid new d on at room puts r k few within =
    let none : 0 ≡ r = omega arith in
    subst (λ (a : ℕ). k < path_count (length members - 1) a → level_value members a k new ≡ passed full own says (relay_path members place a k)) none (λ one. alone k (omega arith)) within
  where
    alone : (k : ℕ) → 0 ≡ k → level_value members 0 k new ≡ passed full own says (relay_path members place 0 k)
    alone k e =
        subst (λ (a : ℕ). level_value members 0 a new ≡ passed full own says (relay_path members place 0 a)) e
        (ap (λ (ts : List (Wrapped V)). get_or ts 0 (Fault 0)) puts ∙ get_or-set_same laid 0 own (Fault 0) room
        ∙ ap (passed full own says) (sym (relay_root members c place d on at)))

pub first_small : {V : Type 0} (members : List ℕ) (own : Wrapped V) (laid new : List (Wrapped V)) → 0 < length laid → new ≡ set laid 0 own → IsSmall 252 own → AreSmall members 0 new
first_small {V} members own laid new room puts small r k few within =
    let none : 0 ≡ r = omega arith in
    subst (λ (a : ℕ). k < path_count (length members - 1) a → IsSmall (252 + a) (level_value members a k new)) none (λ one. alone k (omega arith)) within
  where
    alone : (k : ℕ) → 0 ≡ k → IsSmall (252 + 0) (level_value members 0 k new)
    alone k e =
        subst (λ (a : ℕ). IsSmall (252 + 0) (level_value members 0 a new)) e
        (subst (IsSmall 252) (sym (ap (λ (ts : List (Wrapped V)). get_or ts 0 (Fault 0)) puts ∙ get_or-set_same laid 0 own (Fault 0) room)) small)

-- a list of these in another one's place
pub laid_moved : {V : Type 0} (members full : List ℕ) (own : Wrapped V) (says : ℕ → List ℕ → Option (Wrapped V)) (place r s : ℕ) (laid : List (Wrapped V)) → r ≡ s → AreLaid members full own says place r laid → AreLaid members full own says place s laid
laid_moved members full own says place r s laid e h = subst (λ (a : ℕ). AreLaid members full own says place a laid) e h
