-- Paths of all but one of the members, and those that are one longer.
use Rattle.std.proofs.Common.{ℕ, ◌≡◌, ◌<◌, not, ◌==◌, ◌||◌, true, false, List, [], ◌∷◌, ◌++◌, sym, ap, ◌∙◌, inl, inr, refl, eqb-true, ne_eqb}
use Rattle.std.specs.List.{filter}
use Rattle.std.proofs.lemmas.Bool.{or_cases, both_ways, cases_lt}
use Rattle.node_grid.specs.NodeSet.{has_id, without_id, minus_of, ids_below}
use Rattle.node_grid.specs.NodeSetLaws.{hasnt-filter, filter_every}
use Rattle.node_grid.specs.ListLaws.{has_push}
use Rattle.omh_paths.specs.PathLaws.{off_from}
use Rattle.omh_paths.specs.PathLists.{has-of-without, has-without-left}
use Rattle.omh.specs.HeardLaws.{has-without-me}

-- the nodes of a path are among these
abbrev pub IsAmong : List ℕ → List ℕ → Type 0
IsAmong path nodes = (x : ℕ) → has_id path x ≡ true → has_id nodes x ≡ true

pub among_members : (members others path : List ℕ) (q : ℕ) → others ≡ without_id members q → IsAmong path others → IsAmong path members
among_members members others path q e within x on = has-of-without members q x (ap (λ (s : List ℕ). has_id s x) (sym e) ∙ within x on)

pub avoids : (members others path : List ℕ) (q : ℕ) → others ≡ without_id members q → IsAmong path others → has_id path q ≡ false
avoids members others path q e within = has-without-me members q path (λ x on. ap (λ (s : List ℕ). has_id s x) (sym e) ∙ within x on)

pub root_among : (nodes : List ℕ) (q : ℕ) → has_id nodes q ≡ true → IsAmong (q ∷ []) nodes
root_among nodes q member x on = elim (or_cases (q == x) false on) [
  | inl e ↦ ap (has_id nodes) (sym (eqb-true q x e)) ∙ member
  | inr never ↦ absurd (cc)
]

pub root_avoids : (members : List ℕ) (me q : ℕ) → has_id (without_id members me) q ≡ true → has_id (q ∷ []) me ≡ false
root_avoids members me q other = ap (λ b. b || false) (ne_eqb q me (has-without-left members me q other).0)

pub longer_among : (nodes path : List ℕ) (q : ℕ) → IsAmong path nodes → has_id nodes q ≡ true → IsAmong (path ++ q ∷ []) nodes
longer_among nodes path q within member x on = elim (or_cases (has_id path x) (q == x) (sym (has_push path q x) ∙ on)) [
  | inl h ↦ within x h
  | inr e ↦ ap (has_id nodes) (sym (eqb-true q x e)) ∙ member
]

pub longer_avoids : (members path : List ℕ) (me q : ℕ) → has_id path me ≡ false → has_id (without_id members me) q ≡ true → has_id (path ++ q ∷ []) me ≡ false
longer_avoids members path me q off other = off_from path q me off (has-without-left members me q other).0

-- the first n nodes, and these but some
pub first_ids : (n : ℕ) (all : List ℕ) → all ≡ ids_below n → (q : ℕ) → has_id all q ≡ true → q < n
first_ids n all e q on = elim (cases_lt q n) [
  | inl low ↦ low
  | inr past ↦
      let every : filter (λ (k : ℕ). true) (ids_below n) ≡ ids_below n = filter_every (λ (k : ℕ). true) 0 n (λ k l u. refl) in
      absurd (both_ways _ (ap (λ (s : List ℕ). has_id s q) (sym every) ∙ hasnt-filter (λ (k : ℕ). true) n q past) (sym (ap (λ (s : List ℕ). has_id s q) e) ∙ on))
]

pub low_ids : (n : ℕ) (out all left : List ℕ) → all ≡ ids_below n → left ≡ minus_of all out → (q : ℕ) → has_id left q ≡ true → q < n
low_ids n out all left e f q on = elim (cases_lt q n) [
  | inl low ↦ low
  | inr past ↦ absurd (both_ways _ (hasnt-filter (λ k. not (has_id out k)) n q past) (ap (λ (t : List ℕ). has_id t q) (sym (f ∙ ap (λ (a : List ℕ). minus_of a out) e)) ∙ on))
]
