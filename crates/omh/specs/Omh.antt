-- The agreement rule OMH: what a node settles from what it heard, and the worlds of which its laws speak.
use Rattle.std.specs.Prelude.{ℕ, zero, suc, ◌≡◌, ◌<◌, ◌+◌, ◌-◌, Bool, true, false, ◌==◌, List, [], ◌∷◌, ◌++◌, length, map, reverse, if◌then◌else◌}
use Rattle.node_grid.specs.declared.class.Class.{Class}
use Rattle.node_grid.specs.declared.class.Class.TheVariants.{N, J, S}
use Rattle.node_grid.specs.NodeSet.{has_id}
use Rattle.node_grid.specs.Count.{Distinct}
use Rattle.node_grid.specs.Class.{is_nonfaulty, is_silent, is_sound, IsWithin}
use Rattle.omh_paths.specs.declared.wrapped.Wrapped.{Wrapped}
use Rattle.omh_paths.specs.declared.wrapped.Wrapped.TheVariants.{Plain, Fault}
use Rattle.omh_paths.specs.Wrapped.{wrapped, unwrapped}
use Rattle.omh_paths.specs.Majority.{majority}
use Rattle.omh_paths.specs.Paths.{outside, IsPath}

-- what one node knows of the relays of an item
pub record Ear (V : Type 0) : Type 0 where
  pub rounds : ℕ  -- the relay rounds, m
  pub members : List ℕ
  pub me : ℕ
  pub full : Bool
  pub heard : List ℕ → Wrapped V  -- what the node heard for a path

-- what the node adds to the majority of a path for itself
abbrev pub own_term : {V : Type 0} → Ear V → List ℕ → Wrapped V
own_term x path = if x.full then wrapped (x.heard path) else Fault 0

-- what the node settles for a path that can grow by r nodes
unfoldable pub settled_within : {V : Type 0} → (V → V → Bool) → Ear V → ℕ → List ℕ → Wrapped V
settled_within eq x zero path = x.heard path
settled_within eq x (suc r) path =
    unwrapped (majority eq (map (λ q. if q == x.me then own_term x path else settled_within eq x r (path ++ q ∷ [])) (outside x.members path)))

-- what the node settles for a path
abbrev pub settled_at : {V : Type 0} → (V → V → Bool) → Ear V → List ℕ → Wrapped V
settled_at eq x path = settled_within eq x (x.rounds + 1 - length path) path

-- what the node puts into the majority of a path for the member q
abbrev pub term_at : {V : Type 0} → (V → V → Bool) → Ear V → List ℕ → ℕ → Wrapped V
term_at eq x path q = if q == x.me then own_term x path else settled_at eq x (path ++ q ∷ [])

-- what the node settles for the item of a member c, where its own item is `own`
abbrev pub settled_from : {V : Type 0} → (V → V → Bool) → Ear V → Wrapped V → ℕ → Wrapped V
settled_from eq x own c = if c == x.me then (if x.full then own else Fault 0) else settled_at eq x (c ∷ [])

-- all nodes together
pub record World (V : Type 0) : Type 0 where
  pub rounds : ℕ
  pub members : List ℕ
  pub is_full : ℕ → Bool
  pub heard : ℕ → List ℕ → Wrapped V

-- one node of the world
abbrev pub ear : {V : Type 0} → World V → ℕ → Ear V
ear w i = record { rounds = w.rounds; members = w.members; me = i; full = w.is_full i; heard = w.heard i }

-- what node i settles for a path
abbrev pub settled : {V : Type 0} → (V → V → Bool) → World V → ℕ → List ℕ → Wrapped V
settled eq w i path = settled_at eq (ear w i) path

-- what node i settles for the item of a member c, which is its own item where c = i
abbrev pub settled_item : {V : Type 0} → (V → V → Bool) → World V → (ℕ → V) → ℕ → ℕ → Wrapped V
settled_item eq w item i c = if c == i then (if w.is_full c then Plain (item c) else Fault 0) else settled eq w i (c ∷ [])

-- a sound node outside the path
pub record Hears (class_of : ℕ → Class) (path : List ℕ) (i : ℕ) : Type 0 where
  pub sound : is_sound (class_of i) ≡ true
  pub off : has_id path i ≡ false

-- the world fits the classes
pub record Fits {V : Type 0} (w : World V) (class_of : ℕ → Class) (item : ℕ → V) : Type 0 where
  pub distinct : Distinct w.members
  pub full : (q : ℕ) → has_id w.members q ≡ true → class_of q ≡ N → w.is_full q ≡ true
  pub not_full : (q : ℕ) → has_id w.members q ≡ true → class_of q ≡ J → w.is_full q ≡ false
  pub tells : (q i : ℕ) → IsPath w.members w.rounds (q ∷ []) → class_of q ≡ N → Hears class_of (q ∷ []) i → w.heard i (q ∷ []) ≡ Plain (item q)
  pub relays : (path : List ℕ) (q i : ℕ) → 0 < length path → IsPath w.members w.rounds (path ++ q ∷ []) → class_of q ≡ N → Hears class_of (path ++ q ∷ []) i → w.heard i (path ++ q ∷ []) ≡ wrapped (w.heard q path)
  pub silent : (front : List ℕ) (q i : ℕ) → IsPath w.members w.rounds (front ++ q ∷ []) → is_silent (class_of q) ≡ true → Hears class_of (front ++ q ∷ []) i → w.heard i (front ++ q ∷ []) ≡ Fault 0
  pub alike : (front : List ℕ) (q i j : ℕ) → IsPath w.members w.rounds (front ++ q ∷ []) → class_of q ≡ S → Hears class_of (front ++ q ∷ []) i → Hears class_of (front ++ q ∷ []) j → w.heard i (front ++ q ∷ []) ≡ w.heard j (front ++ q ∷ [])

-- the path's last node and the members outside the path
abbrev pub counted_nodes : List ℕ → List ℕ → ℕ → List ℕ
counted_nodes members front last = last ∷ outside members (front ++ last ∷ [])

-- the worlds of one item of each member, within the budget
pub record IsClaimed {V : Type 0} (w : World V) (class_of : ℕ → Class) (item : ℕ → V) : Type 0 where
  pub fits : Fits w class_of item
  pub within : IsWithin class_of w.members w.rounds

-- what a nonfaulty node says of the path behind it: its item, or what it heard, wrapped
abbrev pub told_on : {V : Type 0} → (ℕ → V) → ℕ → List ℕ → Wrapped V → Wrapped V
told_on item q [] was = Plain (item q)
told_on item q (p ∷ back) was = wrapped was

-- what node i is told for a path, given from its last node back, where the faulty nodes say what they like:
-- lies i path is what the path's last node says to i, where that node is neither nonfaulty nor silent
abbrev pub told : {V : Type 0} → (ℕ → Class) → (ℕ → V) → (ℕ → List ℕ → Wrapped V) → ℕ → List ℕ → Wrapped V
told class_of item lies i [] = Fault 0
told class_of item lies i (q ∷ back) =
    if is_nonfaulty (class_of q) then told_on item q back (told class_of item lies q back) else if is_silent (class_of q) then Fault 0 else lies i (q ∷ back)

-- the world in which each node hears what it is told
abbrev pub world_of : {V : Type 0} → ℕ → List ℕ → (ℕ → Class) → (ℕ → V) → (ℕ → List ℕ → Wrapped V) → World V
world_of m members class_of item lies = record {
  rounds = m;
  members = members;
  is_full = λ q. is_nonfaulty (class_of q);
  heard = λ i path. told class_of item lies i (reverse path);
}
