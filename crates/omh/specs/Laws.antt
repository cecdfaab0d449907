-- The laws of agreement, over the definitions alone.
use Rattle.std.specs.Prelude.{ℕ, ◌≡◌, ◌+◌, ◌≤◌, ◌<◌, ◌⊎◌, Bool, true, false, List, [], ◌∷◌, ◌++◌, length, map, reverse}
use Rattle.node_grid.specs.declared.class.Class.{Class}
use Rattle.node_grid.specs.declared.class.Class.TheVariants.{N, J, S}
use Rattle.node_grid.specs.NodeSet.{has_id}
use Rattle.node_grid.specs.Count.{count, Distinct}
use Rattle.node_grid.specs.Class.{is_silent, is_asymmetric, is_sound, IsEnough}
use Rattle.omh_paths.specs.declared.wrapped.Wrapped.{Wrapped}
use Rattle.omh_paths.specs.declared.wrapped.Wrapped.TheVariants.{Plain, Fault}
use Rattle.omh_paths.specs.Paths.{IsPath}
use Rattle.omh.specs.Heard.{Entry, heard_in, nothing_heard, with_heard}
use Rattle.omh.specs.Omh.{World, settled, settled_item, Hears, Fits, counted_nodes, IsClaimed, world_of}

-- Uniform law: what all sound nodes outside a path heard for it, each of them settles
abbrev pub UniformLaw : {V : Type 0} → (V → V → Bool) → Type 0
UniformLaw {V} eq =
    (w : World V) (class_of : ℕ → Class) (item : ℕ → V) → Fits w class_of item
    → (front : List ℕ) (last r : ℕ) → IsPath w.members w.rounds (front ++ last ∷ []) → r + length (front ++ last ∷ []) ≡ w.rounds + 1
    → IsEnough class_of (counted_nodes w.members front last) r
    → (v : Wrapped V) → ((i : ℕ) → Hears class_of (front ++ last ∷ []) i → w.heard i (front ++ last ∷ []) ≡ v)
    → (i : ℕ) → Hears class_of (front ++ last ∷ []) i → settled eq w i (front ++ last ∷ []) ≡ v

-- Agreement law: all sound nodes outside a path settle it alike
abbrev pub AgreementLaw : {V : Type 0} → (V → V → Bool) → Type 0
AgreementLaw {V} eq =
    (w : World V) (class_of : ℕ → Class) (item : ℕ → V) → Fits w class_of item
    → (front : List ℕ) (last r : ℕ) → IsPath w.members w.rounds (front ++ last ∷ []) → r + length (front ++ last ∷ []) ≡ w.rounds + 1
    → IsEnough class_of (counted_nodes w.members front last) r
    → count (λ q. is_asymmetric (class_of q)) (counted_nodes w.members front last) ≤ r
    → (i j : ℕ) → Hears class_of (front ++ last ∷ []) i → Hears class_of (front ++ last ∷ []) j
    → settled eq w i (front ++ last ∷ []) ≡ settled eq w j (front ++ last ∷ [])

-- any two sound nodes, members or listeners, settle a member's item alike
abbrev pub ItemsAgree : {V : Type 0} → (V → V → Bool) → Type 0
ItemsAgree {V} eq =
    (w : World V) (class_of : ℕ → Class) (item : ℕ → V) → IsClaimed w class_of item
    → (c i j : ℕ) → has_id w.members c ≡ true → is_sound (class_of i) ≡ true → is_sound (class_of j) ≡ true
    → settled_item eq w item i c ≡ settled_item eq w item j c

-- the item of a nonfaulty member settles as it is at each sound node
abbrev pub ItemsStand : {V : Type 0} → (V → V → Bool) → Type 0
ItemsStand {V} eq =
    (w : World V) (class_of : ℕ → Class) (item : ℕ → V) → IsClaimed w class_of item
    → (c i : ℕ) → has_id w.members c ≡ true → class_of c ≡ N → is_sound (class_of i) ≡ true
    → settled_item eq w item i c ≡ Plain (item c)

-- that of a silent member settles as Fault 0
abbrev pub ItemsFail : {V : Type 0} → (V → V → Bool) → Type 0
ItemsFail {V} eq =
    (w : World V) (class_of : ℕ → Class) (item : ℕ → V) → IsClaimed w class_of item
    → (c i : ℕ) → has_id w.members c ≡ true → is_silent (class_of c) ≡ true → is_sound (class_of i) ≡ true
    → settled_item eq w item i c ≡ Fault 0

-- a sound node that is no member, or is joining, settles what each nonfaulty member settles
abbrev pub ListenersLaw : {V : Type 0} → (V → V → Bool) → Type 0
ListenersLaw {V} eq =
    (w : World V) (class_of : ℕ → Class) (item : ℕ → V) → IsClaimed w class_of item
    → (c i j : ℕ) → has_id w.members c ≡ true → is_sound (class_of i) ≡ true
    → (has_id w.members i ≡ false) ⊎ (class_of i ≡ J)
    → has_id w.members j ≡ true → class_of j ≡ N
    → settled_item eq w item i c ≡ settled_item eq w item j c

-- whatever asymmetric nodes say to each, and symmetric ones to all alike, there is a world of it that fits
abbrev pub EachWorldFits : Type 0 → Type 0
EachWorldFits V =
    (m : ℕ) (members : List ℕ) (class_of : ℕ → Class) (item : ℕ → V) (lies : ℕ → List ℕ → Wrapped V) → Distinct members
    → ((q i j : ℕ) (back : List ℕ) → class_of q ≡ S → lies i (q ∷ back) ≡ lies j (q ∷ back))
    → Fits (world_of m members class_of item lies) class_of item

-- a table after several values were heard, one after another
abbrev pub all_heard : {V : Type 0} → List (Entry V) → List (Entry V) → List (Entry V)
all_heard [] es = es
all_heard (p ∷ puts) es = all_heard puts (map (with_heard p.path p.value) es)

-- what was heard for a path is what was put for it last, and Fault 0 where nothing was
abbrev pub LastPutLaw : Type 0 → Type 0
LastPutLaw V =
    (members : List ℕ) (me rounds : ℕ) → Distinct members → (puts : List (Entry V)) (path : List ℕ) → IsPath members rounds path → 0 < length path → has_id path me ≡ false
    → heard_in (all_heard puts (nothing_heard members me rounds)) path ≡ heard_in (reverse puts) path
