-- What a table has heard stays in the ranges of the grammar, so what it passes on is in range.
use Rattle.std.proofs.Common.{ℕ, suc, ◌≡◌, ◌<◌, ◌-◌, true, if◌then◌else◌, List, [], ◌∷◌, length, map, refl, sym, ap, subst, ◌∙◌, inl, inr, arith}
use Rattle.std.specs.Prelude.{All}
use Rattle.std.proofs.lemmas.Bool.{cases_Bool, cond-true, cond-false}
use Rattle.std.proofs.lemmas.List.Elements.{All-nil, All-cons, All-head, All-tail}
use Rattle.omh_paths.specs.declared.wrapped.Wrapped.{Wrapped}
use Rattle.omh_paths.specs.declared.wrapped.Wrapped.TheVariants.{Plain, Fault}
use Rattle.omh_paths.specs.Wrapped.{wrapped}
use Rattle.omh_paths.specs.Paths.{same_nodes}
use Rattle.omh_paths.specs.PathLists.{same_nodes-tells}
use Rattle.omh.specs.Heard.{Hearing, Entry, heard_in}
use Rattle.frames.specs.Content.{IsEntry}
use Rattle.protocol.specs.Arrival.{Arrival, said}
use Rattle.protocol.specs.Arrival.Arrival.{Bad, Good}
use Rattle.protocol.specs.Heard.{looked_up, with_entries, entry, paths_of}
use Rattle.relay_rules.specs.Hearing.{told_to, has_path}
use Rattle.relay_rules.specs.Ranged.{HeardIn, IsRanged}
use Rattle.relay_rules.specs.Relaying.{relays}
use Rattle.protocol.specs.TalkLaws.{AreLong, paths_long}

-- what is heard for a path after a slot is what the slot says, where it speaks of the path, or what was heard before
told_range : {V : Type 0} (Q : Wrapped V → Type 0) (ps : List (List ℕ)) (f : List ℕ → Wrapped V) (es : List (Entry V)) (p : List ℕ) → Q (Fault 0) → Q (heard_in es p) → (has_path ps p ≡ true → Q (f p)) → Q (heard_in (map (told_to ps f) es) p)
told_range Q ps f [] p none was now = none
told_range {V} Q ps f (e ∷ es) p none was now = elim (cases_Bool (same_nodes e.path p)) [
  | inl y ↦
      let s : e.path ≡ p = same_nodes-tells e.path p y in
      subst Q (sym (cond-true (same_nodes e.path p) (if has_path ps e.path then f e.path else e.value) (heard_in (map (told_to ps f) es) p) y))
      (elim (cases_Bool (has_path ps e.path)) [
        | inl t ↦ subst Q (sym (cond-true (has_path ps e.path) (f e.path) e.value t)) (subst (λ (q : List ℕ). Q (f q)) (sym s) (now (ap (has_path ps) (sym s) ∙ t)))
        | inr n ↦ subst Q (sym (cond-false (has_path ps e.path) (f e.path) e.value n)) (subst Q (cond-true (same_nodes e.path p) e.value (heard_in es p) y) was)
      ])
  | inr n ↦
      subst Q (sym (cond-false (same_nodes e.path p) (if has_path ps e.path then f e.path else e.value) (heard_in (map (told_to ps f) es) p) n))
      (told_range Q ps f es p none (subst Q (cond-false (same_nodes e.path p) e.value (heard_in es p) n) was) now)
]

zero_in : {V : Type 0} (P : V → Type 0) (r : ℕ) → HeardIn P r (Fault 0)
zero_in P r = omega arith

-- the range is kept, where what a slot says of the paths of which it speaks is in range
pub ranged_told : {V : Type 0} (P : V → Type 0) (ps : List (List ℕ)) (f : List ℕ → Wrapped V) (es : List (Entry V)) → IsRanged P es → ((p : List ℕ) → has_path ps p ≡ true → HeardIn P (length p - 1) (f p)) → IsRanged P (map (told_to ps f) es)
ranged_told P ps f es h now = record { each = λ p. told_range (HeardIn P (length p - 1)) ps f es p (zero_in P (length p - 1)) (h.each p) (now p) }

from_entry : {V : Type 0} (P : V → Type 0) (r : ℕ) (w : Wrapped V) → IsEntry P r w → HeardIn P r w
from_entry P r (Plain v) h = h
from_entry P r (Fault k) h = h.1

looked_up_in : {V : Type 0} (P : V → Type 0) (r : ℕ) (ps : List (List ℕ)) (xs : List (Wrapped V)) (p : List ℕ) → All (IsEntry P r) xs → HeardIn P r (looked_up ps xs p)
looked_up_in P r [] xs p h = omega arith
looked_up_in P r (q ∷ qs) [] p h = omega arith
looked_up_in {V} P r (q ∷ qs) (x ∷ xs) p h = elim (cases_Bool (same_nodes q p)) [
  | inl is ↦ subst (HeardIn P r) (sym (cond-true (same_nodes q p) x (looked_up qs xs p) is)) (from_entry P r x (All-head (IsEntry P r) x xs h))
  | inr isnt ↦ subst (HeardIn P r) (sym (cond-false (same_nodes q p) x (looked_up qs xs p) isnt)) (looked_up_in P r qs xs p (All-tail (IsEntry P r) x xs h))
]

-- what a relay frame in range says of a path is in range
pub entry_in : {V : Type 0} (P : V → Type 0) (r : ℕ) (ps : List (List ℕ)) (a : Arrival (List (Wrapped V))) (p : List ℕ) → ((xs : List (Wrapped V)) → a ≡ Good xs → All (IsEntry P r) xs) → HeardIn P r (entry (with_entries ps a) p)
entry_in P r ps (Bad k) p h = omega arith
entry_in P r ps (Good xs) p h = looked_up_in P r ps xs p (h xs refl)

-- so is what one of round 0 says
pub said_in : {V : Type 0} (P : V → Type 0) (a : Arrival V) → ((v : V) → a ≡ Good v → P v) → HeardIn P 0 (said a)
said_in P (Bad k) h = omega arith
said_in P (Good v) h = h v refl

wrap_heard : {V : Type 0} (P : V → Type 0) (r n : ℕ) (w : Wrapped V) → suc n ≡ r → HeardIn P n w → IsEntry P r (wrapped w)
wrap_heard P r n (Plain v) e h = h
wrap_heard P r n (Fault k) e h = (omega arith, omega arith)

-- what a table in range passes on is in range
pub relays_in : {V : Type 0} (P : V → Type 0) (h : Hearing V) (r : ℕ) → 0 < r → IsRanged P h.heard → All (IsEntry P r) (relays h r)
relays_in {V} P h r some ranged = each (paths_of h.members r h.me) (paths_long h.members r h.me) where
  each : (ps : List (List ℕ)) → AreLong r ps → All (IsEntry P r) (map (λ path. wrapped (heard_in h.heard path)) ps)
  each [] a = All-nil (IsEntry P r)
  each (p ∷ ps) a = All-cons (IsEntry P r) (wrapped (heard_in h.heard p)) (map (λ path. wrapped (heard_in h.heard path)) ps) (wrap_heard P r (length p - 1) (heard_in h.heard p) (let e = a.0 in omega arith) (ranged.each p)) (each ps a.1)
