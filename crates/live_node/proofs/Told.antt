-- What was told of clocks and channels.
use Rattle.std.proofs.Common.{◌≡◌, ℕ, ◌+◌, ◌<◌, ◌≤◌, ◌++◌, ℤ, pos, List, [], ◌∷◌, length, map, take, get_or, refl, sym, ap, ap₂, subst, ◌∙◌, arith, w64, to_z, of_z, length-set, inl, inr}
use Rattle.std.specs.Prelude.{All, IfSome, Option, None, Some, is_some, unwrap_or, slice_set, slice_index_or, Bool, true, false, ◌&&◌, ◌||◌, ◌==◌, ◌⊎◌}
use Rattle.std.specs.List.{filter}
use mir.Val.{SFits}
use Rattle.std.proofs.Math.Seq.{take_all}
use Rattle.std.proofs.lemmas.Int.{to_z-of_z, ints}
use Rattle.std.proofs.lemmas.List.{take_more_set, map_more}
use Rattle.std.proofs.lemmas.Bool.{false≢true, eqb-true, eq-eqb, cases_Bool}
use Rattle.std.proofs.lemmas.List.Elements.{All-map, All-weaker, All-head, All-tail, filter_passes}
use Rattle.node_grid.specs.ListLaws.{has_push}
use Rattle.node_grid.specs.TruthFacts.{and_false}
use Rattle.clock_skew.specs.Correction.{IsReading}
use Rattle.frames.specs.Content.{IsValue}
use Rattle.node_grid.specs.NodeSet.{ids_below, ids_where, has_id, with_id, IsIdSet}
use Rattle.node_grid.specs.NodeSetLaws.{filter_filter, filter_range, has-filter}
use Rattle.protocol.specs.Clocks.{corrects}
use Rattle.protocol.specs.View.{Mode}
use Rattle.node_steps.specs.Outcome.{Outcome}
use Rattle.live_node.specs.Live.{good_told, told_numbers}
use Rattle.live_node.proofs.Splitting.{not_true}

-- the number that was told, and 0 where none was
abbrev pub number_told : Option ℤ → ℤ
number_told o = unwrap_or o (pos 0)

-- the numbers of so many were written
pub record AreNumbers (n : ℕ) (ahead : List (Option ℤ)) (i : ℕ) (xs : List ℤ) : Type 0 where
  pub each : length xs ≡ n
  pub front : take i xs ≡ map number_told (take i ahead)

pub one_more : (n : ℕ) (ahead : List (Option ℤ)) (i : ℕ) (xs : List ℤ) (v : ℤ) → length ahead ≡ n → i < n → SFits w64 v → v ≡ number_told (get_or ahead i None)
    → AreNumbers n ahead i xs → AreNumbers n ahead (i + 1) (slice_set xs i (to_z w64 (of_z w64 v)))
one_more n ahead i xs v long low fits is w =
    let within : i < length xs = omega (arith, w.each, low) in
    let whole : i < length ahead = omega (arith, long, low) in
    let same : to_z w64 (of_z w64 v) ≡ number_told (get_or ahead i None) = to_z-of_z w64 v fits ∙ is in
    subst (λ (x : ℤ). AreNumbers n ahead (i + 1) (slice_set xs i x)) (sym same)
    (record {
      each = length-set _ _ _ ∙ w.each;
      front = take_more_set xs i (number_told (get_or ahead i None)) within ∙ ap (λ ys. ys ++ number_told (get_or ahead i None) ∷ []) w.front ∙ sym (map_more number_told ahead i None whole);
    })

pub all_numbers : (n : ℕ) (ahead : List (Option ℤ)) (i : ℕ) (xs : List ℤ) → length ahead ≡ n → n ≤ i → AreNumbers n ahead i xs → xs ≡ told_numbers ahead
all_numbers n ahead i xs long high w = sym (take_all i xs (omega (arith, w.each, high))) ∙ w.front ∙ ap (map number_told) (take_all i ahead (omega (arith, long, high)))

-- a value is a reading
value_read : (o : Option ℤ) → IfSome o IsValue → IsReading (number_told o)
value_read None h = (omega (arith, ints), omega (arith, ints))
value_read (Some z) h = (omega (arith, ints, h.low), omega (arith, ints, h.high))

pub numbers_read : (ahead : List (Option ℤ)) → All (λ o. IfSome o IsValue) ahead → All IsReading (told_numbers ahead)
numbers_read ahead h = All-map IsReading number_told ahead (All-weaker (λ o. IfSome o IsValue) (λ o. IsReading (number_told o)) value_read ahead h)

-- ---- tests

or_false : (a : Bool) → (a || false) ≡ (false || a)
or_false true = refl
or_false false = refl

same_or_not : (j k : ℕ) → (j ≡ k) ⊎ (((j == k) ≡ false) × ((k == j) ≡ false))
same_or_not j k = elim (cases_Bool (j == k)) [
  | inl t ↦ inl (eqb-true j k t)
  | inr f ↦ inr (f, not_true (k == j) (λ t. false≢true (sym f ∙ eq-eqb j k (sym (eqb-true k j t)))))
]

added_at : (a : Bool) (p : ℕ → Bool) (k : ℕ) → p k ≡ true → ((k == k) || (a && p k)) ≡ ((a || (k == k)) && p k)
added_at true p k holds = rw (eq-eqb k k refl, holds) refl
added_at false p k holds = rw (eq-eqb k k refl, holds) refl

added_beside : (a x y b : Bool) → x ≡ false → y ≡ false → (x || (a && b)) ≡ ((a || y) && b)
added_beside true x y b h i = rw h refl
added_beside false x y b h i = rw (h, i) refl

added : (a : Bool) (p : ℕ → Bool) (j k : ℕ) → p k ≡ true → ((j == k) || (a && p j)) ≡ ((a || (k == j)) && p j)
added a p j k holds = elim (same_or_not j k) [
  | inl e ↦ rw e (added_at a p k holds)
  | inr d ↦ added_beside a (j == k) (k == j) (p j) d.0 d.1
]

passed_at : (a x b : Bool) → b ≡ false → (a && b) ≡ ((a || x) && b)
passed_at true x b h = rw h refl
passed_at false x b h = rw h (sym (and_false x))

passed_beside : (a y b : Bool) → y ≡ false → (a && b) ≡ ((a || y) && b)
passed_beside true y b h = refl
passed_beside false y b h = rw h refl

passed : (a : Bool) (p : ℕ → Bool) (j k : ℕ) → p k ≡ false → (a && p j) ≡ ((a || (k == j)) && p j)
passed a p j k fails = elim (same_or_not j k) [
  | inl e ↦ rw e (passed_at a (k == k) (p k) fails)
  | inr d ↦ passed_beside a (k == j) (p j) d.1
]

-- the nodes of a list that pass a test, in the order of all nodes
abbrev pub read_among : ℕ → List ℕ → (ℕ → Bool) → List ℕ
read_among n xs p = ids_where (λ j. has_id xs j && p j) n

-- one more passes, or doesn't
pub one_read : (n : ℕ) (xs : List ℕ) (p : ℕ → Bool) (k : ℕ) → p k ≡ true → with_id n (read_among n xs p) k ≡ read_among n (xs ++ k ∷ []) p
one_read n xs p k holds =
    filter_range (λ j. (j == k) || has_id (read_among n xs p) j) (λ j. has_id (xs ++ k ∷ []) j && p j) 0 n
    (λ j low high. ap (λ (b : Bool). (j == k) || b) (has-filter (λ i. has_id xs i && p i) n j (omega (arith, high))) ∙ added (has_id xs j) p j k holds ∙ ap (λ (b : Bool). b && p j) (sym (has_push xs k j)))

pub none_read : (n : ℕ) (xs : List ℕ) (p : ℕ → Bool) (k : ℕ) → p k ≡ false → read_among n xs p ≡ read_among n (xs ++ k ∷ []) p
none_read n xs p k fails =
    filter_range (λ j. has_id xs j && p j) (λ j. has_id (xs ++ k ∷ []) j && p j) 0 n
    (λ j low high. passed (has_id xs j) p j k fails ∙ ap (λ (b : Bool). b && p j) (sym (has_push xs k j)))

-- all of them, where the list is a set of nodes
pub all_read : (n : ℕ) (sync : List ℕ) (p : ℕ → Bool) → IsIdSet n sync → read_among n sync p ≡ filter p sync
all_read n sync p is = sym (filter_filter (has_id sync) p (ids_below n)) ∙ ap (filter p) (sym is)

-- what passes no test isn't among those that pass it
hasnt : (p : ℕ → Bool) (x : ℕ) (s : List ℕ) → p x ≡ false → All (λ y. p y ≡ true) s → has_id s x ≡ false
hasnt p x [] e h = refl
hasnt p x (y ∷ s) e h =
    ap₂ (λ (a b : Bool). a || b) (not_true (y == x) (λ t. false≢true (sym e ∙ ap p (sym (eqb-true y x t)) ∙ All-head (λ z. p z ≡ true) y s h)))
    (hasnt p x s e (All-tail (λ z. p z ≡ true) y s h))

-- a node that was told nothing of a clock doesn't read it
pub not_read : (sync : List ℕ) (ahead : List (Option ℤ)) (id : ℕ) → slice_index_or ahead id None ≡ None → has_id (good_told sync ahead) id ≡ false
not_read sync ahead id e =
    let p : ℕ → Bool = λ j. is_some (slice_index_or ahead j None) in
    hasnt p id (filter p sync) (ap is_some e) (filter_passes p sync)

-- a correction by what was told, where a record of the period has these members, these good frames and this mode
pub corrects_kept : (m id : ℕ) (ahead : List (Option ℤ)) (o now : Outcome) (mode : Mode) (rs : List ℤ) (good : List ℕ) → rs ≡ told_numbers ahead → good ≡ good_told o.sync ahead → o ≡ now → o.mode ≡ mode
    → corrects m id rs o.members good mode ≡ corrects m id (told_numbers ahead) now.members (good_told now.sync ahead) now.mode
corrects_kept m id ahead o now mode rs good read heard same goes =
    ap (corrects m id rs o.members good) (sym goes) ∙ ap₂ (λ (xs : List ℤ) (s : List ℕ). corrects m id xs o.members s o.mode) read heard
    ∙ ap (λ (x : Outcome). corrects m id (told_numbers ahead) x.members (good_told x.sync ahead) x.mode) same
