-- The sets of the nodes whose frames lines touch, with one line more, and what they tell of clean nodes.
use Rattle.std.proofs.Common.{◌≡◌, ◌≢◌, ℕ, ◌+◌, ◌<◌, ◌≤◌, Bool, true, false, not, ◌&&◌, ◌||◌, List, [], ◌∷◌, ◌++◌, length, get_or, set, cond, None, refl, sym, ap, ◌∙◌, inl, inr, arith, nat_lt, nat_le, get_or-set_same, get_or-set_other, eq-eqb, eqb-true, leb-true}
use Rattle.std.specs.Prelude.{◌==◌}
use Rattle.std.specs.List.{list_all, list_any, find}
use Rattle.std.specs.Option.{option_map}
use Rattle.std.proofs.lemmas.Bool.{cases_Bool, cases_eq, and_parts, and_from, or_right, both_ways, false_from_ne_true, le-leb}
use Rattle.std.proofs.lemmas.List.Folds.{list_any-append}
use Rattle.node_grid.specs.NodeSet.{has_id, with_id, ids_where}
use Rattle.node_grid.specs.NodeSetLaws.{filter_range, has-filter, not_all_ids}
use Rattle.node_grid.specs.ListLaws.{eqb_sym}
use Rattle.slot_plan.specs.Slots.{slot_count}
use Rattle.node_grid.specs.NumberFacts.{other_fails}
use Rattle.node_grid.specs.SetFacts.{first_has, all_ids}
use Rattle.fault_classes.specs.Change.{is_untouched}
use Rattle.fault_classes.specs.Line.{Line, touches, effect_at}
use Rattle.fault_classes.specs.Plan.{Plan, is_clean}
use Rattle.fault_classes.specs.Rules.{is_line}
use Rattle.fault_classes.specs.Cells.{touches_sender}
use Rattle.fault_classes.specs.Touches.{IsSent, IsTouched}
use Rattle.fault_classes.proofs.Entries.{touch_parts, touch_from, any_more, find_none, witness}
use Rattle.fault_classes.proofs.Ranges.{line_facts}

-- ---- one period more of one line

-- the sets where those of the periods from `first` on and before `end` have the sender
abbrev pub sent_until : ℕ → List (List ℕ) → ℕ → ℕ → ℕ → ℕ → List ℕ
sent_until n old from first end p = cond (nat_le first p && nat_lt p end) (with_id n (get_or old p []) from) (get_or old p [])

pub sent_none : (n : ℕ) (old : List (List ℕ)) (from first p : ℕ) → get_or old p [] ≡ sent_until n old from first first p
sent_none n old from first p = let e : (nat_le first p && nat_lt p first) ≡ false = grind arith in rw e refl

pub sent_all : (n : ℕ) (old : List (List ℕ)) (from first last end p : ℕ) → end ≡ last + 1
    → sent_until n old from first end p ≡ cond (nat_le first p && nat_le p last) (with_id n (get_or old p []) from) (get_or old p [])
sent_all n old from first last end p h = let e : nat_lt p end ≡ nat_le p last = grind arith in rw e refl

pub sent_more : (n : ℕ) (old now : List (List ℕ)) (from first k : ℕ) (x : List ℕ) → first ≤ k → k < length now
    → ((p : ℕ) → get_or now p [] ≡ sent_until n old from first k p) → x ≡ with_id n (get_or now k []) from
    → (p : ℕ) → get_or (set now k x) p [] ≡ sent_until n old from first (k + 1) p
sent_more n old now from first k x after within h e p = elim (cases_eq p k) [
  | inl s ↦
      let on : (nat_le first p && nat_lt p (k + 1)) ≡ true = grind arith in
      let off : (nat_le first p && nat_lt p k) ≡ false = grind arith in
      let was : get_or now p [] ≡ get_or old p [] = h p ∙ rw off refl in
      ap (λ q. get_or (set now k x) q []) s ∙ get_or-set_same now k x [] within ∙ e ∙ ap (λ q. with_id n (get_or now q []) from) (sym s) ∙ ap (λ y. with_id n y from) was
      ∙ rw on refl
  | inr ne ↦
      let same : (nat_le first p && nat_lt p (k + 1)) ≡ (nat_le first p && nat_lt p k) = grind arith in
      get_or-set_other now k p x [] ne ∙ h p ∙ rw same refl
]

-- ---- one line more

with_sender : (n p : ℕ) (xs : List Line) (l : Line) → (b : Bool) → (nat_le l.first p && nat_le p l.last) ≡ b
    → cond b (with_id n (ids_where (λ i. list_any (touches_sender p i) xs) n) l.from) (ids_where (λ i. list_any (touches_sender p i) xs) n)
    ≡ ids_where (λ i. list_any (touches_sender p i) (xs ++ l ∷ [])) n
with_sender n p xs l true e = filter_range _ _ 0 n (λ k low up. ap (λ b. k == l.from || b) (has-filter (λ i. list_any (touches_sender p i) xs) n k (omega arith)) ∙ joins k)
  where
    swap : (a b : Bool) → (a || b) ≡ (b || (a && true || false))
    swap true true = refl
    swap true false = refl
    swap false true = refl
    swap false false = refl

    joins : (k : ℕ) → (k == l.from || list_any (touches_sender p k) xs) ≡ list_any (touches_sender p k) (xs ++ l ∷ [])
    joins k =
        let t : (k == l.from) ≡ (l.from == k) = eqb_sym k l.from in
        rw (t, list_any-append (touches_sender p k) xs (l ∷ []), e) (swap (l.from == k) (list_any (touches_sender p k) xs))
with_sender n p xs l false e = filter_range _ _ 0 n (λ k low up. rw (list_any-append (touches_sender p k) xs (l ∷ []), e) (stay (list_any (touches_sender p k) xs) (l.from == k)))
  where
    stay : (a b : Bool) → a ≡ (a || (b && false || false))
    stay true b = refl
    stay false true = refl
    stay false false = refl

pub touched_push : (n periods : ℕ) (xs : List Line) (l : Line) (old new : List (List ℕ)) → IsTouched n periods xs old → IsSent n l old new → IsTouched n periods (xs ++ l ∷ []) new
touched_push n periods xs l old new h s = record {
  long = s.long ∙ h.long;
  members = λ p low. s.members p ∙ ap (λ (y : List ℕ). cond (nat_le l.first p && nat_le p l.last) (with_id n y l.from) y) (h.members p low)
      ∙ with_sender n p xs l (nat_le l.first p && nat_le p l.last) refl;
}

-- ---- what the sets tell

touched_at : (test : Line → Bool) (xs : List Line) → list_any test xs ≡ true → is_untouched (option_map (λ l. l.change) (find test xs)) ≡ false
touched_at test [] h = cc
touched_at test (x ∷ xs) h = elim (cases_Bool (test x)) [
  | inl e ↦ rw e refl
  | inr e ↦ let rest : list_any test xs ≡ true = rw e at h in rw e (touched_at test xs rest)
]

sends : (p i s j : ℕ) (l : Line) → touches p s i j l ≡ true → touches_sender p i l ≡ true
sends p i s j l h = let t = touch_parts p s i j l h in and_from _ _ (eq-eqb l.from i t.from) (and_from _ _ (le-leb l.first p t.after) (le-leb p l.last t.before))

-- where no line touches the sender, no frame of it is touched
module _ (plan : Plan) (p i : ℕ) where
  untouched_at : list_any (touches_sender p i) plan.lines ≡ false → (s j : ℕ) → effect_at plan.lines p s i j ≡ None
  untouched_at none s j =
      ap (option_map (λ l. l.change)) (find_none (touches p s i j) plan.lines
      (false_from_ne_true _ (λ some. both_ways _ none (any_more (touches p s i j) (touches_sender p i) plan.lines (sends p i s j) some))))

  clean_frames : list_any (touches_sender p i) plan.lines ≡ false → is_clean plan p i ≡ true
  clean_frames none = all_ids _ (slot_count plan.rounds) (λ s low. all_ids _ plan.nodes (λ j small. or_right (j == i) _ (ap is_untouched (untouched_at none s j))))

  -- a line that touches the sender touches a frame of it
  soiled_frames : list_all (is_line plan.nodes (slot_count plan.rounds) plan.periods) plan.lines ≡ true → list_any (touches_sender p i) plan.lines ≡ true → is_clean plan p i ≡ false
  soiled_frames ok some =
      let w = witness (touches_sender p i) (is_line plan.nodes (slot_count plan.rounds) plan.periods) plan.lines some ok in
      let f = line_facts plan.nodes (slot_count plan.rounds) plan.periods w.0 w.2 in
      let a = and_parts _ _ w.1 in
      let b = and_parts _ _ a.1 in
      let j = first_has w.0.to f.some in
      let s = first_has w.0.slots f.some_slots in
      let from : w.0.from ≡ i = eqb-true w.0.from i a.0 in
      let touch : touches p s.0 i j.0 w.0 ≡ true = touch_from p s.0 i j.0 w.0 (record { from = from; to = j.1; slot = s.1; after = leb-true w.0.first p b.0; before = leb-true p w.0.last b.1 }) in
      let hit : is_untouched (effect_at plan.lines p s.0 i j.0) ≡ false = touched_at (touches p s.0 i j.0) plan.lines (w.3 (touches p s.0 i j.0) touch) in
      let apart : j.0 ≢ i = λ e. both_ways _ f.other (ap (has_id w.0.to) (from ∙ sym e) ∙ j.1) in
      not_all_ids _ (slot_count plan.rounds) s.0 (f.in_slots s.0 s.1) (not_all_ids (λ k. k == i || is_untouched (effect_at plan.lines p s.0 i k)) plan.nodes j.0 (f.to j.0 j.1) (other_fails j.0 i _ apart hit))

pub soiled_is : (plan : Plan) (p i : ℕ) → list_all (is_line plan.nodes (slot_count plan.rounds) plan.periods) plan.lines ≡ true
    → list_any (touches_sender p i) plan.lines ≡ not (is_clean plan p i)
soiled_is plan p i ok = elim (cases_Bool (list_any (touches_sender p i) plan.lines)) [
  | inl some ↦ some ∙ sym (ap not (soiled_frames plan p i ok some))
  | inr none ↦ none ∙ sym (ap not (clean_frames plan p i none))
]
