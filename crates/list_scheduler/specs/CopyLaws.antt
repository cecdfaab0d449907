-- Tables of copies: what stands in them, when two are the same, and which task runs on a node.
use Rattle.std.proofs.Common.{◌≡◌, ℕ, zero, suc, ◌+◌, ◌<◌, ◌≤◌, true, ◌&&◌, ◌||◌, List, [], ◌∷◌, map, set, Option, None, Some, refl, sym, ap, ap₂, subst, ◌∙◌, ◌⊎◌, inl, inr, arith, eqb-true, eq-eqb, ne_eqb}
use Rattle.std.specs.Prelude.{◌==◌, slice_index_or, if◌then◌else◌, replicate}
use Rattle.std.specs.List.{range_with_len}
use Rattle.std.proofs.lemmas.Bool.{cases_Bool, cases_eq, cases_lt, or_left, or_right, or_cases, and_parts, both_ways, cond-true, cond-false, and_from}
use Rattle.std.proofs.lemmas.List.{get_or_past}
use Rattle.std.proofs.lemmas.List.FromFn.{get_or-map-range_with_len, length-map-range_with_len}
use Rattle.node_grid.specs.NodeSet.{ids_below, has_id}
use Rattle.list_scheduler.specs.declared.copies.CopyState.{CopyState}
use Rattle.list_scheduler.specs.declared.copies.CopyState.TheVariants.{Idle, Running, Passed, Failed}
use Rattle.list_scheduler.specs.Copies.{CopyTable, copy_at, table, IsTable, with_copy, running, at_work, works_among, works}
use Rattle.list_scheduler.specs.Schedule.{all_idle}
use Rattle.node_grid.specs.NodeSetLaws.{has-range}

-- ---- tables of any size

abbrev grid : ℕ → ℕ → (ℕ → ℕ → CopyState) → CopyTable
grid many n f = map (λ t. map (f t) (ids_below n)) (ids_below many)

pub map_range : {X : Type 0} (f g : ℕ → X) (a n : ℕ) → ((k : ℕ) → a ≤ k → k < a + n → f k ≡ g k) → map f (range_with_len a n) ≡ map g (range_with_len a n)
map_range f g a zero h = refl
map_range f g a (suc n) h = ap₂ ◌∷◌ (h a (omega arith) (omega arith)) (map_range f g (a + 1) n (λ k l u. h k (omega arith) (omega arith)))

grid_same : (many n : ℕ) (f g : ℕ → ℕ → CopyState) → ((t q : ℕ) → t < many → q < n → f t q ≡ g t q) → grid many n f ≡ grid many n g
grid_same many n f g h = map_range (λ t. map (f t) (ids_below n)) (λ t. map (g t) (ids_below n)) 0 many
    (λ t l u. map_range (f t) (g t) 0 n (λ q m v. h t q (omega arith) (omega arith)))

row_in : (many n : ℕ) (f : ℕ → ℕ → CopyState) (t : ℕ) → t < many → slice_index_or (grid many n f) t [] ≡ map (f t) (ids_below n)
row_in many n f t h = get_or-map-range_with_len (λ t. map (f t) (ids_below n)) 0 many t t [] h (omega arith)

row_out : (many n : ℕ) (f : ℕ → ℕ → CopyState) (t : ℕ) → many ≤ t → slice_index_or (grid many n f) t [] ≡ []
row_out many n f t h = get_or_past (grid many n f) t [] (omega (arith, length-map-range_with_len (λ t. map (f t) (ids_below n)) 0 many))

at_grid : (many n : ℕ) (f : ℕ → ℕ → CopyState) (t q : ℕ) → t < many → q < n → copy_at (grid many n f) t q ≡ f t q
at_grid many n f t q ht hq = ap (λ (xs : List CopyState). slice_index_or xs q Idle) (row_in many n f t ht) ∙ get_or-map-range_with_len (f t) 0 n q q Idle hq (omega arith)

in_grid : (many n : ℕ) (f : ℕ → ℕ → CopyState) (t q : ℕ) → ((copy_at (grid many n f) t q ≡ f t q) × (t < many) × (q < n)) ⊎ (copy_at (grid many n f) t q ≡ Idle)
in_grid many n f t q = elim (cases_lt t many) [
  | inl ht ↦ elim (cases_lt q n) [
    | inl hq ↦ inl (at_grid many n f t q ht hq, ht, hq)
    | inr hq ↦ inr (ap (λ (xs : List CopyState). slice_index_or xs q Idle) (row_in many n f t ht) ∙ get_or_past (map (f t) (ids_below n)) q Idle (omega (arith, length-map-range_with_len (f t) 0 n)))
  ]
  | inr ht ↦ inr (ap (λ (xs : List CopyState). slice_index_or xs q Idle) (row_out many n f t ht))
]

-- a write into a list that a function gives
pub set_map_range : {X : Type 0} (g : ℕ → X) (a m i j : ℕ) (y : X) → i < m → a + i ≡ j → set (map g (range_with_len a m)) i y ≡ map (λ k. if k == j then y else g k) (range_with_len a m)
set_map_range g a zero i j y l e = absurd (omega arith)
set_map_range g a (suc m) zero j y l e = ap₂ ◌∷◌
    (sym (cond-true (a == j) y (g a) (eq-eqb _ _ (omega arith))))
    (map_range g (λ k. if k == j then y else g k) (a + 1) m (λ k h u. sym (cond-false (k == j) y (g k) (ne_eqb _ _ (λ d. absurd (omega arith))))))
set_map_range g a (suc m) (suc i) j y l e = ap₂ ◌∷◌
    (sym (cond-false (a == j) y (g a) (ne_eqb _ _ (λ d. absurd (omega arith)))))
    (set_map_range g (a + 1) m i j y (omega arith) (omega arith))

set_grid : (many n : ℕ) (f : ℕ → ℕ → CopyState) (t q : ℕ) (s : CopyState) → t < many → q < n
    → set (grid many n f) t (set (slice_index_or (grid many n f) t []) q s) ≡ grid many n (λ u r. if (u == t) && (r == q) then s else f u r)
set_grid many n f t q s ht hq =
    let row : set (slice_index_or (grid many n f) t []) q s ≡ map (λ r. if r == q then s else f t r) (ids_below n) = ap (λ (xs : List CopyState). set xs q s) (row_in many n f t ht) ∙ set_map_range (f t) 0 n q q s hq (omega arith) in
    ap (set (grid many n f) t) row
    ∙ set_map_range (λ u. map (f u) (ids_below n)) 0 many t t (map (λ r. if r == q then s else f t r) (ids_below n)) ht (omega arith)
    ∙ map_range _ _ 0 many (λ u l h. each u)
  where
    each : (u : ℕ) → (if u == t then map (λ r. if r == q then s else f t r) (ids_below n) else map (f u) (ids_below n)) ≡ map (λ r. if (u == t) && (r == q) then s else f u r) (ids_below n)
    each u = elim (cases_Bool (u == t)) [
      | inl same ↦
          let e : u ≡ t = eqb-true u t same in
          cond-true (u == t) _ _ same ∙ map_range _ _ 0 n (λ r l h. rw (same, e) refl)
      | inr other ↦ cond-false (u == t) _ _ other ∙ map_range _ _ 0 n (λ r l h. rw other refl)
    ]

-- ---- tables of 32 tasks

pub at_table : (n : ℕ) (f : ℕ → ℕ → CopyState) (t q : ℕ) → t < 32 → q < n → copy_at (table n f) t q ≡ f t q
unfolding table
at_table n f t q ht hq = at_grid 32 n f t q ht hq

-- in the table is the copy, or it is idle
pub in_table : (n : ℕ) (f : ℕ → ℕ → CopyState) (t q : ℕ) → ((copy_at (table n f) t q ≡ f t q) × (t < 32) × (q < n)) ⊎ (copy_at (table n f) t q ≡ Idle)
unfolding table
in_table n f t q = in_grid 32 n f t q

pub table_same : (n : ℕ) (f g : ℕ → ℕ → CopyState) → ((t q : ℕ) → t < 32 → q < n → f t q ≡ g t q) → table n f ≡ table n g
unfolding table
table_same n f g h = grid_same 32 n f g h

-- a table is the table of its copies
pub IsTable-table : (n : ℕ) (f : ℕ → ℕ → CopyState) → IsTable n (table n f)
IsTable-table n f = table_same n f (copy_at (table n f)) (λ t q ht hq. sym (at_table n f t q ht hq))

-- what the code's write leaves
pub set_copy : (n : ℕ) (c : CopyTable) (t q : ℕ) (s : CopyState) → IsTable n c → t < 32 → q < n → set c t (set (slice_index_or c t []) q s) ≡ table n (with_copy c t q s)
unfolding table
set_copy n c t q s shape ht hq = ap (λ (x : CopyTable). set x t (set (slice_index_or x t []) q s)) shape ∙ set_grid 32 n (copy_at c) t q s ht hq

-- ---- which task runs on a node

-- a copy that runs
pub running_is : (c : CopyState) (e : ℕ) → running c ≡ Some e → c ≡ Running e
running_is Idle e h = cc
running_is (Running x) e h = cc
running_is Passed e h = cc
running_is Failed e h = cc

pub record Works (copies : CopyTable) (q : ℕ) (ts : List ℕ) (w : ℕ × ℕ) : Type 0 where
  pub copy : copy_at copies w.0 q ≡ Running w.1
  pub task : has_id ts w.0 ≡ true

work_of : (copies : CopyTable) (q t : ℕ) (ts : List ℕ) (w : ℕ × ℕ) (o : Option ℕ) → running (copy_at copies t q) ≡ o → at_work t o (works_among copies q ts) ≡ Some w
    → (works_among copies q ts ≡ Some w → Works copies q ts w) → Works copies q (t ∷ ts) w
work_of copies q t ts w None e k rest = let r = rest k in record { copy = r.copy; task = or_right (t == w.0) _ r.task }
work_of copies q t ts w (Some x) e k rest =
    let d : (t, x) ≡ w = cc in
    record {
      copy = subst (λ (v : ℕ × ℕ). copy_at copies v.0 q ≡ Running v.1) d (running_is _ x e);
      task = or_left _ _ (eq-eqb t w.0 (ap (λ (v : ℕ × ℕ). v.0) d));
    }

pub works_are : (copies : CopyTable) (q : ℕ) (ts : List ℕ) (w : ℕ × ℕ) → works_among copies q ts ≡ Some w → Works copies q ts w
works_are copies q [] w h = cc
works_are copies q (t ∷ ts) w h = work_of copies q t ts w (running (copy_at copies t q)) refl h (works_are copies q ts w)

pub range_below : (a n q : ℕ) → has_id (range_with_len a n) q ≡ true → q < a + n
range_below a zero q h = cc
range_below a (suc n) q h = elim (or_cases (a == q) _ h) [
  | inl e ↦ let d = eqb-true a q e in omega arith
  | inr later ↦ let l = range_below (a + 1) n q later in omega arith
]

-- the task that a node works at runs there
pub works_runs : (copies : CopyTable) (q : ℕ) (w : ℕ × ℕ) → works copies q ≡ Some w → (copy_at copies w.0 q ≡ Running w.1) × (w.0 < 32)
unfolding works
works_runs copies q w h = let r = works_are copies q (ids_below 32) w h in (r.copy, range_below 0 32 w.0 r.task)

-- no copy runs on a node that works at nothing
nothing_among : (copies : CopyTable) (q t e : ℕ) (ts : List ℕ) → works_among copies q ts ≡ None → has_id ts t ≡ true → copy_at copies t q ≡ Running e → ⊥
nothing_among copies q t e [] none on h = cc
nothing_among copies q t e (u ∷ ts) none on h = elim (cases_Bool (u == t)) [
  | inl e1 ↦
      let r : running (copy_at copies u q) ≡ Some e = ap (λ (x : ℕ). running (copy_at copies x q)) (eqb-true u t e1) ∙ ap running h in
      let z : at_work u (Some e) (works_among copies q ts) ≡ None = ap (λ (o : Option ℕ). at_work u o (works_among copies q ts)) (sym r) ∙ none in
      cc
  | inr e1 ↦ nothing_among copies q t e ts (rest (running (copy_at copies u q)) none) (ap (λ b. b || has_id ts t) (sym e1) ∙ on) h
]
  where
    rest : (o : Option ℕ) → at_work u o (works_among copies q ts) ≡ None → works_among copies q ts ≡ None
    rest None h = h
    rest (Some x) h = cc

pub nothing_runs : (copies : CopyTable) (q t e : ℕ) → works copies q ≡ None → t < 32 → copy_at copies t q ≡ Running e → ⊥
unfolding works
nothing_runs copies q t e none l h = nothing_among copies q t e (ids_below 32) none (has-range 0 32 t (omega arith) l) h

-- what a node works at is told by its own copies
works_among_same : (c d : CopyTable) (q : ℕ) (ts : List ℕ) → ((t : ℕ) → has_id ts t ≡ true → copy_at c t q ≡ copy_at d t q) → works_among c q ts ≡ works_among d q ts
works_among_same c d q [] h = refl
works_among_same c d q (t ∷ ts) h = ap₂ (at_work t) (ap running (h t (or_left _ _ (eq-eqb t t refl)))) (works_among_same c d q ts (λ u on. h u (or_right _ _ on)))

pub works_same : (c d : CopyTable) (q : ℕ) → ((t : ℕ) → t < 32 → copy_at c t q ≡ copy_at d t q) → works c q ≡ works d q
unfolding works
works_same c d q h = works_among_same c d q (ids_below 32) (λ t on. h t (range_below 0 32 t on))

-- the least task that runs
first_among : (copies : CopyTable) (q t e a n : ℕ) → a ≤ t → t < a + n → ((u : ℕ) → a ≤ u → u < t → running (copy_at copies u q) ≡ None) → copy_at copies t q ≡ Running e
    → works_among copies q (range_with_len a n) ≡ Some (t, e)
first_among copies q t e a zero l u before here = absurd (omega arith)
first_among copies q t e a (suc n) l u before here = elim (cases_eq a t) [
  | inl same ↦
      let r : running (copy_at copies a q) ≡ Some e = ap (λ (x : ℕ). running (copy_at copies x q)) same ∙ ap running here in
      ap (λ (o : Option ℕ). at_work a o (works_among copies q (range_with_len (a + 1) n))) r ∙ ap (λ (x : ℕ). Some (x, e)) same
  | inr other ↦
      let low : a < t = omega arith in
      let r : running (copy_at copies a q) ≡ None = before a (omega arith) low in
      ap (λ (o : Option ℕ). at_work a o (works_among copies q (range_with_len (a + 1) n))) r
      ∙ first_among copies q t e (a + 1) n (omega arith) (omega arith) (λ v m k. before v (omega arith) k) here
]

pub works_first : (copies : CopyTable) (q t e : ℕ) → t < 32 → ((u : ℕ) → u < t → running (copy_at copies u q) ≡ None) → copy_at copies t q ≡ Running e → works copies q ≡ Some (t, e)
unfolding works
works_first copies q t e l before here = first_among copies q t e 0 32 (omega arith) l (λ u m k. before u k) here

none_among : (copies : CopyTable) (q a n : ℕ) → ((u : ℕ) → a ≤ u → u < a + n → running (copy_at copies u q) ≡ None) → works_among copies q (range_with_len a n) ≡ None
none_among copies q a zero none = refl
none_among copies q a (suc n) none =
    ap (λ (o : Option ℕ). at_work a o (works_among copies q (range_with_len (a + 1) n))) (none a (omega arith) (omega arith))
    ∙ none_among copies q (a + 1) n (λ u l h. none u (omega arith) (omega arith))

pub works_none : (copies : CopyTable) (q : ℕ) → ((u : ℕ) → u < 32 → running (copy_at copies u q) ≡ None) → works copies q ≡ None
unfolding works
works_none copies q none = none_among copies q 0 32 (λ u l h. none u h)

-- ---- changed tables

-- a copy put into a table that f gives, where g is f but for that copy
pub put_copy : (n : ℕ) (c : CopyTable) (f g : ℕ → ℕ → CopyState) (task node : ℕ) (s : CopyState) → c ≡ table n f
    → ((t q : ℕ) → t < 32 → q < n → t ≡ task → q ≡ node → g t q ≡ s)
    → ((t q : ℕ) → t < 32 → q < n → (t ≡ task → q ≡ node → ⊥) → g t q ≡ f t q)
    → table n (with_copy c task node s) ≡ table n g
put_copy n c f g task node s is here others = table_same n (with_copy c task node s) g (λ t q ht hq. elim (cases_Bool ((t == task) && (q == node))) [
  | inl on ↦
      let p = and_parts _ _ on in
      cond-true ((t == task) && (q == node)) _ _ on ∙ sym (here t q ht hq (eqb-true _ _ p.0) (eqb-true _ _ p.1))
  | inr off ↦
      cond-false ((t == task) && (q == node)) _ _ off ∙ ap (λ (x : CopyTable). copy_at x t q) is ∙ at_table n f t q ht hq
      ∙ sym (others t q ht hq (λ d e. both_ways _ off (and_from _ _ (eq-eqb t task d) (eq-eqb q node e))))
])

-- the table of idle copies, as rows of equal copies
pub map_same : {X : Type 0} (x : X) (a n : ℕ) → map (λ q. x) (range_with_len a n) ≡ replicate n x
map_same x a zero = refl
map_same {X} x a (suc n) = ap (λ (xs : List X). x ∷ xs) (map_same x (a + 1) n)

idle_grid : (a many n : ℕ) → map (λ t. map (λ q. Idle) (ids_below n)) (range_with_len a many) ≡ replicate many (replicate n Idle)
idle_grid a zero n = refl
idle_grid a (suc many) n = ap₂ ◌∷◌ (map_same Idle 0 n) (idle_grid (a + 1) many n)

pub table_idle : (n : ℕ) → table n all_idle ≡ replicate 32 (replicate n Idle)
unfolding table
table_idle n = idle_grid 0 32 n
