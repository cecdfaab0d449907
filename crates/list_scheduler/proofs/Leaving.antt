-- A node leaves task by task.
use Rattle.std.proofs.Common.{◌≡◌, ℕ, ◌+◌, ◌<◌, false, refl, sym, ap, ◌∙◌, inl, inr, arith, eq-eqb, ne_eqb}
use Rattle.std.specs.Prelude.{◌==◌, nat_lt, if◌then◌else◌}
use Rattle.std.proofs.lemmas.Bool.{cases_eq, cases_lt, cond-true, cond-false, lt-ltb, le-ltb}
use Rattle.list_scheduler.specs.declared.copies.CopyState.{CopyState}
use Rattle.list_scheduler.specs.declared.copies.CopyState.TheVariants.{Idle, Running, Passed, Failed}
use Rattle.list_scheduler.specs.Copies.{CopyTable, copy_at, table, with_copy}
use Rattle.list_scheduler.specs.CopyLaws.{at_table, table_same, put_copy}
use Rattle.list_scheduler.specs.Schedule.{left_copy, left_by}

-- the copies of tasks below i have left
abbrev pub left_up_to : ℕ → ℕ → CopyTable → ℕ → ℕ → CopyState
left_up_to i node old t q = if nat_lt t i then left_by node old t q else copy_at old t q

-- another task's copies, and another node's, stay as they are in a step
same_elsewhere : (i node : ℕ) (old : CopyTable) (t q : ℕ) → (t ≡ i → q ≡ node → ⊥) → left_up_to (i + 1) node old t q ≡ left_up_to i node old t q
same_elsewhere i node old t q ne = elim (cases_lt t i) [
  | inl low ↦ cond-true (nat_lt t (i + 1)) _ _ (lt-ltb _ _ (omega arith)) ∙ sym (cond-true (nat_lt t i) _ _ (lt-ltb _ _ low))
  | inr high ↦ elim (cases_eq t i) [
    | inl at ↦
        let off : (q == node) ≡ false = ne_eqb q node (ne at) in
        cond-true (nat_lt t (i + 1)) _ _ (lt-ltb _ _ (omega arith)) ∙ cond-false (q == node) _ _ off ∙ sym (cond-false (nat_lt t i) _ _ (le-ltb _ _ high))
    | inr other ↦ let above : i < t = omega arith in cond-false (nat_lt t (i + 1)) _ _ (le-ltb _ _ (omega arith)) ∙ sym (cond-false (nat_lt t i) _ _ (le-ltb _ _ high))
  ]
]

here : (i node : ℕ) (old : CopyTable) → left_up_to (i + 1) node old i node ≡ left_copy (copy_at old i node)
here i node old = cond-true (nat_lt i (i + 1)) _ _ (lt-ltb _ _ (omega arith)) ∙ cond-true (node == node) _ _ (eq-eqb node node refl)

before : (n i node : ℕ) (old c : CopyTable) → i < 32 → node < n → c ≡ table n (left_up_to i node old) → copy_at c i node ≡ copy_at old i node
before n i node old c hi hq is = ap (λ (x : CopyTable). copy_at x i node) is ∙ at_table n _ i node hi hq ∙ cond-false (nat_lt i i) _ _ (le-ltb _ _ (omega arith))

pub left_running : (n i node e : ℕ) (old c new : CopyTable) → i < 32 → node < n → c ≡ table n (left_up_to i node old) → copy_at c i node ≡ Running e → new ≡ table n (with_copy c i node Failed)
    → new ≡ table n (left_up_to (i + 1) node old)
left_running n i node e old c new hi hq is runs step =
    let was : copy_at old i node ≡ Running e = sym (before n i node old c hi hq is) ∙ runs in
    step ∙ put_copy n c (left_up_to i node old) (left_up_to (i + 1) node old) i node Failed is
    (λ t q ht hr d k. rw (d, k) (here i node old ∙ ap left_copy was))
    (λ t q ht hr ne. same_elsewhere i node old t q ne)

pub left_other : (n i node : ℕ) (old c : CopyTable) → i < 32 → node < n → c ≡ table n (left_up_to i node old) → ((e : ℕ) → copy_at c i node ≡ Running e → ⊥)
    → c ≡ table n (left_up_to (i + 1) node old)
left_other n i node old c hi hq is rests =
    let same : left_copy (copy_at old i node) ≡ copy_at old i node = stays (copy_at old i node) (λ e r. rests e (before n i node old c hi hq is ∙ r)) in
    is ∙ table_same n _ _ (λ t q ht hr. elim (cases_eq t i) [
      | inl at ↦ elim (cases_eq q node) [
        | inl on ↦ rw (at, on) (cond-false (nat_lt i i) _ _ (le-ltb _ _ (omega arith)) ∙ sym (here i node old ∙ same))
        | inr off ↦ sym (same_elsewhere i node old t q (λ d e. off e))
      ]
      | inr other ↦ sym (same_elsewhere i node old t q (λ d e. other d))
    ])
  where
    stays : (s : CopyState) → ((e : ℕ) → s ≡ Running e → ⊥) → left_copy s ≡ s
    stays Idle h = refl
    stays (Running e) h = absurd (h e refl)
    stays Passed h = refl
    stays Failed h = refl
