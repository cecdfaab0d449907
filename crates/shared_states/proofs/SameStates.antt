-- Agreed states of which the test says that they are equal are the same.
use Rattle.std.proofs.Common.{ℕ, ◌≡◌, ◌==◌, ◌&&◌, Bool, true, false, List, [], ◌∷◌, refl, sym, ap, ap₂, subst, ◌∙◌, eqb-true, eq-eqb}
use Rattle.std.specs.Cmp.Lexicographic.{pointwise}
use Rattle.node_grid.specs.TruthFacts.{and_both}
use Rattle.list_scheduler.specs.declared.copies.CopyState.{CopyState}
use Rattle.list_scheduler.specs.declared.copies.CopyState.TheVariants.{Idle, Running, Passed, Failed}
use Rattle.list_scheduler.specs.Copies.{CopyTable}
use Rattle.agreed_state.specs.Agreed.{AgreedView}

lists_told : {A : Type 0} (eq : A → A → Bool) → ((x y : A) → eq x y ≡ true → x ≡ y) → (xs ys : List A) → pointwise eq xs ys ≡ true → xs ≡ ys
lists_told eq told [] [] h = refl
lists_told eq told [] (y ∷ ys) h = absurd (cc)
lists_told eq told (x ∷ xs) [] h = absurd (cc)
lists_told eq told (x ∷ xs) (y ∷ ys) h =
    let b = and_both (eq x y) (pointwise eq xs ys) h in
    ap₂ (λ u us. u ∷ us) (told x y b.0) (lists_told eq told xs ys b.1)

-- a test of copies tells one variant from another, and one number from another
pub record TellsCopies (eq : CopyState → CopyState → Bool) : Type 0 where
  pub idle_running : (k : ℕ) → eq Idle (Running k) ≡ false
  pub idle_passed : eq Idle Passed ≡ false
  pub idle_failed : eq Idle Failed ≡ false
  pub running_idle : (k : ℕ) → eq (Running k) Idle ≡ false
  pub running : (j k : ℕ) → eq (Running j) (Running k) ≡ (j == k)
  pub running_passed : (k : ℕ) → eq (Running k) Passed ≡ false
  pub running_failed : (k : ℕ) → eq (Running k) Failed ≡ false
  pub passed_idle : eq Passed Idle ≡ false
  pub passed_running : (k : ℕ) → eq Passed (Running k) ≡ false
  pub passed_failed : eq Passed Failed ≡ false
  pub failed_idle : eq Failed Idle ≡ false
  pub failed_running : (k : ℕ) → eq Failed (Running k) ≡ false
  pub failed_passed : eq Failed Passed ≡ false

not_told : {A : Type 0} (b : Bool) → b ≡ false → b ≡ true → A
not_told b f t = absurd (let x = sym f ∙ t in cc)

module _ (eq : CopyState → CopyState → Bool) (t : TellsCopies eq) where
  copy_told : (x y : CopyState) → eq x y ≡ true → x ≡ y
  copy_told Idle Idle h = refl
  copy_told Idle (Running k) h = not_told _ (t.idle_running k) h
  copy_told Idle Passed h = not_told _ t.idle_passed h
  copy_told Idle Failed h = not_told _ t.idle_failed h
  copy_told (Running k) Idle h = not_told _ (t.running_idle k) h
  copy_told (Running j) (Running k) h = ap Running (eqb-true j k (sym (t.running j k) ∙ h))
  copy_told (Running k) Passed h = not_told _ (t.running_passed k) h
  copy_told (Running k) Failed h = not_told _ (t.running_failed k) h
  copy_told Passed Idle h = not_told _ t.passed_idle h
  copy_told Passed (Running k) h = not_told _ (t.passed_running k) h
  copy_told Passed Passed h = refl
  copy_told Passed Failed h = not_told _ t.passed_failed h
  copy_told Failed Idle h = not_told _ t.failed_idle h
  copy_told Failed (Running k) h = not_told _ (t.failed_running k) h
  copy_told Failed Passed h = not_told _ t.failed_passed h
  copy_told Failed Failed h = refl

numbers_told : (xs ys : List ℕ) → pointwise {A = ℕ} ◌==◌ xs ys ≡ true → xs ≡ ys
numbers_told = lists_told ◌==◌ (λ x y h. eqb-true x y h)

-- states whose fields are equal by such a test
pub same_states : (a b : AgreedView) {eq : CopyState → CopyState → Bool}
    → (pointwise {A = ℕ} ◌==◌ a.standing.members b.standing.members && ((pointwise {A = ℕ} ◌==◌ a.standing.counts b.standing.counts && pointwise {A = ℕ} ◌==◌ a.standing.streaks b.standing.streaks) && (pointwise {A = ℕ} ◌==◌ a.standing.left b.standing.left && pointwise (pointwise eq) a.copies b.copies))) ≡ true
    → TellsCopies eq → a ≡ b
same_states a b {eq} h t =
    let members = and_both _ _ h in
    let counts = and_both _ _ members.1 in
    let counted = and_both _ _ counts.0 in
    let left = and_both _ _ counts.1 in
    ap₂ (λ (ms cs : List ℕ). record a { standing = record a.standing { members = ms; counts = cs } }) (numbers_told _ _ members.0) (numbers_told _ _ counted.0)
    ∙ ap₂ (λ (ss ls : List ℕ). record a { standing = record a.standing { members = b.standing.members; counts = b.standing.counts; streaks = ss; left = ls } }) (numbers_told _ _ counted.1) (numbers_told _ _ left.0)
    ∙ ap (λ (cs : CopyTable). record b { copies = cs }) (lists_told (pointwise eq) (lists_told eq (copy_told eq t)) _ _ left.1)

lists_found : {A : Type 0} (eq : A → A → Bool) → ((x : A) → eq x x ≡ true) → (xs : List A) → pointwise eq xs xs ≡ true
lists_found eq finds [] = refl
lists_found eq finds (x ∷ xs) = ap₂ (λ a b. a && b) (finds x) (lists_found eq finds xs)

-- a test of copies finds each equal to itself
pub record FindsCopies (eq : CopyState → CopyState → Bool) : Type 0 where
  pub idle : eq Idle Idle ≡ true
  pub running : (k : ℕ) → eq (Running k) (Running k) ≡ (k == k)
  pub passed : eq Passed Passed ≡ true
  pub failed : eq Failed Failed ≡ true

copy_found : (eq : CopyState → CopyState → Bool) → FindsCopies eq → (x : CopyState) → eq x x ≡ true
copy_found eq t Idle = t.idle
copy_found eq t (Running k) = t.running k ∙ eq-eqb k k refl
copy_found eq t Passed = t.passed
copy_found eq t Failed = t.failed

numbers_found : (xs : List ℕ) → pointwise {A = ℕ} ◌==◌ xs xs ≡ true
numbers_found = lists_found ◌==◌ (λ x. eq-eqb x x refl)

-- a state is found equal to itself
found_itself : (a : AgreedView) {eq : CopyState → CopyState → Bool} → FindsCopies eq
    → (pointwise {A = ℕ} ◌==◌ a.standing.members a.standing.members && ((pointwise {A = ℕ} ◌==◌ a.standing.counts a.standing.counts && pointwise {A = ℕ} ◌==◌ a.standing.streaks a.standing.streaks) && (pointwise {A = ℕ} ◌==◌ a.standing.left a.standing.left && pointwise (pointwise eq) a.copies a.copies))) ≡ true
found_itself a {eq} t =
    ap₂ (λ x y. x && y) (numbers_found a.standing.members)
    (ap₂ (λ x y. x && y) (ap₂ (λ x y. x && y) (numbers_found a.standing.counts) (numbers_found a.standing.streaks))
    (ap₂ (λ x y. x && y) (numbers_found a.standing.left) (lists_found (pointwise eq) (lists_found eq (copy_found eq t)) a.copies)))

-- the same states are found equal
pub found_same : (a b : AgreedView) {eq : CopyState → CopyState → Bool} → a ≡ b → FindsCopies eq
    → (pointwise {A = ℕ} ◌==◌ a.standing.members b.standing.members && ((pointwise {A = ℕ} ◌==◌ a.standing.counts b.standing.counts && pointwise {A = ℕ} ◌==◌ a.standing.streaks b.standing.streaks) && (pointwise {A = ℕ} ◌==◌ a.standing.left b.standing.left && pointwise (pointwise eq) a.copies b.copies))) ≡ true
found_same a b {eq} e t =
    subst (λ (x : AgreedView). (pointwise {A = ℕ} ◌==◌ a.standing.members x.standing.members && ((pointwise {A = ℕ} ◌==◌ a.standing.counts x.standing.counts && pointwise {A = ℕ} ◌==◌ a.standing.streaks x.standing.streaks) && (pointwise {A = ℕ} ◌==◌ a.standing.left x.standing.left && pointwise (pointwise eq) a.copies x.copies))) ≡ true) e
    (found_itself a t)
