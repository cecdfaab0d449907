-- What the code tests of an event, as it is defined.
use Rattle.std.proofs.Common.{ℕ, ◌≡◌, ◌≢◌, ◌<◌, ◌≤◌, ◌==◌, ◌&&◌, ◌||◌, Bool, true, false, not, nat_eq, nat_lt, sym, ap, ap₂, subst, ◌∙◌, arith}
use Rattle.std.specs.Prelude.{Option, Some}
use Rattle.std.proofs.lemmas.Bool.{eq-eqb, eqb-true}
use Rattle.std.proofs.lemmas.Bool.Decides.{nat_tests}
use Rattle.live_node.specs.Live.{LiveView, is_open, may_begin, is_other, allowed}
use Rattle.live_node.specs.Event.Event.{Begin}
use Rattle.live_node.proofs.Splitting.{not_true}

-- ---- which period may begin

named_yes : (p n : ℕ) (f : Bool) → p ≡ n → true ≡ ((p == n) || (f && nat_lt n p))
named_yes p n f e = ap (λ (b : Bool). b || (f && nat_lt n p)) (sym (eq-eqb p n e))

named_later : (p n : ℕ) (f : Bool) → p ≢ n → f ≡ true → nat_lt n p ≡ ((p == n) || (f && nat_lt n p))
named_later p n f e h = ap₂ (λ (a b : Bool). a || (b && nat_lt n p)) (sym (not_true (p == n) (λ t. e (eqb-true p n t)))) (sym h)

named_never : (p n : ℕ) (f : Bool) → p ≢ n → f ≡ false → f ≡ ((p == n) || (f && nat_lt n p))
named_never p n f e h = h ∙ ap₂ (λ (a b : Bool). a || (b && nat_lt n p)) (sym (not_true (p == n) (λ t. e (eqb-true p n t)))) (sym h)

module _ {N : ℕ} (v : LiveView N) (o : Option ℕ) (p q n : ℕ) (f : Bool) (named : o ≡ Some p) (wide : q ≡ p) (next : n ≡ v.next) (forgot : f ≡ v.forgot) where
  pub begin_next : q ≡ n → nat_eq q n ≡ may_begin v o
  begin_next e = eq-eqb q n e ∙ named_yes p v.next v.forgot (sym wide ∙ e ∙ next) ∙ ap (may_begin v) (sym named)

  differ : q ≢ n → p ≢ v.next
  differ e h = e (wide ∙ h ∙ sym next)

  pub begin_later : q ≢ n → f ≡ true → nat_lt n q ≡ may_begin v o
  begin_later e h = ap₂ nat_lt next wide ∙ named_later p v.next v.forgot (differ e) (sym forgot ∙ h) ∙ ap (may_begin v) (sym named)

  pub begin_never : q ≢ n → f ≡ false → f ≡ may_begin v o
  begin_never e h = forgot ∙ named_never p v.next v.forgot (differ e) (sym forgot ∙ h) ∙ ap (may_begin v) (sym named)

-- ---- other nodes

other_yes : (j n i : ℕ) → j < n → not (j == i) ≡ (nat_lt j n && not (j == i))
other_yes j n i low = grind (arith, nat_tests)

other_no : (j n i : ℕ) → n ≤ j → nat_lt j n ≡ (nat_lt j n && not (j == i))
other_no j n i high = grind (arith, nat_tests)

module _ {N : ℕ} (v : LiveView N) (j n i : ℕ) (nodes : n ≡ v.scenario.config.nodes) (id : i ≡ v.id) where
  pub is_other_then : j < n → not (nat_eq j i) ≡ is_other v j
  is_other_then low = ap (λ k. not (nat_eq j k)) id ∙ other_yes j v.scenario.config.nodes v.id (subst (λ m. j < m) nodes low)

  pub is_other_else : n ≤ j → nat_lt j n ≡ is_other v j
  is_other_else high = ap (nat_lt j) nodes ∙ other_no j v.scenario.config.nodes v.id (subst (λ m. m ≤ j) nodes high)

-- ---- whether a period may begin now

module _ {N : ℕ} (v : LiveView N) (b : Bool) (is : b ≡ is_open v) (o : Option ℕ) where
  pub begin_shut : (m : Bool) → b ≡ false → m ≡ may_begin v o → m ≡ allowed v (Begin o)
  begin_shut m e h = h ∙ ap (λ (c : Bool). not c && may_begin v o) (sym e ∙ is)

  pub begin_open : b ≡ true → not b ≡ allowed v (Begin o)
  begin_open e = ap not e ∙ ap (λ (c : Bool). not c && may_begin v o) (sym e ∙ is)
