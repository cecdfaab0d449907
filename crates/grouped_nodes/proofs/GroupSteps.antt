-- The states after a period, group by group.
use Rattle.std.proofs.Common.{ℕ, ◌≡◌, ◌≢◌, ◌<◌, ◌≤◌, ◌+◌, ◌==◌, Bool, true, false, if◌then◌else◌, List, length, get_or, Option, None, Some, refl, sym, ap, ap₂, subst, ◌∙◌, inl, inr, arith, eq-eqb, ne_eqb}
use Rattle.std.proofs.lemmas.Bool.{cases_eq, cases_lt, cond-true, cond-false}
use Rattle.std.proofs.lemmas.List.{get_or_past}
use Rattle.std.proofs.lemmas.List.FromFn.{get_or-map-range_with_len, length-map-range_with_len}
use Rattle.std.proofs.lemmas.Option.{same_Some}
use Rattle.node_grid.specs.NodeSet.{has_id, ids_where}
use Rattle.node_grid.specs.NodeSetLaws.{has-filter}
use Rattle.node_grid.specs.ListFacts.{same_at}
use Rattle.agreed_state.specs.declared.config.Config.{Config}
use Rattle.agreed_state.specs.Agreed.{AgreedView, IsAgreed, agreed_after}
use Rattle.shared_states.specs.declared.belief.Belief.{Belief}
use Rattle.shared_states.specs.Sharing.{state_at, with_state, AreAgreed}
use Rattle.grouped_nodes.specs.Grouping.{first_of, AreFirsts}
use Rattle.grouped_nodes.specs.Shared.{AreShared, belief_of}

-- the state after the period, where there is one
abbrev pub after_by : {N : ℕ} → Config N → ℕ → Option AgreedView → Belief N → Option AgreedView
after_by config p None b = None
after_by {N} config p (Some a) b = Some (agreed_after N config p a b.done b.rows)

-- the groups whose first is below f are stepped
pub record AreStepped {N : ℕ} (config : Config N) (p : ℕ) (groups : List ℕ) (beliefs : List (Belief N)) (old : List (Option AgreedView)) (f : ℕ) (states : List (Option AgreedView)) : Type 0 where
  pub so_far : (j : ℕ) (d : Belief N) → j < N → first_of groups j < f → state_at states j ≡ after_by config p (state_at old (first_of groups j)) (get_or beliefs (first_of groups j) d)
  pub later : (j : ℕ) → j < N → f ≤ first_of groups j → state_at states j ≡ state_at old j
  pub agreed : AreAgreed config states

module _ {N : ℕ} (config : Config N) (p : ℕ) (groups : List ℕ) (firsts : AreFirsts N groups) (beliefs : List (Belief N)) (many : length beliefs ≡ N) (old : List (Option AgreedView)) (shared : AreShared N groups old) where
  own_first : (j f : ℕ) → j < N → first_of groups j ≡ f → first_of groups f ≡ f
  own_first j f low e = ap (first_of groups) (sym e) ∙ firsts.own j low ∙ e

  pub stepped_none : AreAgreed config old → AreStepped config p groups beliefs old 0 old
  stepped_none valid = record { so_far = λ j d low less. absurd (omega arith); later = λ j low high. refl; agreed = valid }

  -- the state of a group's first, before it is stepped
  pub first_state : (f : ℕ) (states : List (Option AgreedView)) → f < N → first_of groups f ≡ f → AreStepped config p groups beliefs old f states → state_at states f ≡ state_at old f
  first_state f states low own m = m.later f low (omega arith)

  pub stepped_skip : (f : ℕ) (states : List (Option AgreedView)) → (first_of groups f ≡ f → state_at old f ≡ None) → AreStepped config p groups beliefs old f states → AreStepped config p groups beliefs old (f + 1) states
  stepped_skip f states none m = record {
    so_far = λ j d low less. elim (cases_eq (first_of groups j) f) [
      | inl e ↦
          let is : state_at old (first_of groups j) ≡ None = ap (state_at old) e ∙ none (own_first j f low e) in
          m.later j low (omega arith) ∙ sym (shared j low) ∙ is
          ∙ sym (ap (λ (o : Option AgreedView). after_by config p o (get_or beliefs (first_of groups j) d)) is)
      | inr ne ↦ m.so_far j d low (omega arith)
    ];
    later = λ j low high. m.later j low (omega arith);
    agreed = m.agreed;
  }

  pub stepped_put : (f : ℕ) (states states' : List (Option AgreedView)) (a b : AgreedView) (x : Belief N) → f < N → state_at old f ≡ Some a → AreStepped config p groups beliefs old f states
      → b ≡ agreed_after N config p a (get_or beliefs f x).done (get_or beliefs f x).rows → states' ≡ with_state N states (ids_where (λ i. first_of groups i == f) N) b
      → IsAgreed N config b → AreStepped config p groups beliefs old (f + 1) states'
  stepped_put f states states' a b x low here m is are valid = record {
    so_far = λ j d within less. elim (cases_eq (first_of groups j) f) [
      | inl e ↦
          each j within
          ∙ cond-true (has_id (ids_where (λ i. first_of groups i == f) N) j) (Some b) (state_at states j) (has-filter (λ i. first_of groups i == f) N j within ∙ eq-eqb (first_of groups j) f e)
          ∙ ap Some is
          ∙ ap (λ (y : Belief N). after_by config p (Some a) y) (same_at beliefs f x d (let w = many in omega arith))
          ∙ sym (ap₂ (λ (o : Option AgreedView) (k : ℕ). after_by config p o (get_or beliefs k d)) (ap (state_at old) e ∙ here) e)
      | inr ne ↦ away j within ne ∙ m.so_far j d within (omega arith)
    ];
    later = λ j within high. let ne : first_of groups j ≢ f = omega arith in away j within ne ∙ m.later j within (omega arith);
    agreed = λ j y at. elim (cases_lt j N) [
      | inl within ↦ chosen j (has_id (ids_where (λ i. first_of groups i == f) N) j) y (sym (each j within) ∙ at)
      | inr behind ↦ absurd (let clash : None ≡ Some y = sym (past j behind) ∙ at in cc)
    ];
  }
    where
      chosen : (j : ℕ) (among : Bool) (y : AgreedView) → (if among then Some b else state_at states j) ≡ Some y → IsAgreed N config y
      chosen j true y at = subst (IsAgreed N config) (same_Some b y at) valid
      chosen j false y at = m.agreed j y at

      past : (j : ℕ) → N ≤ j → state_at states' j ≡ None
      past j behind =
          ap (λ (xs : List (Option AgreedView)). state_at xs j) are
          ∙ get_or_past (with_state N states (ids_where (λ i. first_of groups i == f) N) b) j None
          (let l = length-map-range_with_len (λ k. if has_id (ids_where (λ i. first_of groups i == f) N) k then Some b else state_at states k) 0 N in omega (arith, l, behind))

      each : (j : ℕ) → j < N → state_at states' j ≡ (if has_id (ids_where (λ i. first_of groups i == f) N) j then Some b else state_at states j)
      each j within =
          ap (λ (xs : List (Option AgreedView)). state_at xs j) are
          ∙ get_or-map-range_with_len (λ k. if has_id (ids_where (λ i. first_of groups i == f) N) k then Some b else state_at states k) 0 N j j None within (omega arith)

      away : (j : ℕ) → j < N → first_of groups j ≢ f → state_at states' j ≡ state_at states j
      away j within ne =
          each j within
          ∙ cond-false (has_id (ids_where (λ i. first_of groups i == f) N) j) (Some b) (state_at states j) (has-filter (λ i. first_of groups i == f) N j within ∙ ne_eqb (first_of groups j) f ne)

  -- ---- all groups

  first_low : (i : ℕ) → i < N → first_of groups i < N
  first_low i low = let e = firsts.early i low in omega arith

  pub all_stepped : (f : ℕ) (states : List (Option AgreedView)) → N ≤ f → AreStepped config p groups beliefs old f states → (i : ℕ) (a : AgreedView) (d : Belief N) → i < N → state_at old i ≡ Some a
      → state_at states i ≡ Some (agreed_after N config p a (belief_of d beliefs groups i).done (belief_of d beliefs groups i).rows)
  all_stepped f states end m i a d low is =
      m.so_far i d low (let l = first_low i low in omega arith)
      ∙ ap (λ (o : Option AgreedView). after_by config p o (get_or beliefs (first_of groups i) d)) (shared i low ∙ is)

  pub none_stepped : (f : ℕ) (states : List (Option AgreedView)) (d : Belief N) → N ≤ f → AreStepped config p groups beliefs old f states → (i : ℕ) → i < N → state_at old i ≡ None → state_at states i ≡ None
  none_stepped f states d end m i low is =
      m.so_far i d low (let l = first_low i low in omega arith)
      ∙ ap (λ (o : Option AgreedView). after_by config p o (get_or beliefs (first_of groups i) d)) (shared i low ∙ is)
