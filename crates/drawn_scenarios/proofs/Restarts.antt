-- Restarts come in the order of their periods, and in a period in that of their nodes.
use Rattle.std.proofs.Common.{◌≡◌, ℕ, zero, suc, ◌+◌, ◌-◌, ◌<◌, ◌≤◌, true, List, [], ◌∷◌, ◌++◌, map, filter, Option, None, Some, refl, inl, inr, arith, eqb-true, eq-eqb}
use Rattle.std.specs.Prelude.{nat_lt}
use Rattle.std.specs.List.{range_with_len, flat_map, AllByRecursion}
use Rattle.std.proofs.lemmas.Bool.{cases_Bool, and_from, and_parts, or_left, or_right, lt-ltb, le-leb}
use Rattle.fault_classes.specs.declared.line.Restart.{Restart}
use Rattle.fault_classes.specs.Rules.{comes_after}
use Rattle.scenario.specs.Parts.{RestartParts}
use Rattle.scenario.specs.Rules.{is_restart_part, first_refused_restart}
use Rattle.drawn_scenarios.specs.declared.choices.Choices.{Choices}
use Rattle.drawn_scenarios.specs.declared.bout.Bout.{Bout}
use Rattle.drawn_scenarios.specs.Lines.{restarts_in, restart_at, restarts_at, restarts_of}
use Rattle.drawn_scenarios.proofs.Shape.{IsBout, Comes, Ordered}

-- the restart of a bout's node in period p
abbrev made_at : ℕ → Bout → Restart
made_at p b = record { node = b.node; period = p }

-- a bout whose node restarts in period p, and one whose node comes before all later ones
record IsAt (c : Choices) (p : ℕ) (b : Bout) : Type 0 where
  is : IsBout c b
  at : b.last + c.restart ≡ p

abbrev NodesUp : List Bout → Type 0
NodesUp [] = Unit {0}
NodesUp (b ∷ bs) = AllByRecursion (λ x. b.node < x.node) bs × NodesUp bs

module _ (c : Choices) where
  at_period : (p : ℕ) (bs : List Bout) → AllByRecursion (IsBout c) bs → AllByRecursion (IsAt c p) (filter (restarts_in c p) bs)
  at_period p [] each = tt
  at_period p (b ∷ bs) each = elim (cases_Bool (restarts_in c p b)) [
    | inl on ↦
        let h = and_parts (nat_lt 0 c.restart) _ on in
        rw on (record { is = each.0; at = eqb-true _ _ h.1 }, at_period p bs each.1)
    | inr off ↦ rw off (at_period p bs each.1)
  ]

  -- of bouts that come later those whose nodes restart in the same period are of later nodes
  later_nodes : (p : ℕ) (b : Bout) (bs : List Bout) → IsAt c p b → AllByRecursion (Comes b) bs → AllByRecursion (IsBout c) bs → AllByRecursion (λ x. b.node < x.node) (filter (restarts_in c p) bs)
  later_nodes p b [] at comes each = tt
  later_nodes p b (x ∷ xs) at comes each = elim (cases_Bool (restarts_in c p x)) [
    | inl on ↦
        let h = and_parts (nat_lt 0 c.restart) _ on in
        let one = at.at in let other : x.last + c.restart ≡ p = eqb-true _ _ h.1 in
        let low = each.0.some in
        rw on (elim comes.0 [ inl less ↦ less | inr same ↦ let late = same.1 in absurd (omega arith) ], later_nodes p b xs at comes.1 each.1)
    | inr off ↦ rw off (later_nodes p b xs at comes.1 each.1)
  ]

  nodes_up : (p : ℕ) (bs : List Bout) → AllByRecursion (IsBout c) bs → Ordered bs → NodesUp (filter (restarts_in c p) bs)
  nodes_up p [] each ordered = tt
  nodes_up p (b ∷ bs) each ordered = elim (cases_Bool (restarts_in c p b)) [
    | inl on ↦
        let h = and_parts (nat_lt 0 c.restart) _ on in
        rw on (later_nodes p b bs (record { is = each.0; at = eqb-true _ _ h.1 }) ordered.0 each.1, nodes_up p bs each.1 ordered.1)
    | inr off ↦ rw off (nodes_up p bs each.1 ordered.1)
  ]

  -- ---- one restart after another

  abbrev Under : ℕ → Option Restart → Type 0
  Under p None = Unit {0}
  Under p (Some r) = r.period < p

  after_under : (p : ℕ) (before : Option Restart) (b : Bout) → Under p before → comes_after before (made_at p b) ≡ true
  after_under p None b u = refl
  after_under p (Some r) b u = or_left _ _ (lt-ltb r.period p u)

  is_good : (p : ℕ) (before : Option Restart) (b : Bout) → 1 ≤ p → p < c.periods → IsBout c b → comes_after before (made_at p b) ≡ true → is_restart_part c.nodes c.periods before (restart_at p b) ≡ true
  is_good p before b some early is after =
      and_from _ _ (lt-ltb b.node c.nodes is.node) (and_from _ _ (lt-ltb p c.periods early)
      (and_from _ _ (and_from _ _ (lt-ltb b.node c.nodes is.node) (and_from _ _ (le-leb 1 p some) (le-leb p (c.periods - 1) (omega arith)))) after))

  -- the restarts of period p, and then those of later periods
  through : (p k : ℕ) (before : Option Restart) (xs : List Bout) (rest : List RestartParts) → 1 ≤ p → p < c.periods → AllByRecursion (IsAt c p) xs → NodesUp xs
      → AllByRecursion (λ x. comes_after before (made_at p x) ≡ true) xs → Under (p + 1) before
      → ((i : ℕ) (last : Option Restart) → Under (p + 1) last → first_refused_restart c.nodes c.periods last i rest ≡ None)
      → first_refused_restart c.nodes c.periods before k (map (restart_at p) xs ++ rest) ≡ None
  through p k before [] rest some early at up after under on = on k before under
  through p k before (x ∷ xs) rest some early at up after under on =
      rw (is_good p before x some early at.0.is after.0)
      (through p (k + 1) (Some (made_at p x)) xs rest some early at.1 up.1 (after_this xs up.0) (omega arith) on)
    where
      after_this : (ys : List Bout) → AllByRecursion (λ y. x.node < y.node) ys → AllByRecursion (λ y. comes_after (Some (made_at p x)) (made_at p y) ≡ true) ys
      after_this [] l = tt
      after_this (y ∷ ys) l = (or_right (nat_lt p p) _ (and_from _ _ (eq-eqb p p refl) (lt-ltb x.node y.node l.0)), after_this ys l.1)

  all_after : (p : ℕ) (before : Option Restart) (xs : List Bout) → Under p before → AllByRecursion (λ x. comes_after before (made_at p x) ≡ true) xs
  all_after p before [] u = tt
  all_after p before (x ∷ xs) u = (after_under p before x u, all_after p before xs u)

  under_next : (p : ℕ) (before : Option Restart) → Under p before → Under (p + 1) before
  under_next p None u = tt
  under_next p (Some r) u = omega arith

  from_period : (bs : List Bout) → AllByRecursion (IsBout c) bs → Ordered bs → (n p k : ℕ) (before : Option Restart) → 1 ≤ p → p + n ≤ c.periods → Under p before
      → first_refused_restart c.nodes c.periods before k (flat_map (restarts_at c bs) (range_with_len p n)) ≡ None
  from_period bs each ordered zero p k before some end under = refl
  from_period bs each ordered (suc n) p k before some end under =
      through p k before (filter (restarts_in c p) bs) (flat_map (restarts_at c bs) (range_with_len (p + 1) n)) some (omega arith) (at_period p bs each) (nodes_up p bs each ordered)
      (all_after p before (filter (restarts_in c p) bs) under) (under_next p before under)
      (λ i last u. from_period bs each ordered n (p + 1) i last (omega arith) (omega arith) u)

  pub in_order : (bs : List Bout) → 1 ≤ c.periods → AllByRecursion (IsBout c) bs → Ordered bs → first_refused_restart c.nodes c.periods None 0 (restarts_of c bs) ≡ None
  in_order bs some each ordered = from_period bs each ordered (c.periods - 1) 1 0 None (omega arith) (omega arith) tt
