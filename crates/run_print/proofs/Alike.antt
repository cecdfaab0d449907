-- What tests tell of lists that are equal.
use Rattle.std.proofs.Common.{rules, ◌≡◌, ℕ, Bool, true, false, not, ◌&&◌, List, [], ◌∷◌, Option, None, Some, ℤ, refl, sym, ap, ap₂, ◌∙◌, true≢false}
use Rattle.std.specs.Prelude.{nat_eq, ◌++◌, map, codes}
use Rattle.std.specs.Option.{option_eq}
use Rattle.std.specs.Ordering.{int_eq}
use Rattle.std.specs.Cmp.Lexicographic.{pointwise, same_text}
use Rattle.std.proofs.lemmas.Bool.{eqb-true}
use Rattle.std.proofs.lemmas.Bool.Decides.{Decides-int_eq}
use Rattle.omh_paths.specs.declared.wrapped.Wrapped.{Wrapped}
use Rattle.node_steps.specs.Outcome.{Outcome}
use Rattle.shared_states.specs.declared.belief.Belief.{Belief}
use Rattle.shown_period.specs.Whole.{Believes}
use Rattle.agreed_state.specs.Agreed.{AgreedView}
use Rattle.run_text.specs.Text.{separated, done_item, rows_item, votes_text, mode_text}
use Rattle.run_text.specs.NodeText.{state_text, settled_text, beliefs_text}
use Rattle.run_print.specs.Common.{AreSettledAlike}
use Rattle.omh_paths.specs.declared.wrapped.Wrapped.TheVariants.{Plain, Fault}
use denote.Enum.Bare.{sameb}
use Rattle.node_core.specs.contracts.outcome.Mode.{the_type}
use Rattle.node_core.specs.declared.outcome.Mode.{Mode}
use Rattle.node_core.specs.declared.outcome.Mode.TheVariants.{Full, Joining, Cold}

found : {X : Type 0} → X → Option X → X
found x None = x
found x (Some y) = y

pub some_same : {X : Type 0} (x y : X) → Some x ≡ Some y → x ≡ y
unfolding found
some_same x y e = ap (found x) e

-- a test for what differs that failed
pub told : (r b : Bool) → r ≡ not b → r ≡ false → b ≡ true
told r true h e = refl
told r false h e = sym e ∙ h

first : (s t : Bool) → (s && t) ≡ true → s ≡ true
first true t h = refl
first false t h = h

second : (s t : Bool) → (s && t) ≡ true → t ≡ true
second true t h = h
second false t h = absurd (true≢false (sym h))

module _ {X : Type 0} (E : X → X → Bool) (exact : (x y : X) → E x y ≡ true → x ≡ y) where
  options_same : (x y : Option X) → option_eq E x y ≡ true → x ≡ y
  options_same None None h = refl
  options_same None (Some y) h = absurd (true≢false (sym h))
  options_same (Some x) None h = absurd (true≢false (sym h))
  options_same (Some x) (Some y) h = ap Some (exact x y h)

  lists_same : (xs ys : List X) → pointwise E xs ys ≡ true → xs ≡ ys
  lists_same [] [] h = refl
  lists_same [] (y ∷ ys) h = absurd (true≢false (sym h))
  lists_same (x ∷ xs) [] h = absurd (true≢false (sym h))
  lists_same (x ∷ xs) (y ∷ ys) h =
      ap₂ (λ (z : X) (zs : List X). z ∷ zs) (exact x y (first (E x y) (pointwise E xs ys) h)) (lists_same xs ys (second (E x y) (pointwise E xs ys) h))

int_exact : (x y : ℤ) → int_eq x y ≡ true → x ≡ y
int_exact x y h = search (rules, Decides-int_eq x y, h)

pub numbers_same : (xs ys : List ℕ) → pointwise nat_eq xs ys ≡ true → xs ≡ ys
numbers_same xs ys h = same_text xs ys (sym h)

abbrev pub text_of : ℕ → List ℕ → List (Option (List ℕ)) → List (Wrapped ℕ) → List ℕ → List (Option ℤ) → List ℕ
text_of nodes members rows done due votes =
    codes "\n  done " ++ separated (codes " ") (map (done_item done) members)
    ++ codes "\n  rows " ++ separated (codes " ") (map (rows_item nodes rows) members)
    ++ codes "\n  votes " ++ votes_text votes due ++ codes "\n"

-- nodes that settled and voted the same have one text
pub settled_same : (nodes : ℕ) (one other : Outcome) → AreSettledAlike one other → settled_text nodes one ≡ settled_text nodes other
settled_same nodes one other h =
    ap (λ (x : List ℕ). text_of nodes x one.rows one.done one.due one.votes) h.members
    ∙ ap (λ (x : List (Option (List ℕ))). text_of nodes other.members x one.done one.due one.votes) h.rows
    ∙ ap (λ (x : List (Wrapped ℕ)). text_of nodes other.members other.rows x one.due one.votes) h.done
    ∙ ap (λ (x : List ℕ). text_of nodes other.members other.rows other.done x one.votes) h.due
    ∙ ap (λ (x : List (Option ℤ)). text_of nodes other.members other.rows other.done other.due x) h.votes

-- by what a node believes, and its members
pub settled_by : {N : ℕ} (nodes : ℕ) (o : Outcome) (b : Belief N) (members : List ℕ) → Believes o b → members ≡ o.members
    → text_of nodes members b.rows b.done b.due.items b.votes ≡ settled_text nodes o
settled_by nodes o b members h same =
    ap (λ (x : List ℕ). text_of nodes x b.rows b.done b.due.items b.votes) same
    ∙ ap (λ (x : List (Option (List ℕ))). text_of nodes o.members x b.done b.due.items b.votes) (sym h.rows)
    ∙ ap (λ (x : List (Wrapped ℕ)). text_of nodes o.members o.rows x b.due.items b.votes) (sym h.done)
    ∙ ap (λ (x : List ℕ). text_of nodes o.members o.rows o.done x b.votes) (sym h.due)
    ∙ ap (λ (x : List (Option ℤ)). text_of nodes o.members o.rows o.done o.due x) (sym h.votes)

pub rows_same : (E : List ℕ → List ℕ → Bool) → ((x y : List ℕ) → E x y ≡ pointwise nat_eq x y) → (xs ys : List (Option (List ℕ))) → pointwise (option_eq E) xs ys ≡ true → xs ≡ ys
rows_same E is = lists_same (option_eq E) (options_same E (λ x y h. same_text x y (sym h ∙ is x y)))

-- a test of claims that tells plain ones from errors, and compares what they carry
pub claims_same : (E : Wrapped ℕ → Wrapped ℕ → Bool) → ((a b : ℕ) → E (Plain a) (Plain b) ≡ nat_eq a b) → ((a b : ℕ) → E (Fault a) (Fault b) ≡ nat_eq a b)
    → ((a b : ℕ) → E (Plain a) (Fault b) ≡ false) → ((a b : ℕ) → E (Fault a) (Plain b) ≡ false) → (xs ys : List (Wrapped ℕ)) → pointwise E xs ys ≡ true → xs ≡ ys
claims_same E plain fault other another = lists_same E exact where
  exact : (x y : Wrapped ℕ) → E x y ≡ true → x ≡ y
  exact (Plain a) (Plain b) h = ap Plain (eqb-true a b (sym (plain a b) ∙ h))
  exact (Plain a) (Fault b) h = absurd (true≢false (sym h ∙ other a b))
  exact (Fault a) (Plain b) h = absurd (true≢false (sym h ∙ another a b))
  exact (Fault a) (Fault b) h = ap Fault (eqb-true a b (sym (fault a b) ∙ h))

-- nodes that go through a period the same way, and believe the same, have one text
pub beliefs_same : (nodes retire : ℕ) (one other : Outcome) → one.mode ≡ other.mode → one.agreed ≡ other.agreed → AreSettledAlike one other
    → beliefs_text nodes retire one one.agreed ≡ beliefs_text nodes retire other other.agreed
beliefs_same nodes retire one other mode agreed settled =
    by_state one.agreed ∙ ap (λ (a : Option AgreedView). beliefs_text nodes retire other a) agreed
  where
    by_state : (a : Option AgreedView) → beliefs_text nodes retire one a ≡ beliefs_text nodes retire other a
    by_state None = refl
    by_state (Some a) =
        ap (λ (text : List ℕ). text ++ state_text nodes retire a ++ settled_text nodes one) (ap mode_text mode)
        ∙ ap (λ (text : List ℕ). mode_text other.mode ++ state_text nodes retire a ++ text) (settled_same nodes one other settled)

-- the test for how nodes go through a period
pub modes_same : (x y : Mode) → sameb the_type x y ≡ true → x ≡ y
modes_same Full Full h = refl
modes_same Full Joining h = cc
modes_same Full Cold h = cc
modes_same Joining Full h = cc
modes_same Joining Joining h = refl
modes_same Joining Cold h = cc
modes_same Cold Full h = cc
modes_same Cold Joining h = cc
modes_same Cold Cold h = refl
