-- What is noted round by round.
use Rattle.std.proofs.Common.{ℕ, zero, suc, ◌≡◌, ◌≢◌, ◌<◌, ◌≤◌, ◌+◌, ◌==◌, ◌||◌, ◌&&◌, Bool, true, false, Option, None, Some, List, [], ◌∷◌, ◌++◌, refl, sym, ap, ◌∙◌, inl, inr, arith, ne_eqb}
use Rattle.std.specs.List.{list_any, range_with_len}
use Rattle.std.proofs.lemmas.Bool.{cases_Bool, cases_eq, cond-true, cond-false}
use Rattle.node_grid.specs.NodeSet.{has_id}
use Rattle.node_grid.specs.ListLaws.{has_push, eqb_sym}
use Rattle.node_grid.specs.Version.{kind_count}
use Rattle.node_grid.specs.ListFacts.{any_more}
use Rattle.node_grid.specs.NumberFacts.{kinds-few}
use Rattle.node_grid.specs.TruthFacts.{and_false, or_assoc, or_false}
use Rattle.error_reports.specs.Notes.{Notes, is_kind, also_noted, also_carried}
use Rattle.error_reports.specs.NoteLaws.{noted_alike, noted_twice, carried_alike}
use Rattle.protocol.specs.Arrival.{Arrival, is_bad}
use Rattle.protocol.specs.Arrival.Arrival.{Bad, Good}
use Rattle.protocol.specs.Heard.{Rounds, rounds_bad}
use Rattle.touched_items.specs.Items.{bad_kind}
use Rattle.heard_links.specs.Hearing.{frame_kind}
use Rattle.agreed_state.specs.declared.config.Config.{Config}
use Rattle.item_phase.specs.Noted.{found_below, of_node, IsNoter, IsCarrier}

-- a frame's kind of error is the one that it has
kind_is : {C : Type 0} (a : Arrival C) (e : ℕ) → is_kind (bad_kind a) e ≡ is_bad a e
kind_is (Bad k) e = refl
kind_is (Good c) e = refl

first_kind : {V : Type 0} (x : Rounds V) (j e : ℕ) → is_kind (frame_kind x 0 j) e ≡ is_bad (x.first j) e
first_kind x j e = kind_is (x.first j) e

relay_kind : {V : Type 0} (x : Rounds V) (r j e : ℕ) → is_kind (frame_kind x (suc r) j) e ≡ is_bad (x.relay (suc r) j) e
relay_kind x r j e =
    ap (λ (o : Option ℕ). is_kind o e) (cond-false (suc r == 0) (bad_kind (x.first j)) (bad_kind (x.relay (suc r) j)) (ne_eqb (suc r) 0 (λ h. omega arith))) ∙ kind_is (x.relay (suc r) j) e

-- one round more
pub found_more : {V : Type 0} (x : Rounds V) (r j e : ℕ) → (found_below r x j e || is_kind (frame_kind x r j) e) ≡ found_below (suc r) x j e
found_more x zero j e = first_kind x j e ∙ sym (or_false (is_bad (x.first j) e))
found_more x (suc r) j e =
    ap (λ (c : Bool). rounds_bad r x j e || c) (relay_kind x r j e)
    ∙ or_assoc (is_bad (x.first j) e) (list_any (λ n. is_bad (x.relay n j) e) (range_with_len 1 r)) (is_bad (x.relay (suc r) j) e)
    ∙ ap (λ (c : Bool). is_bad (x.first j) e || c) (sym (any_more (λ n. is_bad (x.relay n j) e) 1 r ∙ ap (λ (n : ℕ). list_any (λ n. is_bad (x.relay n j) e) (range_with_len 1 r) || is_bad (x.relay n j) e) (let h : 1 + r ≡ suc r = omega arith in h)))

pub some_kinds : (version : ℕ) → 8 ≤ kind_count version
some_kinds version = elim (cases_Bool (version == 1)) [
  | inl one ↦ let e : kind_count version ≡ 8 = cond-true (version == 1) 8 16 one in omega arith
  | inr other ↦ let e : kind_count version ≡ 16 = cond-false (version == 1) 8 16 other in omega arith
]

-- ---- what is found of one node, round by round

and_either : (b p q : Bool) → ((b && p) || (b && q)) ≡ (b && (p || q))
and_either true p q = refl
and_either false p q = refl

-- what the frames of one node say so far, and what the next one says
one_more : {V : Type 0} (x : Rounds V) (r j kind : ℕ) → frame_kind x r j ≡ Some kind → (k e : ℕ) → (of_node j (found_below r x) k e || (k == j && e == kind)) ≡ of_node j (found_below (suc r) x) k e
one_more x r j kind is k e =
    and_either (k == j) (found_below r x j e) (e == kind)
    ∙ ap (λ (b : Bool). k == j && b)
    (ap (λ (b : Bool). found_below r x j e || b) (eqb_sym e kind ∙ ap (λ (o : Option ℕ). is_kind o e) (sym is)) ∙ found_more x r j e)

none_more : {V : Type 0} (x : Rounds V) (r j : ℕ) → frame_kind x r j ≡ None → (k e : ℕ) → of_node j (found_below r x) k e ≡ of_node j (found_below (suc r) x) k e
none_more x r j is k e =
    ap (λ (b : Bool). k == j && b)
    (sym (or_false (found_below r x j e)) ∙ ap (λ (o : Option ℕ). found_below r x j e || is_kind o e) (sym is) ∙ found_more x r j e)

pub noted_more : {V : Type 0} (capacity : ℕ) (n : Notes) (x : Rounds V) (r j kind : ℕ) → n.kinds ≤ 16 → frame_kind x r j ≡ Some kind
    → also_noted capacity (also_noted capacity n (of_node j (found_below r x))) (λ k e. k == j && e == kind) ≡ also_noted capacity n (of_node j (found_below (suc r) x))
noted_more capacity n x r j kind few is =
    noted_twice capacity n (of_node j (found_below r x)) (λ k e. k == j && e == kind) few
    ∙ noted_alike capacity n (λ k e. of_node j (found_below r x) k e || (k == j && e == kind)) (of_node j (found_below (suc r) x)) (λ k e low used other within. one_more x r j kind is k e)

pub noted_same : {V : Type 0} (capacity : ℕ) (n : Notes) (x : Rounds V) (r j : ℕ) → frame_kind x r j ≡ None
    → also_noted capacity n (of_node j (found_below r x)) ≡ also_noted capacity n (of_node j (found_below (suc r) x))
noted_same capacity n x r j is = noted_alike capacity n (of_node j (found_below r x)) (of_node j (found_below (suc r) x)) (λ k e low used other within. none_more x r j is k e)

-- the same of what is carried over
carried_twice : (capacity : ℕ) (n : Notes) (p q : ℕ → ℕ → Bool) → n.kinds ≤ 16 → also_carried capacity (also_carried capacity n p) q ≡ also_carried capacity n (λ j k. p j k || q j k)
carried_twice capacity n p q few =
    ap (λ (x : Notes). record n { carried = x.row }) (noted_twice capacity (record n { row = n.carried }) p q few)

pub carried_more : {V : Type 0} (capacity : ℕ) (n : Notes) (x : Rounds V) (r j kind : ℕ) → n.kinds ≤ 16 → frame_kind x r j ≡ Some kind
    → also_carried capacity (also_carried capacity n (of_node j (found_below r x))) (λ k e. k == j && e == kind) ≡ also_carried capacity n (of_node j (found_below (suc r) x))
carried_more capacity n x r j kind few is =
    carried_twice capacity n (of_node j (found_below r x)) (λ k e. k == j && e == kind) few
    ∙ carried_alike capacity n (λ k e. of_node j (found_below r x) k e || (k == j && e == kind)) (of_node j (found_below (suc r) x)) (λ k e low used other within. one_more x r j kind is k e)

pub carried_same : {V : Type 0} (capacity : ℕ) (n : Notes) (x : Rounds V) (r j : ℕ) → frame_kind x r j ≡ None
    → also_carried capacity n (of_node j (found_below r x)) ≡ also_carried capacity n (of_node j (found_below (suc r) x))
carried_same capacity n x r j is = carried_alike capacity n (of_node j (found_below r x)) (of_node j (found_below (suc r) x)) (λ k e low used other within. none_more x r j is k e)

-- before the first round, and behind the last one
pub noted_none : {V : Type 0} (capacity : ℕ) (n : Notes) (x : Rounds V) (j : ℕ) → also_noted capacity n (λ j e. false) ≡ n → n ≡ also_noted capacity n (of_node j (found_below 0 x))
noted_none capacity n x j within =
    sym within ∙ noted_alike capacity n (λ k e. false) (of_node j (found_below 0 x)) (λ k e low used other there. sym (and_false (k == j)))

pub carried_none : {V : Type 0} (capacity : ℕ) (n : Notes) (x : Rounds V) (j : ℕ) → also_carried capacity n (λ j e. false) ≡ n → n ≡ also_carried capacity n (of_node j (found_below 0 x))
carried_none capacity n x j within =
    sym within ∙ carried_alike capacity n (λ k e. false) (of_node j (found_below 0 x)) (λ k e low used other there. sym (and_false (k == j)))

pub noted_all : {V : Type 0} (capacity : ℕ) (n : Notes) (x : Rounds V) (m r j : ℕ) → r ≡ m + 1 → also_noted capacity n (of_node j (found_below r x)) ≡ also_noted capacity n (of_node j (rounds_bad m x))
noted_all capacity n x m r j e = let s : r ≡ suc m = omega arith in ap (λ (k : ℕ). also_noted capacity n (of_node j (found_below k x))) s

pub carried_all : {V : Type 0} (capacity : ℕ) (n : Notes) (x : Rounds V) (m r j : ℕ) → r ≡ m + 1 → also_carried capacity n (of_node j (found_below r x)) ≡ also_carried capacity n (of_node j (rounds_bad m x))
carried_all capacity n x m r j e = let s : r ≡ suc m = omega arith in ap (λ (k : ℕ). also_carried capacity n (of_node j (found_below k x))) s

-- ---- node after node

-- what is found of these nodes
abbrev pub of_nodes : List ℕ → (ℕ → ℕ → Bool) → ℕ → ℕ → Bool
of_nodes nodes says k e = has_id nodes k && says k e

node_more : (nodes : List ℕ) (says : ℕ → ℕ → Bool) (q k e : ℕ) → (of_nodes nodes says k e || of_node q says k e) ≡ of_nodes (nodes ++ q ∷ []) says k e
node_more nodes says q k e =
    ap (λ (b : Bool). of_nodes nodes says k e || b) (same_node (k == q) refl) ∙ either_and (has_id nodes k) (k == q) (says k e)
    ∙ ap (λ (b : Bool). b && says k e) (ap (λ (b : Bool). has_id nodes k || b) (eqb_sym k q) ∙ sym (has_push nodes q k))
  where
    same_node : (b : Bool) → (k == q) ≡ b → ((k == q) && says q e) ≡ ((k == q) && says k e)
    same_node b is = elim (cases_eq k q) [
      | inl here ↦ ap (λ (i : ℕ). (k == q) && says i e) (sym here)
      | inr ne ↦ ap (λ (b : Bool). b && says q e) (ne_eqb k q ne) ∙ sym (ap (λ (b : Bool). b && says k e) (ne_eqb k q ne))
    ]

    either_and : (a b c : Bool) → ((a && c) || (b && c)) ≡ ((a || b) && c)
    either_and true true true = refl
    either_and true true false = refl
    either_and true false true = refl
    either_and true false false = refl
    either_and false b c = refl

-- the node itself is left out
me_more : (nodes : List ℕ) (says : ℕ → ℕ → Bool) (q k e : ℕ) → k ≢ q → of_nodes nodes says k e ≡ of_nodes (nodes ++ q ∷ []) says k e
me_more nodes says q k e ne =
    ap (λ (b : Bool). b && says k e) (sym (or_false (has_id nodes k)) ∙ ap (λ (b : Bool). has_id nodes k || b) (sym (ne_eqb q k (λ h. ne (sym h)))) ∙ sym (has_push nodes q k))

-- all of whom something is found
whole : (nodes : List ℕ) (says : ℕ → ℕ → Bool) (k e : ℕ) → (has_id nodes k ≡ false → says k e ≡ false) → of_nodes nodes says k e ≡ says k e
whole nodes says k e none = elim (cases_Bool (has_id nodes k)) [
  | inl on ↦ ap (λ (b : Bool). b && says k e) on
  | inr off ↦ ap (λ (b : Bool). b && says k e) off ∙ sym (none off)
]

module _ (capacity : ℕ) (n : Notes) (says : ℕ → ℕ → Bool) where
  pub noted_next : (nodes : List ℕ) (q : ℕ) → n.kinds ≤ 16 → also_noted capacity (also_noted capacity n (of_nodes nodes says)) (of_node q says) ≡ also_noted capacity n (of_nodes (nodes ++ q ∷ []) says)
  noted_next nodes q few =
      noted_twice capacity n (of_nodes nodes says) (of_node q says) few
      ∙ noted_alike capacity n (λ k e. of_nodes nodes says k e || of_node q says k e) (of_nodes (nodes ++ q ∷ []) says) (λ k e low used other within. node_more nodes says q k e)

  pub noted_me : (nodes : List ℕ) (q : ℕ) → q ≡ n.me → also_noted capacity n (of_nodes nodes says) ≡ also_noted capacity n (of_nodes (nodes ++ q ∷ []) says)
  noted_me nodes q me = noted_alike capacity n (of_nodes nodes says) (of_nodes (nodes ++ q ∷ []) says) (λ k e low used other within. me_more nodes says q k e (λ h. other (h ∙ me)))

  pub noted_whole : (nodes : List ℕ) → ((k e : ℕ) → k < n.nodes → k ≢ n.me → has_id nodes k ≡ false → says k e ≡ false) → also_noted capacity n (of_nodes nodes says) ≡ also_noted capacity n says
  noted_whole nodes none = noted_alike capacity n (of_nodes nodes says) says (λ k e low used other within. whole nodes says k e (none k e used other))

  pub noted_start : also_noted capacity n (λ k e. false) ≡ n → n ≡ also_noted capacity n (of_nodes [] says)
  noted_start within = sym within

  pub carried_next : (nodes : List ℕ) (q : ℕ) → n.kinds ≤ 16 → also_carried capacity (also_carried capacity n (of_nodes nodes says)) (of_node q says) ≡ also_carried capacity n (of_nodes (nodes ++ q ∷ []) says)
  carried_next nodes q few =
      carried_twice capacity n (of_nodes nodes says) (of_node q says) few
      ∙ carried_alike capacity n (λ k e. of_nodes nodes says k e || of_node q says k e) (of_nodes (nodes ++ q ∷ []) says) (λ k e low used other within. node_more nodes says q k e)

  pub carried_me : (nodes : List ℕ) (q : ℕ) → q ≡ n.me → also_carried capacity n (of_nodes nodes says) ≡ also_carried capacity n (of_nodes (nodes ++ q ∷ []) says)
  carried_me nodes q me = carried_alike capacity n (of_nodes nodes says) (of_nodes (nodes ++ q ∷ []) says) (λ k e low used other within. me_more nodes says q k e (λ h. other (h ∙ me)))

  pub carried_whole : (nodes : List ℕ) → ((k e : ℕ) → k < n.nodes → k ≢ n.me → has_id nodes k ≡ false → says k e ≡ false) → also_carried capacity n (of_nodes nodes says) ≡ also_carried capacity n says
  carried_whole nodes none = carried_alike capacity n (of_nodes nodes says) says (λ k e low used other within. whole nodes says k e (none k e used other))

  pub carried_start : also_carried capacity n (λ k e. false) ≡ n → n ≡ also_carried capacity n (of_nodes [] says)
  carried_start within = sym within

-- of a node none of whose frames is bad nothing is found
pub found_none : {V : Type 0} (x : Rounds V) (j e n : ℕ) → ((r : ℕ) → r < n → frame_kind x r j ≡ None) → (r : ℕ) → r ≤ n → found_below r x j e ≡ false
found_none x j e n none zero few = refl
found_none x j e n none (suc r) few =
    sym (found_more x r j e) ∙ ap (λ (b : Bool). b || is_kind (frame_kind x r j) e) (found_none x j e n none r (omega (arith, few)))
    ∙ ap (λ (o : Option ℕ). is_kind o e) (none r (omega (arith, few)))

-- notes stay what they are
pub noter_more : {N : ℕ} (config : Config N) (i : ℕ) (n : Notes) (p : ℕ → ℕ → Bool) → IsNoter config i n → IsNoter config i (also_noted N n p)
noter_more {N} config i n p is = record {
  nodes = is.nodes;
  me = is.me;
  kinds = is.kinds;
  within =
      noted_twice N n p (λ j e. false) (let few = kinds-few config.version in let e = is.kinds in omega arith)
      ∙ noted_alike N n (λ j e. p j e || false) p (λ j e low used other within. or_false (p j e));
}

pub carrier_more : {N : ℕ} (config : Config N) (i : ℕ) (n : Notes) (p : ℕ → ℕ → Bool) → IsCarrier config i n → IsCarrier config i (also_carried N n p)
carrier_more {N} config i n p is = record {
  nodes = is.nodes;
  me = is.me;
  kinds = is.kinds;
  within =
      carried_twice N n p (λ j e. false) (let few = kinds-few config.version in let e = is.kinds in omega arith)
      ∙ carried_alike N n (λ j e. p j e || false) p (λ j e low used other within. or_false (p j e));
}
