-- Clocks that no rule refuses are clocks for the nodes of their cluster.
use Rattle.std.proofs.Common.{◌≡◌, ◌≢◌, ℕ, ◌+◌, ◌-◌, ◌<◌, ◌≤◌, ◌%◌, ◌^◌, ◌==◌, ℤ, pos, neg_ℤ, Bool, true, false, List, [], map, length, get_or, Option, Some, None, refl, sym, ap, ◌∙◌, arith, inl, inr, subst}
use Rattle.std.specs.Prelude.{All, option_map, nat_lt}
use Rattle.std.proofs.lemmas.Bool.{and_parts, or_cases, cases_lt, eqb-true, leb-true, ltb-true, not-true}
use Rattle.std.proofs.lemmas.List.{length-map}
use Rattle.std.proofs.lemmas.List as list
use Rattle.std.proofs.lemmas.List.Elements.{All-map, All-from_recursion}
use Rattle.std.proofs.lemmas.Nat.{mod_below}
use Rattle.node_grid.specs.declared.class.Class.{Class}
use Rattle.node_grid.specs.declared.class.Class.TheVariants.{S}
use Rattle.node_grid.specs.NodeSet.{has_id}
use Rattle.node_grid.specs.ListFacts.{range_at}
use Rattle.node_grid.specs.TruthFacts.{first_none, second_none}
use Rattle.clock_skew.specs.Clock.{ClockView, LieView, clock_of, number_at, row_in_turn, AreUpTo, AreNear, IsLie, IsClock}
use Rattle.fault_classes.specs.Plan.{Plan, class_of}
use Rattle.protocol.specs.Run.{run, classes}
use Rattle.protocol.specs.Clocks.{IsFair, AreClocks}
use Rattle.scenario.specs.Facts.{unless_holds, no_place}
use Rattle.scenario.specs.Parts.{LieParts, ClockParts, ScenarioParts}
use Rattle.scenario.specs.Parts.Numbers.{all}
use Rattle.scenario.specs.Numbers.{is_between, natural}
use Rattle.scenario.specs.Line.{is_addressed, lie_in}
use Rattle.scenario.specs.Given.{padded, clock_given, plan_in, scenario_of}
use Rattle.scenario.specs.Rules.{unless, at_place, first_bad, are_rows, are_up_to, is_drift, is_clock, hears, is_to_all, may_tell, may_tell_in, is_fair, is_lie, fits_lie, clock_refused, clock_refusal, HasRanges}
use Rattle.scenario.specs.Scenario.{system_of}
use Rattle.scenario.proofs.Ranges.{within, passes, all_are}
use Rattle.scenario.proofs.Places.{holds_at, all_hold}
use Rattle.scenario.proofs.Rows.{close_row, padded_number, padded_row}
use Rattle.scenario.proofs.Plans.{addressed}

-- ---- rows

up_to : (capacity nodes : ℕ) (most : ℤ) (row : List ℤ) → are_up_to nodes most row ≡ true → AreUpTo nodes most (padded capacity row)
up_to capacity nodes most row h = λ i low.
    let p = and_parts _ _ h in
    let long = eqb-true (length row) nodes p.0 in
    let bounds = within (neg_ℤ most) most (number_at row i) (passes (is_between (neg_ℤ most) most) row i (pos 0) p.1 (omega arith)) in
    rw (padded_number capacity row i) bounds

-- each row that has a turn passes what all rows pass
in_turn : (is : List ℤ → Bool) (rows : List (List ℤ)) (k : ℕ) → are_rows is rows ≡ true → is (row_in_turn rows k) ≡ true
in_turn is rows k h =
    let p = and_parts _ _ h in
    let some = leb-true 1 (length rows) (and_parts _ _ p.0).0 in
    passes is rows (k % length rows) [] p.1 (mod_below k (length rows) (omega arith))

some_rows : (is : List ℤ → Bool) (rows : List (List ℤ)) → are_rows is rows ≡ true → 1 ≤ length rows
some_rows is rows h = leb-true 1 (length rows) (and_parts _ _ (and_parts _ _ h).0).0

few_rows : (is : List ℤ → Bool) (rows : List (List ℤ)) → are_rows is rows ≡ true → length rows ≤ 1024
few_rows is rows h = leb-true (length rows) 1024 (and_parts _ _ (and_parts _ _ h).0).1

turns_up_to : (capacity nodes : ℕ) (most : ℤ) (rows : List (List ℤ)) (k : ℕ) → 1 ≤ length rows → are_up_to nodes most (row_in_turn rows k) ≡ true → AreUpTo nodes most (row_in_turn (map (padded capacity) rows) k)
turns_up_to capacity nodes most rows k some h = subst (λ (row : List ℤ). AreUpTo nodes most row) (sym (padded_row capacity rows k some)) (up_to capacity nodes most (row_in_turn rows k) h)

turns_near : (capacity nodes : ℕ) (d : ℤ) (rows : List (List ℤ)) (k : ℕ) → 1 ≤ length rows → is_drift nodes d (row_in_turn rows k) ≡ true → AreNear nodes d (row_in_turn (map (padded capacity) rows) k)
turns_near capacity nodes d rows k some h = λ i j low low_too.
    let p = and_parts _ _ h in
    let long = eqb-true (length (row_in_turn rows k)) nodes (and_parts _ _ p.0).0 in
    let near = close_row d (row_in_turn rows k) i j p.1 (omega arith) (omega arith) in
    rw (padded_row capacity rows k some, padded_number capacity (row_in_turn rows k) i, padded_number capacity (row_in_turn rows k) j) near

-- ---- lies

lie_is : (plan : Plan) (nodes : ℕ) (l : LieParts) → nodes ≡ plan.nodes → 2 < nodes → is_lie plan l ≡ true → IsLie nodes (lie_in nodes l)
lie_is plan nodes l same some h =
    let p = and_parts _ _ (and_parts _ _ h).0 in
    let r = addressed nodes plan.periods l.from l.to l.periods some (ap (λ n. is_addressed n plan.periods l.from l.to l.periods) same ∙ p.0) in
    let to = and_parts _ _ r.receivers in
    record {
      from = r.sender;
      some = ltb-true _ _ to.0;
      to = all_are (λ i. nat_lt i nodes) (λ i. i < nodes) (lie_in nodes l).to (λ i low. ltb-true i nodes low) to.1;
      others = r.apart;
      periods = r.ordered;
      by = within (neg_ℤ (pos (2 ^ 40))) (pos (2 ^ 40)) l.by p.1;
    }

symmetric : (to_all : Bool) (c : Class) → c ≡ S → may_tell to_all c ≡ true → to_all ≡ true
symmetric true c e h = refl
symmetric false c e h = let f : may_tell false S ≡ true = sym (ap (may_tell false) e) ∙ h in let g : false ≡ true = f in cc

heard : (l : LieView) (nodes i : ℕ) → is_to_all nodes l ≡ true → i < nodes → i ≢ l.from → has_id l.to i ≡ true
heard l nodes i h low other = elim (or_cases (i == l.from) (has_id l.to i) (range_at (hears l) 0 nodes i h (omega arith) (omega arith))) [
  | inl e ↦ absurd (other (eqb-true i l.from e))
  | inr told ↦ told
]

fair_is : (plan : Plan) (l : LieView) → is_fair plan l ≡ true → IsFair (class_of plan) plan.nodes l
fair_is plan l h = λ p first last.
    let may : may_tell_in plan l p ≡ true = range_at (may_tell_in plan l) l.first (l.last + 1 - l.first) p h first (omega arith) in
    let parts = and_parts _ _ may in (
      not-true _ parts.0,
      λ e i low other. heard l plan.nodes i (symmetric (is_to_all plan.nodes l) (class_of plan p l.from) e may) low other,
    )

few_lies : (plan : Plan) (ls : List LieParts) → first_bad (fits_lie plan) 0 ls ≡ None → length ls ≤ 4096
few_lies plan ls h = elim (cases_lt 4096 (length ls)) [
  | inl more ↦ let e : false ≡ true = holds_at (fits_lie plan) 0 ls 4096 no_lie h more in cc
  | inr few ↦ few
]
  where
    no_lie : LieParts
    no_lie = record { from = pos 0; to = all; periods = []; by = pos 0 }

-- ---- the clocks

pub clock_is : (capacity nodes : ℕ) (plan : Plan) (c : ClockParts) → nodes ≡ plan.nodes → 2 < nodes → nodes ≤ capacity → is_clock nodes c ≡ true → first_bad (fits_lie plan) 0 c.lies ≡ None
    → IsClock capacity (clock_given capacity nodes c)
clock_is capacity nodes plan c same some room h lies =
    let p = and_parts _ _ h in
    let q = and_parts _ _ p.0 in
    let r = and_parts _ _ q.0 in
    let s = and_parts _ _ r.0 in
    let drifts = some_rows (is_drift nodes c.drift) c.drifts q.1 in
    let errors = some_rows (are_up_to nodes c.epsilon) c.errors p.1 in
    let turn = λ (k : ℕ). in_turn (is_drift nodes c.drift) c.drifts k q.1 in
    let few = few_rows (is_drift nodes c.drift) c.drifts q.1 in
    let few_too = few_rows (are_up_to nodes c.epsilon) c.errors p.1 in
    let long = length-map c.drifts (padded capacity) in
    let long_too = length-map c.errors (padded capacity) in
    let told = few_lies plan c.lies lies in
    let count = length-map c.lies (lie_in nodes) in
    record {
      nodes = room;
      epsilon = within (pos 0) (pos (2 ^ 20)) c.epsilon s.0;
      drift = within (pos 0) (pos (2 ^ 20)) c.drift s.1;
      start = up_to capacity nodes (pos (2 ^ 40)) c.start r.1;
      some_drifts = omega arith;
      few_drifts = omega arith;
      drifts = λ k. turns_up_to capacity nodes (pos (2 ^ 20)) c.drifts k drifts (and_parts _ _ (turn k)).0;
      close_drifts = λ k. turns_near capacity nodes c.drift c.drifts k drifts (turn k);
      some_errors = omega arith;
      few_errors = omega arith;
      errors = λ k. turns_up_to capacity nodes c.epsilon c.errors k errors (in_turn (are_up_to nodes c.epsilon) c.errors k p.1);
      few_lies = omega arith;
      lies =
          All-map (IsLie nodes) (lie_in nodes) c.lies
          (All-from_recursion (λ l. IsLie nodes (lie_in nodes l)) c.lies
          (all_hold (fits_lie plan) (λ l. IsLie nodes (lie_in nodes l)) 0 c.lies (λ n l fits. lie_is plan nodes l same some (and_parts _ _ fits).1) lies));
    }

-- clocks that are put together from what the parts say
pub same_clock : (capacity nodes : ℕ) (c : ClockParts) (start : List ℤ) (drifts errors : List (List ℤ)) (lies : List LieView) → start ≡ padded capacity c.start → drifts ≡ map (padded capacity) c.drifts
    → errors ≡ map (padded capacity) c.errors → lies ≡ map (lie_in nodes) c.lies → clock_of nodes c.epsilon c.drift start drifts errors lies ≡ clock_given capacity nodes c
same_clock capacity nodes c start drifts errors lies a b d e =
    ap (λ (x : List ℤ). clock_of nodes c.epsilon c.drift x drifts errors lies) a
    ∙ ap (λ (x : List (List ℤ)). clock_of nodes c.epsilon c.drift (padded capacity c.start) x errors lies) b
    ∙ ap (λ (x : List (List ℤ)). clock_of nodes c.epsilon c.drift (padded capacity c.start) (map (padded capacity) c.drifts) x lies) d
    ∙ ap (λ (x : List LieView). clock_of nodes c.epsilon c.drift (padded capacity c.start) (map (padded capacity) c.drifts) (map (padded capacity) c.errors) x) e

-- a row that passes has room in the capacity
pub have_room : (capacity nodes : ℕ) (is : List ℤ → Bool) (rows : List (List ℤ)) → nodes ≤ capacity → ((row : List ℤ) → is row ≡ true → length row ≡ nodes) → are_rows is rows ≡ true → All (λ row. length row ≤ capacity) rows
have_room capacity nodes is rows room long h = all_are is (λ row. length row ≤ capacity) rows (λ row passed. (let e = long row passed in omega arith)) (and_parts _ _ h).1

pub drift_long : (nodes : ℕ) (d : ℤ) (row : List ℤ) → is_drift nodes d row ≡ true → length row ≡ nodes
drift_long nodes d row h = eqb-true (length row) nodes (and_parts _ _ (and_parts _ _ h).0).0

pub up_to_long : (nodes : ℕ) (most : ℤ) (row : List ℤ) → are_up_to nodes most row ≡ true → length row ≡ nodes
up_to_long nodes most row h = eqb-true (length row) nodes (and_parts _ _ h).0

-- a row of rows that all have room
pub row_room : {V : Type 0} (rows : List V) (items : V → List ℤ) (capacity k : ℕ) (row : V) → k < length rows → row ≡ get_or rows k row → All (λ r. length r ≤ capacity) (map items rows) → length (items row) ≤ capacity
row_room {V} rows items capacity k row low is all_short =
    let found : get_or (map items rows) k [] ≡ items (get_or rows k row) = list.get_or-map items rows k row [] low in
    let room : length (get_or (map items rows) k []) ≤ capacity = all_short k [] (omega (arith, length-map rows items)) in
    omega (arith, ap length found, ap (λ (v : V). length (items v)) is, room)

fair_are : (plan : Plan) (ls : List LieParts) → first_bad (fits_lie plan) 0 ls ≡ None → All (IsFair (class_of plan) plan.nodes) (map (lie_in plan.nodes) ls)
fair_are plan ls h =
    All-map (IsFair (class_of plan) plan.nodes) (lie_in plan.nodes) ls
    (All-from_recursion (λ l. IsFair (class_of plan) plan.nodes (lie_in plan.nodes l)) ls
    (all_hold (fits_lie plan) (λ l. IsFair (class_of plan) plan.nodes (lie_in plan.nodes l)) 0 ls
    (λ n l fits. fair_is plan (lie_in plan.nodes l) (and_parts _ _ (and_parts _ _ fits).1).1) h))

-- what no rule refuses of a clock
pub record Unrefused (nodes : ℕ) (plan : Plan) (c : ClockParts) : Type 0 where
  pub clock : is_clock nodes c ≡ true
  pub lies : first_bad (fits_lie plan) 0 c.lies ≡ None

pub unrefused : (nodes : ℕ) (plan : Plan) (c : ClockParts) → clock_refused nodes plan (Some c) ≡ None → Unrefused nodes plan c
unrefused nodes plan c h =
    let first = unless (is_clock nodes c) 18 0 in
    let rest = at_place 19 (first_bad (fits_lie plan) 0 c.lies) in
    record { clock = unless_holds _ 18 0 (first_none first rest h); lies = no_place 19 _ (second_none first rest h) }

module _ (capacity : ℕ) (p : ScenarioParts) (r : HasRanges capacity p) where
  these_are : (c : ClockParts) → clock_refused (natural p.nodes) (plan_in p) (Some c) ≡ None
      → AreClocks (run (system_of (scenario_of capacity p))) (classes (system_of (scenario_of capacity p))) (clock_given capacity (natural p.nodes) c)
  these_are c h =
      let u = unrefused (natural p.nodes) (plan_in p) c h in
      record {
        clock = clock_is capacity (natural p.nodes) (plan_in p) c refl (let s = r.some_nodes in omega arith) r.few_nodes u.clock u.lies;
        nodes = refl;
        fair = fair_are (plan_in p) c.lies u.lies;
      }

  any_are : (o : Option ClockParts) (c : ClockView) → clock_refused (natural p.nodes) (plan_in p) o ≡ None → option_map (clock_given capacity (natural p.nodes)) o ≡ Some c
      → AreClocks (run (system_of (scenario_of capacity p))) (classes (system_of (scenario_of capacity p))) c
  any_are None c h e = cc
  any_are (Some x) c h e =
      let same : clock_given capacity (natural p.nodes) x ≡ c = cc in
      subst (λ (v : ClockView). AreClocks (run (system_of (scenario_of capacity p))) (classes (system_of (scenario_of capacity p))) v) same (these_are x h)

  pub clocks_are : clock_refusal p ≡ None → (c : ClockView) → (scenario_of capacity p).clock ≡ Some c
      → AreClocks (run (system_of (scenario_of capacity p))) (classes (system_of (scenario_of capacity p))) c
  unfolding clock_refusal
  clocks_are h c e = any_are p.clock c h e

-- the refusal by clocks, where the parts have some, and where they have none
pub refused_is : (p : ScenarioParts) (nodes : ℕ) (plan : Plan) → nodes ≡ natural p.nodes → plan ≡ plan_in p → clock_refused nodes plan p.clock ≡ clock_refusal p
unfolding clock_refusal
refused_is p nodes plan a b = ap (λ (n : ℕ). clock_refused n plan p.clock) a ∙ ap (λ (x : Plan). clock_refused (natural p.nodes) x p.clock) b
