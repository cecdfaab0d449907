use Rattle.std.proofs.Common.{◌≡◌, ◌≤◌, ◌^◌, ℕ, Bool, true, false, ℤ, pos, List, map, length, None, Vec, Global, rules, sym, ap, ◌∙◌, arith, subst, lit<, inl, inr, w64, to_z-of_z}
use Rattle.std.specs.Prelude.{FitsSigned, All}
use Rattle.std.specs.Option.{option_or}
use Rattle.std.proofs.lemmas.Bool.{and_parts}
use Rattle.clock_skew.specs.Clock.{ClockView, LieView, IsClock, clock_of, lie_of}
use Rattle.scenario.specs.Line.{lie_in}
use Rattle.scenario.specs.Given.{padded, clock_given}
use Rattle.scenario.specs.Rules.{unless, at_place, first_bad, are_up_to, is_drift, is_clock, fits_lie}
use Rattle.scenario.specs.Parts.{ClockParts}
use Rattle.scenario.specs.Verdict.{Tells}
use Rattle.scenario.specs.Seen.{lie_view, clock_view}
use Rattle.scenario.specs.declared.parts.LiePart.{LiePart}
use Rattle.scenario.specs.declared.parts.ClockPart.{ClockPart}
use Rattle.scenario.proofs.Clocked.{clock_is, same_clock, have_room, drift_long, up_to_long}
use Rattle.scenario.proofs.clocking.clocks.Goals as goal

-- rows of clocks in range have room
rooms : (capacity nodes : ℕ) (c : ClockParts) → nodes ≤ capacity → is_clock nodes c ≡ true
    → All (λ row. length row ≤ capacity) c.drifts × (All (λ row. length row ≤ capacity) c.errors × (length c.start ≤ capacity))
rooms capacity nodes c room h =
    let p = and_parts _ _ h in
    let q = and_parts _ _ p.0 in
    let long = up_to_long nodes (pos (2 ^ 40)) c.start (and_parts _ _ q.0).1 in (
      have_room capacity nodes (is_drift nodes c.drift) c.drifts room (drift_long nodes c.drift) q.1,
      (have_room capacity nodes (are_up_to nodes c.epsilon) c.errors room (up_to_long nodes c.epsilon) p.1, omega (arith, long, room)),
    )

abbrev rows_of : List (Vec ℤ Global) → List (List ℤ)
rows_of rs = map (λ (row : Vec ℤ Global). row.items) rs

-- clocks that are put together from what is read of the part
seen_clock : (capacity nodes : ℕ) (part : ClockPart) (starts : List ℤ) (of_drifts of_errors : List (Vec ℤ Global)) (of_lies : List LiePart) (start : List ℤ) (drifts errors : List (List ℤ)) (lies : List LieView)
    → starts ≡ part.start.items → of_drifts ≡ part.drifts.items → of_errors ≡ part.errors.items → of_lies ≡ part.lies.items → start ≡ padded capacity starts
    → drifts ≡ map (padded capacity) (rows_of of_drifts) → errors ≡ map (padded capacity) (rows_of of_errors) → lies ≡ map (lie_in nodes) (map lie_view of_lies)
    → clock_of nodes part.epsilon part.drift start drifts errors lies ≡ clock_given capacity nodes (clock_view part)
seen_clock capacity nodes part starts of_drifts of_errors of_lies start drifts errors lies a b d e s r x l =
    same_clock capacity nodes (clock_view part) start drifts errors lies (s ∙ ap (padded capacity) a) (r ∙ ap (λ rs. map (padded capacity) (rows_of rs)) b)
    (x ∙ ap (λ rs. map (padded capacity) (rows_of rs)) d) (l ∙ ap (λ ls. map (lie_in nodes) (map lie_view ls)) e)

pub rows-requires : goal.rows-requires
rows-requires g c =
    let on : is_clock c.args.bounds.nodes (clock_view c.args.part.now) ≡ true = sym c.is_clock.ensures ∙ c.if-not-is_clock.false in (
      elim c.requires.size.capacity [ inl e ↦ rw e (lit< tt) | inr e ↦ rw e (lit< tt) ],
      rw c.deref-2.ensures.value (rooms g.row.N c.args.bounds.nodes (clock_view c.args.part.now) c.requires.size.few_nodes on).0,
    )

pub rows-requires-2 : goal.rows-requires-2
rows-requires-2 g c =
    let on : is_clock c.args.bounds.nodes (clock_view c.args.part.now) ≡ true = sym c.is_clock.ensures ∙ c.if-not-is_clock.false in (
      elim c.requires.size.capacity [ inl e ↦ rw e (lit< tt) | inr e ↦ rw e (lit< tt) ],
      rw c.deref-3.ensures.value (rooms g.row.N c.args.bounds.nodes (clock_view c.args.part.now) c.requires.size.few_nodes on).1.0,
    )

pub padded-requires : goal.padded-requires
padded-requires g c =
    let on : is_clock c.args.bounds.nodes (clock_view c.args.part.now) ≡ true = sym c.is_clock.ensures ∙ c.if-not-is_clock.false in (
      elim c.requires.size.capacity [ inl e ↦ rw e (lit< tt) | inr e ↦ rw e (lit< tt) ],
      rw c.deref-4.ensures.value (rooms g.row.N c.args.bounds.nodes (clock_view c.args.part.now) c.requires.size.few_nodes on).1.1,
    )

pub new-requires : goal.new-requires
new-requires g c =
    let part = c.args.part.now in
    let p = clock_view part in
    let nodes = c.args.bounds.nodes in
    let plan = c.args.plan.now in
    let epsilon_fits : FitsSigned w64 part.epsilon = search rules in
    let drift_fits : FitsSigned w64 part.drift = search rules in
    let on : is_clock nodes p ≡ true = sym c.is_clock.ensures ∙ c.if-not-is_clock.false in
    let unrefused : first_bad (fits_lie plan) 0 p.lies ≡ None = sym (ap (λ (ls : List LiePart). first_bad (fits_lie plan) 0 (map lie_view ls)) c.deref.ensures.value) ∙ c.in_ok-lies.ensures.unrefused in
    let same = seen_clock g.row.N nodes part c.deref-4.result.now c.deref-2.result.now c.deref-3.result.now c.deref.result.now c.padded.result c.in-Ok.drifts.items c.in-Ok-rows.errors.items
    (map (lie_of {n = g.row.N}) c.in_ok-lies.lies.items) c.deref-4.ensures.value c.deref-2.ensures.value c.deref-3.ensures.value c.deref.ensures.value c.padded.ensures c.in-Ok.ensures c.in-Ok-rows.ensures c.in_ok-lies.ensures.lies in
    let is = clock_is g.row.N nodes plan p c.requires.nodes c.requires.size.some_nodes c.requires.size.few_nodes on unrefused in (
      elim c.requires.size.capacity [ inl e ↦ rw e (lit< tt) | inr e ↦ rw e (lit< tt) ],
      (
        elim c.requires.size.capacity [ inl e ↦ rw e (lit< tt) | inr e ↦ rw e (lit< tt) ],
        rw (to_z-of_z epsilon_fits, to_z-of_z drift_fits) (subst (λ (v : ClockView). IsClock g.row.N v) (sym same) is),
      ),
    )

pub returns-clause-clock : goal.returns-clause-clock
returns-clause-clock g c =
    let part = c.args.part.now in
    let nodes = c.args.bounds.nodes in
    let epsilon_fits : FitsSigned w64 part.epsilon = search rules in
    let drift_fits : FitsSigned w64 part.drift = search rules in
    let same = seen_clock g.row.N nodes part c.deref-4.result.now c.deref-2.result.now c.deref-3.result.now c.deref.result.now c.padded.result c.in-Ok.drifts.items c.in-Ok-rows.errors.items
    (map (lie_of {n = g.row.N}) c.in_ok-lies.lies.items) c.deref-4.ensures.value c.deref-2.ensures.value c.deref-3.ensures.value c.deref.ensures.value c.padded.ensures c.in-Ok.ensures c.in-Ok-rows.ensures c.in_ok-lies.ensures.lies in
    let made = simp to_z-of_z at c.new.ensures in
    made ∙ same

pub returns-clause-unrefused : goal.returns-clause-unrefused
returns-clause-unrefused g c =
    let plan = c.args.plan.now in
    let p = clock_view c.args.part.now in
    let on : is_clock c.args.bounds.nodes p ≡ true = sym c.is_clock.ensures ∙ c.if-not-is_clock.false in
    let unrefused : first_bad (fits_lie plan) 0 p.lies ≡ None = sym (ap (λ (ls : List LiePart). first_bad (fits_lie plan) 0 (map lie_view ls)) c.deref.ensures.value) ∙ c.in_ok-lies.ensures.unrefused in
    ap (λ (b : Bool). option_or (unless b 18 0) (at_place 19 (first_bad (fits_lie plan) 0 p.lies))) on ∙ ap (at_place 19) unrefused

pub returns-then-not-is_clock-clause-refused : goal.returns-then-not-is_clock-clause-refused
returns-then-not-is_clock-clause-refused g c =
    let p = clock_view c.args.part.now in
    let off : false ≡ is_clock c.args.bounds.nodes p = sym (sym c.is_clock.ensures ∙ c.if-not-is_clock.true) in
    subst (λ (b : Bool). Tells (option_or (unless b 18 0) (at_place 19 (first_bad (fits_lie c.args.plan.now) 0 p.lies))) c.refused.result) off c.refused.ensures
