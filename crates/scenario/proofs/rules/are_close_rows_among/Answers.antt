use Rattle.std.proofs.Common.{ℤ, Bool, List, Vec, Global, map, refl, sym, ap, ◌∙◌, w64, to_z, of_z, to_z-of_z}
use Rattle.std.specs.List.{list_all}
use Rattle.clock_skew.specs.Clock.{number_at}
use Rattle.scenario.specs.Rules.{are_close}
use Rattle.scenario.proofs.Turns.{goes_on, ends_here, all_passed}
use Rattle.scenario.proofs.rules.are_close_rows_among.Goals as goal

pub bounds-rows-row-index : goal.bounds-rows-row-index
bounds-rows-row-index c = c.loop-row-test.true

pub loop-row-init : goal.loop-row-init
loop-row-init c = refl

pub loop-row-preserved : goal.loop-row-preserved
loop-row-preserved c =
    let is : List ℤ → Bool = λ row. are_close (to_z w64 (of_z w64 c.args.delta)) (map (number_at row) c.args.group.now) in
    let on = sym (c.are_close_among.ensures ∙ ap is c.deref.ensures.value) ∙ c.if-not-are_close_among.false in
    goes_on is (λ (row : Vec ℤ Global). row.items) c.args.rows.now c.loop-row.row-index c.row-item.result _ c.loop-row-test.true c.row-item.is on
    c.loop-row.invariant

pub returns-then-not-are_close_among : goal.returns-then-not-are_close_among
returns-then-not-are_close_among c =
    let is : List ℤ → Bool = λ row. are_close (to_z w64 (of_z w64 c.args.delta)) (map (number_at row) c.args.group.now) in
    let off = sym (c.are_close_among.ensures ∙ ap is c.deref.ensures.value) ∙ c.if-not-are_close_among.true in
    ends_here is (λ (row : Vec ℤ Global). row.items) c.args.rows.now c.loop-row.row-index c.row-item.result _ c.loop-row-test.true c.row-item.is off
    c.loop-row.invariant
    ∙ ap (λ (d : ℤ). list_all (λ row. are_close d (map (number_at row) c.args.group.now)) (map (λ (row : Vec ℤ Global). row.items) c.args.rows.now)) (to_z-of_z c.ranges.delta)

pub returns : goal.returns
returns c =
    let is : List ℤ → Bool = λ row. are_close (to_z w64 (of_z w64 c.args.delta)) (map (number_at row) c.args.group.now) in
    all_passed is (λ (row : Vec ℤ Global). row.items) c.args.rows.now c.loop-row.row-index _ c.loop-row-test.false c.loop-row.invariant
    ∙ ap (λ (d : ℤ). list_all (λ row. are_close d (map (number_at row) c.args.group.now)) (map (λ (row : Vec ℤ Global). row.items) c.args.rows.now)) (to_z-of_z c.ranges.delta)
