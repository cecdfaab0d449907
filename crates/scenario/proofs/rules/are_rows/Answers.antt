use Rattle.std.proofs.Common.{ℤ, Bool, true, false, List, Vec, Global, refl, sym, ap, ◌∙◌}
use Rattle.scenario.specs.Rules.{are_values}
use Rattle.scenario.proofs.Turns.{goes_on, ends_here, all_passed, rows_by_all, no_rows}
use Rattle.scenario.proofs.rules.are_rows.Goals as goal

pub bounds-rows-row-index : goal.bounds-rows-row-index
bounds-rows-row-index c = c.loop-row-test.true

pub loop-row-init : goal.loop-row-init
loop-row-init c = refl

pub loop-row-preserved : goal.loop-row-preserved
loop-row-preserved c =
    let is : List ℤ → Bool = are_values c.args.nodes in
    let on = sym (c.are_values.ensures ∙ ap is c.deref.ensures.value) ∙ c.if-not-are_values.false in
    goes_on is (λ (row : Vec ℤ Global). row.items) c.args.rows.now c.loop-row.row-index c.row-item.result _ c.loop-row-test.true c.row-item.is on
    c.loop-row.invariant

pub returns-then-not-are_values : goal.returns-then-not-are_values
returns-then-not-are_values c =
    let is : List ℤ → Bool = are_values c.args.nodes in
    let off = sym (c.are_values.ensures ∙ ap is c.deref.ensures.value) ∙ c.if-not-are_values.true in
    let ends = ends_here is (λ (row : Vec ℤ Global). row.items) c.args.rows.now c.loop-row.row-index c.row-item.result _ c.loop-row-test.true c.row-item.is off
    c.loop-row.invariant in
    rows_by_all is (λ (row : Vec ℤ Global). row.items) c.args.rows.now c.is_row_count.result c.is_row_count.ensures false c.if-not-is_row_count.false ends

pub returns : goal.returns
returns c =
    let is : List ℤ → Bool = are_values c.args.nodes in
    let passed = all_passed is (λ (row : Vec ℤ Global). row.items) c.args.rows.now c.loop-row.row-index _ c.loop-row-test.false c.loop-row.invariant in
    rows_by_all is (λ (row : Vec ℤ Global). row.items) c.args.rows.now c.is_row_count.result c.is_row_count.ensures true c.if-not-is_row_count.false passed

pub returns-then-not-is_row_count : goal.returns-then-not-is_row_count
returns-then-not-is_row_count c =
    no_rows (are_values c.args.nodes) (λ (row : Vec ℤ Global). row.items) c.args.rows.now c.is_row_count.result c.is_row_count.ensures c.if-not-is_row_count.true
