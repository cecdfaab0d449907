use Rattle.std.proofs.Common.{ℤ, Bool, true, false, List, Vec, Global, map, refl, sym, ap, ◌∙◌, w64, to_z, of_z, to_z-of_z}
use Rattle.scenario.specs.Rules.{is_drift, are_rows}
use Rattle.scenario.proofs.Turns.{goes_on, ends_here, all_passed, rows_by_all, no_rows}
use Rattle.scenario.proofs.clocking.are_drifts.Goals as goal

pub bounds-rows-row-index : goal.bounds-rows-row-index
bounds-rows-row-index c = c.loop-row-test.true

pub loop-row-init : goal.loop-row-init
loop-row-init c = refl

pub loop-row-preserved : goal.loop-row-preserved
loop-row-preserved c =
    let is : List ℤ → Bool = is_drift c.args.nodes (to_z w64 (of_z w64 c.args.drift)) in
    let on = sym (c.is_drift.ensures ∙ ap is c.deref.ensures.value) ∙ c.if-not-is_drift.false in
    goes_on is (λ (row : Vec ℤ Global). row.items) c.args.rows.now c.loop-row.row-index c.row-item.result _ c.loop-row-test.true c.row-item.is on
    c.loop-row.invariant

pub returns-then-not-is_drift : goal.returns-then-not-is_drift
returns-then-not-is_drift c =
    let is : List ℤ → Bool = is_drift c.args.nodes (to_z w64 (of_z w64 c.args.drift)) in
    let off = sym (c.is_drift.ensures ∙ ap is c.deref.ensures.value) ∙ c.if-not-is_drift.true in
    let ends = ends_here is (λ (row : Vec ℤ Global). row.items) c.args.rows.now c.loop-row.row-index c.row-item.result _ c.loop-row-test.true c.row-item.is off
    c.loop-row.invariant in
    rows_by_all is (λ (row : Vec ℤ Global). row.items) c.args.rows.now c.is_row_count.result c.is_row_count.ensures false c.if-not-is_row_count.false ends
    ∙ ap (λ (d : ℤ). are_rows (is_drift c.args.nodes d) (map (λ (row : Vec ℤ Global). row.items) c.args.rows.now)) (to_z-of_z c.ranges.drift)

pub returns : goal.returns
returns c =
    let is : List ℤ → Bool = is_drift c.args.nodes (to_z w64 (of_z w64 c.args.drift)) in
    let passed = all_passed is (λ (row : Vec ℤ Global). row.items) c.args.rows.now c.loop-row.row-index _ c.loop-row-test.false c.loop-row.invariant in
    rows_by_all is (λ (row : Vec ℤ Global). row.items) c.args.rows.now c.is_row_count.result c.is_row_count.ensures true c.if-not-is_row_count.false passed
    ∙ ap (λ (d : ℤ). are_rows (is_drift c.args.nodes d) (map (λ (row : Vec ℤ Global). row.items) c.args.rows.now)) (to_z-of_z c.ranges.drift)

pub returns-then-not-is_row_count : goal.returns-then-not-is_row_count
returns-then-not-is_row_count c =
    no_rows (is_drift c.args.nodes c.args.drift) (λ (row : Vec ℤ Global). row.items) c.args.rows.now c.is_row_count.result c.is_row_count.ensures c.if-not-is_row_count.true
