use Rattle.std.proofs.Common.{ℤ, pos, Vec, Global, length, rules, refl, sym, ◌∙◌, w64, to_z-of_z}
use Rattle.std.specs.Prelude.{FitsSigned}
use Rattle.std.proofs.lemmas.Nat.{mod_below}
use Rattle.scenario.proofs.Rows.{some_of, no_reading, no_number, number_there}
use Rattle.scenario.proofs.scenario.reading_in.Goals as goal

pub nonzero_rem-row : goal.nonzero_rem-row
nonzero_rem-row c = some_of (length c.args.rows.now) (sym c.is_empty.ensures ∙ c.if-is_empty.false)

pub bounds-rows-period : goal.bounds-rows-period
bounds-rows-period c = mod_below c.args.period (length c.args.rows.now) (some_of (length c.args.rows.now) (sym c.is_empty.ensures ∙ c.if-is_empty.false))

pub returns-then-is_empty : goal.returns-then-is_empty
returns-then-is_empty c = no_reading (λ (row : Vec ℤ Global). row.items) c.args.node c.args.period c.args.rows.now (sym c.is_empty.ensures ∙ c.if-is_empty.true)

pub way_copy_out-reading : goal.way_copy_out-reading
way_copy_out-reading c = refl

pub returns-in-None : goal.returns-in-None
returns-in-None c =
    no_number (λ (row : Vec ℤ Global). row.items) c.args.rows.now c.args.node c.args.period c.index-rows-period.result (sym c.is_empty.ensures ∙ c.if-is_empty.false) c.index-rows-period.is c.deref.result.now c.deref.ensures.value
    c.in-None.ensures.lookup.3

pub returns-in-Some : goal.returns-in-Some
returns-in-Some c =
    let fits : FitsSigned w64 c.in-Some.reading.now = search rules in
    to_z-of_z fits
    ∙ number_there (λ (row : Vec ℤ Global). row.items) c.args.rows.now c.args.node c.args.period c.index-rows-period.result (sym c.is_empty.ensures ∙ c.if-is_empty.false) c.index-rows-period.is c.deref.result.now
    c.in-Some.reading.now c.deref.ensures.value (c.in-Some.ensures.lookup.3.1 (pos 0))
