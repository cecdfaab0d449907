use Rattle.std.proofs.Common.{◌≡◌, ◌≢◌, ◌-◌, ◌<◌, List, map, length, get_or, Some, sym, ap, ◌∙◌, arith}
use Rattle.std.specs.Prelude.{slice_index}
use Rattle.std.specs.List.{position_or_len}
use Rattle.std.proofs.lemmas.List.{length-map}
use Rattle.fault_classes.specs.Line.{Line, touches, line_of, effect_at}
use Rattle.fault_classes.specs.Plan.{Plan}
use Rattle.fault_classes.specs.Cells.{entry_of}
use Rattle.fault_classes.proofs.Entries.{effect_none, effect_some, entry_place}
use Rattle.fault_classes.proofs.Places.{line_at}
use Rattle.fault_classes.proofs.index.PlanIndex.effect.Goals as goal

pub returns-then-number-eq0 : goal.returns-then-number-eq0
returns-then-number-eq0 g c =
    sym (effect_none c.args.period c.args.slot c.args.from c.args.to c.args.self.now.lines (sym (c.numbers-row.ensures.entries c.args.to c.requires.to) ∙ c.if-number-eq0.true))

pub returns-else-number-eq0 : goal.returns-else-number-eq0
returns-else-number-eq0 g c =
    let items = c.self.inside.lines.items in
    let xs : List Line = map line_of items in
    let lines : xs ≡ c.args.self.now.lines = ap (λ (p : Plan). p.lines) c.self.view_is in
    let test = touches c.args.period c.args.slot c.args.from c.args.to in
    let r = c.index.result.now in
    let m = slice_index c.numbers-row.result.now c.args.to in
    let number : m ≡ entry_of test xs = c.numbers-row.ensures.entries c.args.to c.requires.to ∙ ap (entry_of test) (sym lines) in
    let some : entry_of test xs ≢ 0 = λ z. c.if-number-eq0.false (number ∙ z) in
    let place = entry_place test xs c.self.invariant.few some in
    let at : m - 1 ≡ position_or_len test xs = omega (arith, place.1, number) in
    let read : r ≡ get_or items (position_or_len test xs) r = c.index.ensures ∙ ap (λ k. get_or items k r) at in
    let within : position_or_len test xs < length items = omega (arith, place.0, length-map items (line_of {n = g.row.N})) in
    let line : get_or xs (position_or_len test xs) (line_of r) ≡ line_of r = line_at items (position_or_len test xs) r within read in
    sym (ap (λ ls. effect_at ls c.args.period c.args.slot c.args.from c.args.to) (sym lines) ∙ effect_some c.args.period c.args.slot c.args.from c.args.to xs (line_of r) some ∙ ap (λ (l : Line). Some (l.change)) line)
