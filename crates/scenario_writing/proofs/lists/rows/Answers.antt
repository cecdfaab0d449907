use Rattle.std.proofs.Common.{Some, ap, ◌∙◌}
use Rattle.json_parts.specs.Reading.{whole, list_of}
use Rattle.scenario_writing.proofs.Grown.{next, all}
use Rattle.scenario_writing.proofs.lists.rows.Goals as goal

pub loop-row-preserved : goal.loop-row-preserved
loop-row-preserved c =
    next (list_of whole) (λ row. row.items) c.args.rows.now c.loop-row.row-index c.row-item.result c.in_ok-numbers.field-0 c.loop-row.values.items c.push.new.self.items
    c.loop-row-test.true (c.in_ok-numbers.ensures ∙ ap Some c.as_slice.ensures.value ∙ ap (λ r. Some r.items) c.row-item.is) c.in_ok-push.ensures.items c.loop-row.invariant

pub returns : goal.returns
returns c = all (list_of whole) (λ row. row.items) c.args.rows.now c.loop-row.row-index c.loop-row.values c.loop-row-test.false c.loop-row.invariant
