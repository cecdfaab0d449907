use Rattle.std.proofs.Common.{sym, ap, ◌∙◌}
use Rattle.json.specs.Value.{value_view}
use Rattle.serde_json.specs.Read.{read}
use Rattle.json_parts.proofs.Trees.{read_here, unread_number}
use Rattle.json_parts.proofs.texts.value_of.Goals as goal

pub returns-then-has_readings-clause-value : goal.returns-then-has_readings-clause-value
returns-then-has_readings-clause-value c =
    let text = c.in-Ok.ensures.cases in
    (text.1, ap read (sym text.0) ∙ read_here c.in-Ok.text.now (value_view c.in-Ok-tree.value) c.in-Ok-tree.ensures.tree (sym c.if-has_readings.ensures))

pub returns-clause-unreadable : goal.returns-clause-unreadable
returns-clause-unreadable c = λ is d reads.
    let text = c.in-Ok.ensures.cases in
    unread_number c.in-Ok.text.now (value_view c.in-Ok-tree.value) d c.in-Ok-tree.ensures.tree (sym c.if-has_readings.ensures) (ap read text.0 ∙ reads.1)
