use Rattle.std.proofs.Common.{rules, None}
use Rattle.std.specs.Prelude.{slice_index_or}
use Rattle.told_values.proofs.notes.note_kinds.Goals as goal

pub returns : goal.returns
returns g c = c.note_each.ensures.row (λ j. slice_index_or c.args.kinds.now j None) (λ j x low used other ran. search rules)
