use Rattle.std.proofs.Common.{◌≡◌, sym, ap, subst, ◌∙◌, arith}
use Rattle.node_grid.specs.Kinds.{deviate}
use Rattle.error_reports.specs.Notes.{Notes, of_each}
use Rattle.protocol.specs.Arrival.{is_bad}
use Rattle.told_values.specs.Within.{IsWithin, noted_within}
use Rattle.told_values.proofs.Noting.{noted_both}
use Rattle.told_values.proofs.slot.DataSlot.note.Goals as goal

pub returns-clause-noted : goal.returns-clause-noted
returns-clause-noted g c = λ x hears far same.
    noted_both g.row.N c.args.notes.now c.note_errors.new.notes c.note_off.new.notes (λ j k. is_bad (x.values j) k) c.args.off.now far c.requires.notes.few_kinds
    (c.note_errors.ensures.errors x hears) c.note_off.ensures
    (λ q used other. same q (let e = c.requires.notes.nodes_are in omega arith) (λ e. other (e ∙ sym c.requires.notes.me_is)))

pub returns-clause-within : goal.returns-clause-within
returns-clause-within g c =
    let kinds : c.note_errors.new.notes.kinds ≡ c.args.notes.now.kinds = ap (λ (n : Notes). n.kinds) c.note_errors.ensures.kept in
    subst (IsWithin g.row.N) (sym c.note_off.ensures) (noted_within g.row.N c.note_errors.new.notes (of_each c.args.off.now deviate) (let few = c.requires.notes.few_kinds in omega arith))
