use Rattle.std.proofs.Common.{◌≡◌, ◌+◌, ◌*◌, ◌≤◌, ℕ, List, length, sym, ap, ◌∙◌, arith}
use Rattle.frames.specs.Spelling.{claim_spelling}
use Rattle.frames.specs.Writing.{pasted}
use Rattle.frames.proofs.cells.put_done.Goals as goal
use Rattle.frames.proofs.cells.put_done.Goals.{in-Plain, in-Fault}

pub overflow_mul-k : goal.overflow_mul-k
overflow_mul-k c = omega (arith, c.requires.fits)

pub returns : goal.returns
returns c =
    let is : c.match-value.entry ≡ claim_spelling c.args.value = elim c.match-value.branch [
      | in-Plain w ↦ w.entry-is ∙ ap claim_spelling (sym w.in-Plain.is)
      | in-Fault w ↦ w.entry-is ∙ ap claim_spelling (sym w.in-Fault.is)
    ] in
    c.write_at.ensures ∙ ap (λ xs. pasted (2 * c.args.k) xs c.args.out.now) is

pub slice_bounds-write_at-end : goal.slice_bounds-write_at-end
slice_bounds-write_at-end c = elim c.match-value.branch [ in-Plain w ↦ sym (ap length w.entry-is) | in-Fault w ↦ sym (ap length w.entry-is) ]

pub write_at-requires : goal.write_at-requires
write_at-requires c =
    let two : length c.match-value.entry ≡ 2 = elim c.match-value.branch [ in-Plain w ↦ ap length w.entry-is | in-Fault w ↦ ap length w.entry-is ] in
    omega (arith, c.requires.fits, two)
