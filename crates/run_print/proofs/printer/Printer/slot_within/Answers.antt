use Rattle.std.proofs.Common.{ℕ, ◌≡◌, ◌≤◌, ◌+◌, ◌*◌, length, replicate, arith, lit<}
use Rattle.std.proofs.lemmas.List.{length-replicate}
use Rattle.cluster_periods.specs.Record.{frame_at}
use Rattle.run_print.proofs.printer.Printer.slot_within.Goals as goal

fits : (n room : ℕ) → 3 * n + 5 ≤ room → 3 * n + 5 ≤ length {A = ℕ} (replicate room 0)
fits n room h =
    let all : length {A = ℕ} (replicate room 0) ≡ room = length-replicate {A = ℕ} room 0 in
    omega (arith, h, all)

pub whole_as_slice-senders : goal.whole_as_slice-senders
whole_as_slice-senders g c = omega (arith, c.requires.few)

pub senders-requires : goal.senders-requires
senders-requires g c = (assumption, (lit< tt, λ from low. fits (length (frame_at c.args.traced.now.shown.now c.args.traced.now.slot from)) g.row.BYTES (c.requires.room from low)))
