use Rattle.std.proofs.Common.{◌≡◌, ℕ, ◌<◌, ◌≤◌, true}
use Rattle.std.specs.Prelude.{slice_index_or}
use Rattle.omh_paths.specs.declared.wrapped.Wrapped.TheVariants.{Fault}
use Rattle.frames.specs.Content.{round_in}
use Rattle.frames.specs.Seen.{expected}
use Rattle.touched_items.specs.Items.{sizes_of}
use Rattle.touched_items.specs.Patched.{cell_over}
use Rattle.touched_items.proofs.relay.are_due.Given as goal

abbrev pub invariant-loop-k : goal.invariant-loop-k
invariant-loop-k g l = (j : ℕ) → l.first ≤ j → j < l.k
    → g.V.Item.entry_form.test (sizes_of (expected l.expect)) (round_in l.expect.m l.expect.slot) (cell_over g.V.Item.entry_form l.expect.nodes l.patch.at l.patch.bytes.now j (slice_index_or (g.E.Entries.entries l.entries) j (Fault 0))) ≡ true
