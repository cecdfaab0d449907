-- A controller whose next slot was opened.
use Rattle.std.proofs.Common.{ℕ, ◌≡◌, ap, ◌∙◌}
use Rattle.slot_plan.specs.declared.slot.Slot.{Slot}
use Rattle.slot_plan.specs.Slots.{slot_number, IsSlot}
use Rattle.frames.specs.Content.{Expectation}
use Rattle.error_detect.specs.Watching.{Watch, opened}
use Rattle.node_steps.specs.Steps.{expected_in, slot_open}
use Rattle.node_core.specs.declared.controller.Controller.TheInside.{Inside}
use Rattle.node_core.specs.Inside.{seen, IsController}
use Rattle.node_core.proofs.Standing.{watch_open}

-- with another slot and watch
abbrev pub moved : {N : ℕ} → Inside N → Slot → Watch → Inside N
moved n x u = record n { phase = record n.phase { slot = x }; watch = u }

module _ {N : ℕ} (n : Inside N) (x : Slot) (e : Expectation) (u : Watch) (k : u ≡ opened n.watch e) where
  pub opened_kept : IsController n → IsSlot n.config.now.m x → IsController (moved n x u)
  opened_kept inv plan = record {
    place = inv.place;
    slot = plan;
    watch = watch_open n.config.now n.phase.me n.watch inv.watch u e k;
    kept_notes = inv.kept_notes;
    notes = inv.notes;
  }

  pub opened_seen : e ≡ expected_in (seen n) (slot_number n.config.now.m x) → seen (moved n x u) ≡ slot_open (seen n) (slot_number n.config.now.m x)
  opened_seen same =
      ap (λ (a : Watch). record (seen n) { phase = record (seen n).phase { slot = slot_number n.config.now.m x }; arrived = a }) k
      ∙ ap (λ (f : Expectation). record (seen n) { phase = record (seen n).phase { slot = slot_number n.config.now.m x }; arrived = opened n.watch f }) same
