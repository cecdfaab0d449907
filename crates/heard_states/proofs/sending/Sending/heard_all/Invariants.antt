use Rattle.std.proofs.Common.{◌≡◌, ◌≢◌, ◌<◌, ℕ, length, get_or}
use Rattle.shared_states.specs.Sharing.{state_at}
use Rattle.heard_states.specs.Hearing.{told_by, IsHeardAs}
use Rattle.heard_states.specs.declared.hearing.Heard.TheVariants.{Bad}
use Rattle.heard_states.proofs.sending.Sending.heard_all.Given as goal

abbrev pub invariant-loop-from : goal.invariant-loop-from
invariant-loop-from g l = record {
  wide : length l.heard ≡ g.row.N;
  so_far : (j : ℕ) → j < l.from → j ≢ l.to → IsHeardAs l.self.slot.config.now (state_at l.self.states.now l.to) (get_or l.heard j (Bad 0)) (told_by l.self l.to j);
}
