use Rattle.std.proofs.Common.{◌≡◌, ℕ, ◌<◌, get_or, length, None}
use Rattle.agreed_state.specs.Given.{bytes_in}
use Rattle.heard_states.specs.Hearing.{told_by, body_at}
use Rattle.heard_states.proofs.sending.Sending.bodies_told.Given as goal

abbrev pub invariant-loop-from : goal.invariant-loop-from
invariant-loop-from g l = record {
  wide : length l.bodies ≡ g.row.N;
  so_far : (k : ℕ) → k < l.from → bytes_in (get_or l.bodies k None) ≡ body_at l.self.slot.config.now.nodes l.to (told_by l.self l.to) k;
}
