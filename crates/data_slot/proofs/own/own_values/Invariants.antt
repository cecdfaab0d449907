use Rattle.std.proofs.Common.{◌≡◌, ◌≤◌, ℕ, ◌<◌, get_or, length, None}
use Rattle.protocol.specs.View.{channel_room}
use Rattle.data_slot.proofs.Owns.{own_at}
use Rattle.data_slot.proofs.own.own_values.Given as goal

abbrev pub invariant-loop-c : goal.invariant-loop-c
invariant-loop-c g l = record {
  wide : length l.values ≡ channel_room;
  so_far : (k : ℕ) → k < l.c → get_or l.values k None ≡ own_at l.config l.me l.period l.inputs l.kept.votes.now l.kept.owns.now k;
  rest : (k : ℕ) → l.c ≤ k → get_or l.values k None ≡ None;
}
