use Rattle.std.proofs.Common.{◌≡◌, ◌<◌, ℕ, get_or, length, pos}
use Rattle.protocol.specs.View.{channel_room, own_in}
use Rattle.data_slot.proofs.told.own_by_channel.Given as goal

abbrev pub invariant-loop-c : goal.invariant-loop-c
invariant-loop-c l = record {
  wide : length l.values ≡ channel_room;
  so_far : (k : ℕ) → k < l.c → get_or l.values k (pos 0) ≡ own_in l.own k;
}
