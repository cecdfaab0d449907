use Rattle.std.proofs.Common.{◌≡◌, ℕ, ◌-◌, ◌&&◌, length, get_or, nat_lt}
use Rattle.std.specs.Prelude.{nat_le, if◌then◌else◌}
use Rattle.touched_frames.proofs.effect.patch.Given as goal

abbrev pub invariant-loop-place : goal.invariant-loop-place
invariant-loop-place l = record {
  long : length l.frame ≡ length l.initial.frame;
  written : (k : ℕ) → get_or l.frame k 0 ≡ (if nat_le l.at k && nat_lt k l.place then get_or l.bytes (k - l.at) 0 else get_or l.initial.frame k 0);
}
