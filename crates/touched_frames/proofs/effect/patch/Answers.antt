use Rattle.std.proofs.Common.{◌≡◌, ℕ, ◌+◌, ◌-◌, ◌<◌, min, ◌&&◌, cond, length, get_or, sym, ap, ◌∙◌, arith}
use Rattle.std.specs.Prelude.{nat_le, nat_lt}
use Rattle.std.proofs.lemmas.List.{ext_get_or}
use Rattle.std.proofs.lemmas.List.FromFn.{get_or-map-range_with_len, length-map-range_with_len}
use Rattle.slot_plan.specs.Facts.{written_within}
use Rattle.fault_link.specs.Arrival.{patched}
use Rattle.touched_frames.proofs.effect.patch.Goals as goal

pub returns : goal.returns
returns c =
    let at = c.args.at in
    let bytes = c.args.bytes.now in
    let sent = c.args.frame.now in
    let place = c.loop-place.place in
    let end : c.min-end.result ≡ min (length sent) (at + length bytes) = c.min-end.ensures in
    let at_place = λ (k : ℕ). cond (nat_le at k && nat_lt k (at + length bytes)) (get_or bytes (k - at) 0) (get_or sent k 0) in
    ext_get_or 0 c.loop-place.frame (patched at bytes sent) (c.loop-place.invariant.long ∙ sym (length-map-range_with_len at_place 0 (length sent))) (λ k h.
    let within : k < length sent = omega (arith, h, c.loop-place.invariant.long) in
    c.loop-place.invariant.written k
    ∙ ap (λ b. cond b (get_or bytes (k - at) 0) (get_or sent k 0)) (written_within at place c.min-end.result (length sent) (length bytes) k end within c.loop-place.auto.place-end c.loop-place-test.false)
    ∙ sym (get_or-map-range_with_len at_place 0 (length sent) k k 0 within (omega arith)))
