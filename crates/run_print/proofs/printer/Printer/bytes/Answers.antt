use Rattle.std.proofs.Common.{◌≡◌, ◌+◌, ◌*◌, ◌<◌, ◌++◌, length, take, drop, arith, sym, ap, ◌∙◌, refl}
use Rattle.std.proofs.lemmas.List.{take-append-drop, drop-drop, length-drop}
use Rattle.hex.specs.Hex.{encode_lower, lower_digits}
use Rattle.run_print.proofs.Joining.{then, nothing}
use Rattle.run_print.proofs.Lists.{piece_next, encode-none, encode-append, some_bytes}
use Rattle.run_print.proofs.printer.Printer.bytes.Goals as goal

pub split_at-requires : goal.split_at-requires
split_at-requires g c =
    let bytes = c.args.bytes.now in
    omega (arith, ap length c.loop-piece.invariant.rest, length-drop (512 * c.loop-piece._piece) bytes, c.loop-piece-test.true)

pub loop-piece-init : goal.loop-piece-init
loop-piece-init g c = record { rest = refl; prints = rw (encode-none lower_digits) (nothing g.K.Sink.written g.K.Sink.faults c.args.self.now c.args.sink.now) }

pub loop-piece-preserved : goal.loop-piece-preserved
loop-piece-preserved g c =
    let bytes = c.args.bytes.now in
    let k = c.loop-piece._piece in
    let next : 512 * (k + 1) ≡ 512 * k + 512 = omega arith in
    let front : c.split_at.result.0.now ≡ take 512 (drop (512 * k) bytes) = c.split_at.ensures.front ∙ ap (take 512) c.loop-piece.invariant.rest in
    record {
      rest = c.split_at.ensures.back ∙ ap (drop 512) c.loop-piece.invariant.rest ∙ drop-drop 512 (512 * k) bytes ∙ ap (λ n. drop n bytes) (sym next);
      prints = rw (next, piece_next bytes (512 * k) 512) (then c.loop-piece.invariant.prints (rw front at c.piece.ensures));
    }

pub returns : goal.returns
returns g c =
    let bytes = c.args.bytes.now in
    let n = 512 * c.loop-piece._piece in
    let some : 0 < length bytes = grind (arith, c.if-is_empty.false, c.is_empty.ensures) in
    let whole : encode_lower bytes ≡ encode_lower (take n bytes) ++ encode_lower (drop n bytes) = ap encode_lower (sym (take-append-drop n bytes)) ∙ encode-append lower_digits (take n bytes) (drop n bytes) in
    rw (some_bytes bytes some, whole) (then c.loop-piece.invariant.prints (rw c.loop-piece.invariant.rest at c.piece-2.ensures))
