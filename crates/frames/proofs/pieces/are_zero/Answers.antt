use Rattle.std.proofs.Common.{◌≡◌, ◌≢◌, ℕ, ◌-◌, ◌*◌, ◌/◌, ◌<◌, List, length, drop, get_or, sym, ap, ◌∙◌, arith}
use Rattle.std.specs.Int.{w64, from_be_bytes}
use Rattle.std.proofs.lemmas.List.{take_all, length-drop}
use Rattle.frames.specs.Checks.{are_zero}
use Rattle.frames.specs.Reading.{piece}
use Rattle.frames.proofs.Words.{some_byte, zeros_more, zeros_rest}
use Rattle.frames.proofs.pieces.are_zero.Goals as goal

pub returns-then-word_at-ne0 : goal.returns-then-word_at-ne0
returns-then-word_at-ne0 c =
    let some : from_be_bytes w64 (piece 8 c.args.bytes.now c.loop-k.k) ≢ 0 = λ e. c.if-word_at-ne0.true (c.word_at.ensures ∙ e) in
    sym (some_byte c.args.bytes.now c.loop-k.k some)

pub loop-k-preserved : goal.loop-k-preserved
loop-k-preserved c = zeros_more c.args.bytes.now c.loop-k.k c.loop-k.invariant (sym c.word_at.ensures ∙ c.if-word_at-ne0.false)

pub returns : goal.returns
returns c =
    let bytes : List ℕ = c.args.bytes.now in
    let n : ℕ = 8 * (length bytes / 8) in
    let before : (i : ℕ) → i < n → get_or bytes i 0 ≡ 0 = λ i l. c.loop-k.invariant i (omega arith) in
    c.is_each_zero.ensures ∙ ap are_zero (take_all (length bytes - n) (drop n bytes) (omega (arith, length-drop n bytes))) ∙ zeros_rest n bytes before
