use Rattle.std.proofs.Common.{◌≡◌, ℕ, List, true, false, sym, ap, ◌∙◌, arith, rules, Bool, to_z, of_z, w64}
use mir.Val.{SFits}
use Rattle.std.specs.Prelude.{ℤ}
use Rattle.std.proofs.lemmas.Int.{to_z-of_z}
use borrow.Author.Count.{below_more}
use Rattle.frames.specs.Checks.{is_value}
use Rattle.frames.specs.Reading.{piece, content_value, fits_value}
use Rattle.frames.specs.PieceLaws.{each_passes, one_fails}
use Rattle.frames.proofs.decoding.are_values.Goals as goal

pub returns : goal.returns
returns c = sym (each_passes (is_value) 8 c.args.body.now (λ k l. c.loop-k.invariant k (omega arith)))

-- what is found of a value is found of its bytes
found : (bytes : List ℕ) (k : ℕ) (value : ℤ) (b : Bool) → value ≡ content_value (piece 8 bytes k) → SFits w64 value → b ≡ fits_value (to_z w64 (of_z w64 value)) → is_value (piece 8 bytes k) ≡ b
found bytes k value b e f h = ap fits_value (sym e) ∙ ap fits_value (sym (to_z-of_z w64 value f)) ∙ sym h

pub returns-then-not-is_value : goal.returns-then-not-is_value
returns-then-not-is_value c =
    let e : is_value (piece 8 c.args.body.now c.loop-k.k) ≡ false = found c.args.body.now c.loop-k.k c.read_value.result c.is_value.result c.read_value.ensures (search rules) c.is_value.ensures ∙ c.if-not-is_value.true in
    sym (one_fails is_value 8 c.args.body.now c.loop-k.k c.loop-k-test.true e)

pub loop-k-preserved : goal.loop-k-preserved
loop-k-preserved c =
    below_more (λ j. is_value (piece 8 c.args.body.now j) ≡ true) c.loop-k.k c.loop-k.invariant
    (found c.args.body.now c.loop-k.k c.read_value.result c.is_value.result c.read_value.ensures (search rules) c.is_value.ensures ∙ c.if-not-is_value.false)
