use Rattle.std.proofs.Common.{ℕ, ap, ◌∙◌, arith}
use Rattle.std.specs.Prelude.{◌==◌}
use Rattle.frames.specs.PieceLaws.{AreBytes}
use Rattle.frames.proofs.Headers.{number_spelt}
use Rattle.frames.proofs.encoding.spells.Goals as goal

pub returns : goal.returns
returns c =
    let bytes : AreBytes c.args.bytes.now = λ i. omega (arith, c.type_inv.bytes i) in
    ap (λ (n : ℕ). n == c.args.number) c.number_at.ensures ∙ number_spelt c.args.at c.args.number c.args.bytes.now (omega (arith, c.requires)) bytes (omega (arith, c.ranges.number))
