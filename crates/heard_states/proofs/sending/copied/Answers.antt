use Rattle.std.proofs.Common.{ℕ, ◌∷◌, [], ◌++◌, ◌∙◌, List, length, get_or, sym, ap, lit<, arith}
use Rattle.std.proofs.lemmas.List.{take_more, take_all, length-take-le}
use Rattle.heard_states.proofs.sending.copied.Goals as goal

pub new-body-requires : goal.new-body-requires
new-body-requires c = lit< tt

pub loop-byte-init : goal.loop-byte-init
loop-byte-init c = c.new-body.ensures

pub bounds-bytes-byte-index : goal.bounds-bytes-byte-index
bounds-bytes-byte-index c = c.loop-byte-test.true

pub push-requires : goal.push-requires
push-requires c = (lit< tt, omega (arith, ap length c.loop-byte.invariant, length-take-le c.loop-byte.byte-index c.args.bytes.now c.loop-byte.auto.byte-index-end, c.loop-byte-test.true, c.requires))

pub loop-byte-smaller : goal.loop-byte-smaller
loop-byte-smaller c = omega (arith, c.loop-byte-test.true)

pub loop-byte-preserved : goal.loop-byte-preserved
loop-byte-preserved c =
    let xs = c.args.bytes.now in
    let i : ℕ = c.loop-byte.byte-index in
    c.push.ensures.items ∙ ap (λ (ys : List ℕ). ys ++ get_or xs i 0 ∷ []) c.loop-byte.invariant ∙ sym (take_more xs i 0 c.loop-byte-test.true)

pub returns : goal.returns
returns c = c.loop-byte.invariant ∙ take_all c.loop-byte.byte-index c.args.bytes.now c.loop-byte-test.false
