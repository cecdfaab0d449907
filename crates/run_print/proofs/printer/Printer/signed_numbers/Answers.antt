use Rattle.std.specs.Fmt.{signed_decimal}
use Rattle.std.proofs.Common.{rules, ◌≡◌, ◌<◌, ◌∷◌, [], ℕ, pos, length, map, take, get_or, arith, w64}
use Rattle.std.specs.Prelude.{codes}
use mir.Val.{SFits}
use Rattle.std.proofs.lemmas.Int.{to_z-of_z}
use Rattle.std.proofs.lemmas.List.{take_more, map-append, length-map, length-take-le}
use Rattle.run_print.proofs.Joining.{further, nothing}
use Rattle.run_print.proofs.printer.Printer.signed_numbers.Goals as goal

pub loop-k-preserved : goal.loop-k-preserved
loop-k-preserved g c =
    let xs = c.args.numbers.now in
    let k : ℕ = c.loop-k.k in
    let within : k < length xs = omega (arith, c.loop-k-test.true) in
    let fits : SFits w64 (get_or xs k (pos 0)) = search rules in
    let place : k ≡ length (map signed_decimal (take k xs)) = omega (arith, length-map (take k xs) signed_decimal, length-take-le k xs) in
    rw (take_more xs k (pos 0) within, map-append signed_decimal (take k xs) (get_or xs k (pos 0) ∷ []))
    (further (codes ",") (map signed_decimal (take k xs)) (signed_decimal (get_or xs k (pos 0))) c.loop-k.invariant (rw place at c.separator.ensures) (rw (to_z-of_z w64 (get_or xs k (pos 0)) fits) at c.signed.ensures))

pub loop-k-init : goal.loop-k-init
loop-k-init g c = nothing g.K.Sink.written g.K.Sink.faults c.args.self.now c.args.sink.now

pub loop-k-smaller : goal.loop-k-smaller
loop-k-smaller g c = omega (arith, c.loop-k-test.true)

pub separator-requires : goal.separator-requires
separator-requires g c = assumption

pub signed-requires : goal.signed-requires
signed-requires g c = assumption
