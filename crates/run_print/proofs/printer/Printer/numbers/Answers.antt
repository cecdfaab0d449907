use Rattle.std.proofs.Common.{◌≡◌, ◌∷◌, [], ◌++◌, ℕ, length, subst, map, take, get_or, arith}
use Rattle.std.specs.Prelude.{codes, decimal}
use Rattle.std.proofs.lemmas.List.{take_more, map-append, length-map, length-take-le}
use Rattle.run_print.specs.Printing.{Prints}
use Rattle.run_text.specs.Text.{separator_at}
use Rattle.run_print.proofs.Joining.{then, joined-push, nothing}
use Rattle.run_print.proofs.printer.Printer.numbers.Goals as goal

pub bounds-numbers-k : goal.bounds-numbers-k
bounds-numbers-k g c = c.loop-k-test.true

pub number_at-requires : goal.number_at-requires
number_at-requires g c = assumption

pub loop-k-init : goal.loop-k-init
loop-k-init g c = nothing g.K.Sink.written g.K.Sink.faults c.args.self.now c.args.sink.now

pub loop-k-smaller : goal.loop-k-smaller
loop-k-smaller g c = omega (arith, c.loop-k-test.true)

pub loop-k-preserved : goal.loop-k-preserved
loop-k-preserved g c =
    let xs = c.args.numbers.now in
    let k : ℕ = c.loop-k.k in
    let place : k ≡ length (map decimal (take k xs)) = omega (arith, length-map (take k xs) decimal, length-take-le k xs, c.loop-k-test.true) in
    rw (take_more xs k 0 c.loop-k-test.true, map-append decimal (take k xs) (get_or xs k 0 ∷ []), joined-push (codes ",") (map decimal (take k xs)) (decimal (get_or xs k 0)))
    (then c.loop-k.invariant
    (subst (λ (n : ℕ). Prints g.K.Sink.written g.K.Sink.faults c.loop-k.self c.loop-k.sink c.number_at.new.self c.number_at.new.sink (separator_at (codes ",") n ++ decimal (get_or xs k 0))) place c.number_at.ensures))
