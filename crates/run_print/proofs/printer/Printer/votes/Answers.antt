use Rattle.std.proofs.Common.{◌≡◌, ◌<◌, ◌∷◌, [], ◌++◌, ℕ, List, length, map, take, get_or, subst, arith}
use Rattle.std.specs.Prelude.{codes}
use Rattle.std.proofs.lemmas.List.{take_more, map-append, length-map, length-take-le}
use Rattle.run_text.specs.Text.{separator_at, vote_item}
use Rattle.run_print.specs.Printing.{Prints}
use Rattle.run_print.proofs.Joining.{further_whole}
use Rattle.run_print.proofs.printer.Printer.votes.Goals as goal

pub loop-k-preserved : goal.loop-k-preserved
loop-k-preserved g c =
    let item : ℕ → List ℕ = vote_item c.args.votes.now in
    let due = c.args.due.now in
    let k = c.loop-k.k in
    let within : k < length due = omega (arith, c.loop-k-test.true, c.loop-k.auto.k-end) in
    let place : k ≡ length (map item (take k due)) = omega (arith, length-map (take k due) item, length-take-le k due) in
    rw (take_more due k 0 within, map-append item (take k due) (get_or due k 0 ∷ []))
    (further_whole (codes " ") (map item (take k due)) (item (get_or due k 0)) c.loop-k.invariant
    (subst (λ (n : ℕ). Prints g.K.Sink.written g.K.Sink.faults c.loop-k.self c.loop-k.sink c.vote_item.new.self c.vote_item.new.sink (separator_at (codes " ") n ++ item (get_or due k 0))) place c.vote_item.ensures))
