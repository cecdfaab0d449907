use Rattle.std.proofs.Common.{ℕ, ◌-◌, List, length, take, drop, sym, ◌∙◌, arith}
use Rattle.std.proofs.lemmas.List.{take_all, length-drop}
use Rattle.std.proofs.lemmas.Slice.Eq.{bytes_eq-Decides}
use Rattle.frames.proofs.decoding.is_repeated.Goals as goal

pub returns : goal.returns
returns c =
    let body : List ℕ = c.args.body.now in
    let n : ℕ = length body - c.args.width in
    λ same. (bytes_eq-Decides (take n body) (take n (drop c.args.width body))).0 (sym c.eq.ensures ∙ same)
    ∙ take_all n (drop c.args.width body) (omega (arith, length-drop c.args.width body))
