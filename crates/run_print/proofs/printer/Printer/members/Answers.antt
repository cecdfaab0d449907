use Rattle.std.proofs.Common.{◌≡◌, ◌∷◌, [], ◌++◌, ℕ, List, length, map, arith, ap, sym, subst, ◌∙◌, append_assoc, length-append, append-nil}
use Rattle.std.specs.Prelude.{codes, decimal}
use Rattle.std.proofs.lemmas.List.{map-append, length-map}
use Rattle.run_print.specs.Printing.{Prints}
use Rattle.run_text.specs.Text.{separated, separator_at}
use Rattle.run_print.proofs.Joining.{then, joined-push}
use Rattle.run_print.proofs.printer.Printer.members.Goals as goal

pub number_at-requires : goal.number_at-requires
number_at-requires g c = assumption

pub loop-node-preserved : goal.loop-node-preserved
loop-node-preserved g c =
    let ys = c.loop-node.yielded in
    let q = c.in-Some.node in
    let place : c.loop-node.printed ≡ length (map decimal ys) = c.loop-node.invariant.place ∙ sym (length-map ys decimal) in
    record {
      can = tt;
      ends = tt;
      split = c.loop-node.invariant.split ∙ ap (λ xs. ys ++ xs) c.in-Some.ensures.steps ∙ sym (append_assoc ys (q ∷ []) c.next.new.self);
      few = c.loop-node.invariant.few;
      place = omega (arith, c.loop-node.invariant.place, length-append ys (q ∷ []));
      prints = rw (map-append decimal ys (q ∷ []), joined-push (codes ",") (map decimal ys) (decimal q)) (then c.loop-node.invariant.prints
          (subst (λ (n : ℕ). Prints g.K.Sink.written g.K.Sink.faults c.loop-node.self c.loop-node.sink c.number_at.new.self c.number_at.new.sink (separator_at (codes ",") n ++ decimal q)) place c.number_at.ensures));
    }

pub returns : goal.returns
returns g c =
    let ys = c.loop-node.yielded in
    let set = c.args.set.now in
    let all : ys ≡ set = sym (c.loop-node.invariant.split ∙ ap (λ (xs : List ℕ). ys ++ xs) c.in-None.ensures.steps.0 ∙ append-nil ys) in
    subst (λ (xs : List ℕ). Prints g.K.Sink.written g.K.Sink.faults c.args.self.now c.args.sink.now c.loop-node.self c.loop-node.sink xs)
    (ap (λ (zs : List ℕ). separated (codes ",") (map decimal zs)) all) c.loop-node.invariant.prints
