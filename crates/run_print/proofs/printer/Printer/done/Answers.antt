use Rattle.std.proofs.Common.{◌≡◌, ◌∷◌, [], ◌++◌, List, ℕ, length, map, arith, ap, sym, ◌∙◌, append_assoc, length-append, append-nil, subst}
use Rattle.std.specs.Prelude.{codes}
use Rattle.std.proofs.lemmas.List.{map-append, length-map}
use Rattle.run_text.specs.Text.{separated, done_item}
use Rattle.run_print.specs.Printing.{Prints}
use Rattle.run_print.proofs.Joining.{further_whole}
use Rattle.run_print.proofs.printer.Printer.done.Goals as goal

pub loop-member-preserved : goal.loop-member-preserved
loop-member-preserved g c =
    let item : ℕ → List ℕ = done_item c.args.done.now in
    let ys = c.loop-member.yielded in
    let q = c.in-Some.member in
    let place : c.loop-member.printed ≡ length (map item ys) = c.loop-member.invariant.place ∙ sym (length-map ys item) in
    record {
      can = tt;
      ends = tt;
      split = c.loop-member.invariant.split ∙ ap (λ xs. ys ++ xs) c.in-Some.ensures.steps ∙ sym (append_assoc ys (q ∷ []) c.next.new.self);
      few = c.loop-member.invariant.few;
      place = omega (arith, c.loop-member.invariant.place, length-append ys (q ∷ []));
      prints = rw (map-append item ys (q ∷ [])) (further_whole (codes " ") (map item ys) (item q) c.loop-member.invariant.prints (rw place at c.done_item.ensures));
    }

pub returns : goal.returns
returns g c =
    let ys = c.loop-member.yielded in
    let all : ys ≡ c.args.members.now = sym (c.loop-member.invariant.split ∙ ap (λ (xs : List ℕ). ys ++ xs) c.in-None.ensures.steps.0 ∙ append-nil ys) in
    subst (λ (xs : List ℕ). Prints g.K.Sink.written g.K.Sink.faults c.args.self.now c.args.sink.now c.loop-member.self c.loop-member.sink (separated (codes " ") (map (done_item c.args.done.now) xs)))
    all c.loop-member.invariant.prints
