use Rattle.std.proofs.Common.{◌≡◌, ◌∷◌, [], ◌++◌, List, ℕ, length, map, arith, ap, sym, ◌∙◌, append_assoc, length-append, append-nil, subst}
use Rattle.std.specs.Prelude.{codes}
use Rattle.std.proofs.lemmas.List.{map-append, length-map}
use Rattle.run_text.specs.Text.{separated, rows_item}
use Rattle.run_print.specs.Printing.{Prints}
use Rattle.run_print.proofs.Joining.{further_whole, then_inside}
use Rattle.run_print.proofs.printer.Printer.rows.Goals as goal

pub loop-member-preserved : goal.loop-member-preserved
loop-member-preserved g c =
    let item : ℕ → List ℕ = rows_item c.args.nodes c.args.rows.now in
    let ys = c.loop-member.yielded in
    let q = c.in-Some.member in
    let place : c.loop-member.printed ≡ length (map item ys) = c.loop-member.invariant.place ∙ sym (length-map ys item) in
    record {
      can = tt;
      ends = tt;
      split = c.loop-member.invariant.split ∙ ap (λ xs. ys ++ xs) c.in-Some.ensures.steps ∙ sym (append_assoc ys (q ∷ []) c.next.new.self);
      few = c.loop-member.invariant.few;
      place = omega (arith, c.loop-member.invariant.place, length-append ys (q ∷ []));
      prints = rw (map-append item ys (q ∷ [])) (further_whole (codes " ") (map item ys) (item q) c.loop-member.invariant.prints (then_inside _ _ _ (rw place at c.item_front.ensures) c.row_of.ensures));
    }

pub returns : goal.returns
returns g c =
    let ys = c.loop-member.yielded in
    let all : ys ≡ c.args.members.now = sym (c.loop-member.invariant.split ∙ ap (λ (xs : List ℕ). ys ++ xs) c.in-None.ensures.steps.0 ∙ append-nil ys) in
    subst (λ (xs : List ℕ). Prints g.K.Sink.written g.K.Sink.faults c.args.self.now c.args.sink.now c.loop-member.self c.loop-member.sink (separated (codes " ") (map (rows_item c.args.nodes c.args.rows.now) xs)))
    all c.loop-member.invariant.prints
