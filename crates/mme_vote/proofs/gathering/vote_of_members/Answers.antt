use Rattle.std.proofs.Common.{rules, ◌<◌, ◌++◌, ◌∷◌, [], ℕ, ℤ, List, length, sym, ap, subst, ◌∙◌, arith, append_assoc, append-nil, Option, lit<}
use mir.Syntax.{w64}
use mir.Val.{SFits, to_z, of_z}
use Rattle.std.specs.List.{filter_map, cons_option, All}
use Rattle.std.proofs.lemmas.Int.{to_z-of_z}
use Rattle.std.proofs.lemmas.List.{length_push}
use Rattle.std.proofs.lemmas.List.Elements.{All-head, All-tail, filter_map-append}
use Rattle.node_grid.specs.ListFacts.{tail_shorter}
use Rattle.mme_vote.proofs.gathering.vote_of_members.Goals as goal

pub loop-k-preserved-in-Some-value_of : goal.loop-k-preserved-in-Some-value_of
loop-k-preserved-in-Some-value_of g c =
    let i = c.loop-k.invariant in
    let k = c.in-Some.k in
    let xs = c.loop-k.yielded in
    let fits : SFits w64 c.in-Some-value_of.value = search rules in
    let long = length_push xs k in
    let low : All (λ j. j < g.row.N) (k ∷ c.next.new.self) = subst (All (λ j. j < g.row.N)) c.in-Some.ensures.steps i.low in
    record {
      can = tt;
      ends = tt;
      split = i.split ∙ ap (λ (rest : List ℕ). xs ++ rest) c.in-Some.ensures.steps ∙ sym (append_assoc xs (k ∷ []) c.next.new.self);
      low = All-tail (λ j. j < g.row.N) k c.next.new.self low;
      values = λ f is.
          c.push.ensures.items
          ∙ ap (λ (v : ℤ). c.loop-k.present.items ++ v ∷ []) (to_z-of_z w64 c.in-Some-value_of.value fits)
          ∙ ap (λ (vs : List ℤ). vs ++ c.in-Some-value_of.value ∷ []) (i.values f is)
          ∙ ap (λ (o : Option ℤ). filter_map f xs ++ cons_option o []) (sym c.in-Some-value_of.is ∙ is k c.value_of.result (All-head (λ j. j < g.row.N) k c.next.new.self low) c.value_of.ensures)
          ∙ sym (filter_map-append f xs (k ∷ []));
      few = (let e = ap length c.push.ensures.items in let l = length_push c.loop-k.present.items (to_z w64 (of_z w64 c.in-Some-value_of.value)) in let n = i.few in omega arith);
    }

pub loop-k-preserved : goal.loop-k-preserved
loop-k-preserved g c =
    let i = c.loop-k.invariant in
    let k = c.in-Some.k in
    let xs = c.loop-k.yielded in
    let long = length_push xs k in
    let low : All (λ j. j < g.row.N) (k ∷ c.next.new.self) = subst (All (λ j. j < g.row.N)) c.in-Some.ensures.steps i.low in
    record {
      can = tt;
      ends = tt;
      split = i.split ∙ ap (λ (rest : List ℕ). xs ++ rest) c.in-Some.ensures.steps ∙ sym (append_assoc xs (k ∷ []) c.next.new.self);
      low = All-tail (λ j. j < g.row.N) k c.next.new.self low;
      values = λ f is.
          i.values f is
          ∙ sym (append-nil (filter_map f xs))
          ∙ ap (λ (o : Option ℤ). filter_map f xs ++ cons_option o []) (sym c.in_default.is ∙ is k c.value_of.result (All-head (λ j. j < g.row.N) k c.next.new.self low) c.value_of.ensures)
          ∙ sym (filter_map-append f xs (k ∷ []));
      few = (let n = i.few in omega arith);
    }

pub new-present-requires : goal.new-present-requires
new-present-requires g c = lit< tt

pub iter-k-items-requires : goal.iter-k-items-requires
iter-k-items-requires g c = (lit< tt, lit< tt)

pub next-requires : goal.next-requires
next-requires g c = (lit< tt, tt)

pub loop-k-smaller-in-Some-value_of : goal.loop-k-smaller-in-Some-value_of
loop-k-smaller-in-Some-value_of g c = tail_shorter c.in-Some.ensures.steps

pub loop-k-smaller : goal.loop-k-smaller
loop-k-smaller g c = tail_shorter c.in-Some.ensures.steps
