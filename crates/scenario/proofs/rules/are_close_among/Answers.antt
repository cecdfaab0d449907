use Rattle.std.proofs.Common.{rules, ◌++◌, ◌∷◌, [], ℕ, ℤ, List, map, sym, ap, ◌∙◌, append_assoc}
use mir.Syntax.{w64}
use mir.Val.{SFits}
use Rattle.std.proofs.lemmas.Int.{to_z-of_z}
use Rattle.std.proofs.lemmas.List.{map-append}
use Rattle.clock_skew.specs.Clock.{number_at}
use Rattle.scenario.proofs.rules.are_close_among.Goals as goal

pub loop-node-preserved : goal.loop-node-preserved
loop-node-preserved c =
    let i = c.loop-node.invariant in
    let k = c.in-Some.node in
    let xs = c.loop-node.yielded in
    let f = number_at c.args.row.now in
    let fits : SFits w64 c.number_at.result = search rules in
    record {
      can = tt;
      ends = tt;
      split = i.split ∙ ap (λ (rest : List ℕ). xs ++ rest) c.in-Some.ensures.steps ∙ sym (append_assoc xs (k ∷ []) c.next.new.self);
      values =
          c.push.ensures.items
          ∙ ap (λ (v : ℤ). c.loop-node.numbers.items ++ v ∷ []) (to_z-of_z w64 c.number_at.result fits)
          ∙ ap (λ (vs : List ℤ). vs ++ c.number_at.result ∷ []) i.values
          ∙ ap (λ (v : ℤ). map f xs ++ v ∷ []) c.number_at.ensures
          ∙ sym (map-append f xs (k ∷ []));
    }
