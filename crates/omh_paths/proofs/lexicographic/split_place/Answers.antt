use Rattle.std.proofs.Common.{◌≡◌, ◌++◌, ◌∷◌, [], ap, ◌∙◌, append_assoc, sym}
use Rattle.omh_paths.proofs.Ranks.{place_reached, rest_reached, place_passed}
use Rattle.omh_paths.proofs.lexicographic.split_place.Goals as goal

pub returns-then-rest-behind-clause-node : goal.returns-then-rest-behind-clause-node
returns-then-rest-behind-clause-node g c =
    let split : c.args.set.now ≡ c.loop-node.yielded ++ c.in-Some.node ∷ c.next.new.self = c.loop-node.invariant.split ∙ ap (λ xs. c.loop-node.yielded ++ xs) c.in-Some.ensures.steps in
    place_reached c.args.set.now c.loop-node.yielded c.next.new.self c.in-Some.node c.args.index c.args.behind c.loop-node.rest split c.loop-node.invariant.left c.if-rest-behind.true

pub returns-then-rest-behind-clause-rest : goal.returns-then-rest-behind-clause-rest
returns-then-rest-behind-clause-rest g c = rest_reached c.loop-node.yielded c.args.index c.args.behind c.loop-node.rest c.loop-node.invariant.left c.if-rest-behind.true

pub loop-node-preserved : goal.loop-node-preserved
loop-node-preserved g c = record {
  can = tt;
  ends = tt;
  split = c.loop-node.invariant.split ∙ ap (λ xs. c.loop-node.yielded ++ xs) c.in-Some.ensures.steps ∙ sym (append_assoc c.loop-node.yielded (c.in-Some.node ∷ []) c.next.new.self);
  left = place_passed c.loop-node.yielded c.in-Some.node c.args.index c.args.behind c.loop-node.rest c.loop-node.invariant.left c.if-rest-behind.false;
}
