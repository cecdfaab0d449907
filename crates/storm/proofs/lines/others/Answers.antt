use Rattle.std.proofs.Common.{ℕ, ℤ, ◌≡◌, ◌+◌, ◌++◌, ◌∷◌, [], List, map, pos, ap, sym, ◌∙◌, append_assoc, Vec, Global, arith, to_z, of_z, w64}
use Rattle.std.proofs.lemmas.Int.{ints}
use Rattle.std.proofs.lemmas.Result.{IfOk-from_err}
use Rattle.scenario.specs.Parts.{these}
use Rattle.storm.proofs.Steps.{left, left_itself, left_other, all_left}
use Rattle.storm.proofs.lines.others.Goals as goal
use Rattle.storm.proofs.lines.others.Goals.{then-node-spell+in_ok-push, else-node-spell}

pub loop-node-preserved : goal.loop-node-preserved
loop-node-preserved c = elim c.if-node-spell.branch [
  | then-node-spell+in_ok-push w ↦
      let value : to_z w64 (of_z w64 w.from.result) ≡ pos c.loop-node.node = omega (arith, ints) in
      ap (λ (v : Vec ℤ Global). v.items ++ map pos (left c.args.spell.node (c.loop-node.node + 1))) w.numbers-is
      ∙ ap (λ (xs : List ℤ). xs ++ map pos (left c.args.spell.node (c.loop-node.node + 1))) w.in_ok-push.ensures.items
      ∙ ap (λ (z : ℤ). (c.loop-node.numbers.items ++ z ∷ []) ++ map pos (left c.args.spell.node (c.loop-node.node + 1))) value
      ∙ append_assoc c.loop-node.numbers.items (pos c.loop-node.node ∷ []) (map pos (left c.args.spell.node (c.loop-node.node + 1)))
      ∙ ap (λ (ks : List ℕ). c.loop-node.numbers.items ++ map pos ks) (sym (left_other c.args.spell.node c.loop-node.node c.loop-node-test.true w.if-node-spell.true))
      ∙ c.loop-node.invariant
  | else-node-spell w ↦
      ap (λ (v : Vec ℤ Global). v.items ++ map pos (left c.args.spell.node (c.loop-node.node + 1))) w.numbers-is
      ∙ ap (λ (ks : List ℕ). c.loop-node.numbers.items ++ map pos ks) (sym (left_itself c.args.spell.node c.loop-node.node c.loop-node-test.true w.if-node-spell.false))
      ∙ c.loop-node.invariant
]

pub loop-node-init : goal.loop-node-init
loop-node-init c = ap (λ (xs : List ℤ). xs ++ map pos (left c.args.spell.node 0)) c.new-numbers.ensures.items

pub returns : goal.returns
returns c =
    let last : c.loop-node.node ≡ 8 = omega (arith, c.loop-node-test.false, c.loop-node.auto.node-end) in
    ap these (all_left c.loop-node.numbers.items c.args.spell.node c.loop-node.node last c.loop-node.invariant)

pub returns-in_err-push : goal.returns-in_err-push
returns-in_err-push c = IfOk-from_err c.from_residual.result _ c.from_residual.ensures.0
