use Rattle.std.proofs.Common.{◌∷◌, ap, sym, ◌∙◌, take, arith}
use Rattle.live_node.specs.Event.{words}
use Rattle.live_node.proofs.Splitting.{split_at_space, one_word, behind}
use Rattle.live_node.proofs.words.split.Goals as goal

pub returns-in-Some-clause-words : goal.returns-in-Some-clause-words
returns-in-Some-clause-words c =
    let first = c.in-Some.ensures in
    split_at_space c.args.line.now c.in-Some.place first.0.high first.1 (λ j less. first.0.before j (omega arith) less)
    ∙ ap (λ r. take c.in-Some.place c.args.line.now ∷ words r) (sym (behind c.args.line.now c.in-Some.place))

pub returns-in-None-clause-words : goal.returns-in-None-clause-words
returns-in-None-clause-words c = one_word c.args.line.now (λ j less. c.in-None.ensures j (omega arith) less)
