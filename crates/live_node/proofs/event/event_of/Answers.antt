use Rattle.std.proofs.Common.{Option, ℕ, List, Bor, None, Some, length, option_map, ap, sym, ◌∙◌}
use Rattle.node_grid.specs.TruthFacts.{is_some_map}
use Rattle.live_node.proofs.Splitting.{behind_is, one, two, three, more, given}
use Rattle.live_node.proofs.event.event_of.Goals as goal

abbrev text : Option (Bor (List ℕ)) → Option (List ℕ)
text o = option_map (λ (b : Bor (List ℕ)). b.now) o

pub returns-in_default-clause-event : goal.returns-in_default-clause-event
returns-in_default-clause-event c =
    c.of_one_word.ensures.event c.args.room.now
    ∙ sym (one c.args.line.now c.split.result.0.now (behind_is c.args.line.now c.split.result.0.now (text c.split.result.1) None c.split.ensures.words (ap text c.in_default.is)))

pub returns-in_default-clause-fits : goal.returns-in_default-clause-fits
returns-in_default-clause-fits c = c.of_one_word.ensures.fits (length c.args.room.now)

pub returns-in_default-behind-clause-event : goal.returns-in_default-behind-clause-event
returns-in_default-behind-clause-event c =
    let h = behind_is c.args.line.now c.split.result.0.now (text c.split.result.1) (Some c.in-Some.behind.now) c.split.ensures.words (ap text c.in-Some.is) in
    let i = behind_is c.in-Some.behind.now c.split-2.result.0.now (text c.split-2.result.1) None c.split-2.ensures.words (ap text c.in_default-behind.is) in
    c.of_two_words.ensures.event c.args.room.now ∙ sym (two c.args.line.now c.split.result.0.now c.in-Some.behind.now c.split-2.result.0.now h i)

pub returns-in_default-behind-clause-fits : goal.returns-in_default-behind-clause-fits
returns-in_default-behind-clause-fits c = c.of_two_words.ensures.fits (length c.args.room.now)

pub returns-in_default-behind-2-clause-event : goal.returns-in_default-behind-2-clause-event
returns-in_default-behind-2-clause-event c =
    let h = behind_is c.args.line.now c.split.result.0.now (text c.split.result.1) (Some c.in-Some.behind.now) c.split.ensures.words (ap text c.in-Some.is) in
    let i = behind_is c.in-Some.behind.now c.split-2.result.0.now (text c.split-2.result.1) (Some c.in-Some-behind.behind.now) c.split-2.ensures.words (ap text c.in-Some-behind.is) in
    let j = behind_is c.in-Some-behind.behind.now c.split-3.result.0.now (text c.split-3.result.1) None c.split-3.ensures.words (ap text c.in_default-behind-2.is) in
    c.of_three_words.ensures.event c.args.room.now ∙ sym (three c.args.line.now c.split.result.0.now c.in-Some.behind.now c.split-2.result.0.now c.in-Some-behind.behind.now c.split-3.result.0.now h i j)

pub returns-in_default-behind-2-clause-fits : goal.returns-in_default-behind-2-clause-fits
returns-in_default-behind-2-clause-fits c = c.of_three_words.ensures.fits (length c.args.room.now)

pub returns-then-is_some-clause-event : goal.returns-then-is_some-clause-event
returns-then-is_some-clause-event c =
    let h = behind_is c.args.line.now c.split.result.0.now (text c.split.result.1) (Some c.in-Some.behind.now) c.split.ensures.words (ap text c.in-Some.is) in
    let i = behind_is c.in-Some.behind.now c.split-2.result.0.now (text c.split-2.result.1) (Some c.in-Some-behind.behind.now) c.split-2.ensures.words (ap text c.in-Some-behind.is) in
    let j = behind_is c.in-Some-behind.behind.now c.split-3.result.0.now (text c.split-3.result.1) (Some c.in-Some-behind-2.behind.now) c.split-3.ensures.words (ap text c.in-Some-behind-2.is) in
    let last = given (text c.split-4.result.1) (is_some_map (λ (b : Bor (List ℕ)). b.now) c.split-4.result.1 ∙ sym c.is_some.ensures ∙ c.if-is_some.true) in
    let k = behind_is c.in-Some-behind-2.behind.now c.split-4.result.0.now (text c.split-4.result.1) (Some last.0) c.split-4.ensures.words last.1 in
    sym (more c.args.line.now c.split.result.0.now c.in-Some.behind.now c.split-2.result.0.now c.in-Some-behind.behind.now c.split-3.result.0.now c.in-Some-behind-2.behind.now c.split-4.result.0.now last.0 h i j k)
