use Rattle.draws.specs.Draws.{next_word}
use Rattle.draws.proofs.next_word.Goals as goal

pub returns : goal.returns
unfolding next_word
returns c = c.next_word.ensures
