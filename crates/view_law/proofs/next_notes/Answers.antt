use Rattle.view_law.proofs.Viewing.{next_notes_are}
use Rattle.view_law.proofs.next_notes.Goals as goal

pub returns : goal.returns
returns c = λ N config i p g k x a w b n is. next_notes_are config i p g k x a w b n is
