-- Calls that end at a line.
use Rattle.std.proofs.Common.{◌≡◌, ℕ, ◌≤◌, List, [], ◌∷◌, ◌++◌, length}
use Rattle.input_lines.specs.Lines.{line_feed, IsUnbroken}
use Rattle.input_lines.specs.Numbers.{next_number}
use Rattle.input_lines.specs.Devices.{SinkView, WritesAll, all_some, all_front}
use Rattle.controller.specs.Input.{event_limit}
use Rattle.controller.specs.Course.{line_refusal}
use Rattle.controller.specs.Session.{Stand, StopsAtLine, Stops, Took}
use Rattle.program_words.specs.declared.status.Status.{Status}
use Rattle.program_words.specs.declared.status.Status.TheVariants.{Done, Usage, Unreadable, Refused, ReadFault, WriteFault, NoMemory, TooLong}
use Rattle.controller.proofs.Taking.{took_line, took_refused}

-- lines were taken, and the call ends at the one behind them
pub stops_taken : (status : Status) (from to : Stand) (lines : List (List ℕ)) (text line rest : List ℕ) (old mid new : SinkView) → Took from to lines text → to.rest ≡ line ++ line_feed ∷ rest → IsUnbroken line
    → length line ≤ event_limit → WritesAll old mid text → StopsAtLine status to.node line to.number mid new → Stops status from old new
stops_taken Refused from to lines text line rest old mid new t splits unbroken short wrote a =
    let taken = took_refused from to lines text line rest a.0 t splits unbroken short a.1 in
    (rest, lines ++ line ∷ [], text ++ (line_refusal a.0 to.number).text, taken.0, taken.1, all_some old mid new text (line_refusal a.0 to.number).text wrote a.2)
stops_taken WriteFault from to lines text line rest old mid new t splits unbroken short wrote a = (
  record { node = a.0; number = next_number to.number; rest = rest },
  lines ++ line ∷ [],
  text ++ a.1,
  took_line from to lines text line rest a.1 a.0 t splits unbroken short a.2,
  all_front old mid new text a.1 wrote a.3,
)
stops_taken Done from to lines text line rest old mid new t splits unbroken short wrote a = absurd a
stops_taken Usage from to lines text line rest old mid new t splits unbroken short wrote a = absurd a
stops_taken Unreadable from to lines text line rest old mid new t splits unbroken short wrote a = absurd a
stops_taken ReadFault from to lines text line rest old mid new t splits unbroken short wrote a = absurd a
stops_taken NoMemory from to lines text line rest old mid new t splits unbroken short wrote a = absurd a
stops_taken TooLong from to lines text line rest old mid new t splits unbroken short wrote a = absurd a
