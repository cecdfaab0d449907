-- The numbers of the statuses.
use Rattle.std.specs.Prelude.{ℕ}
use Rattle.program_words.specs.declared.status.Status.{Status}
use Rattle.program_words.specs.declared.status.Status.TheVariants.{Done, Usage, Unreadable, Refused, ReadFault, WriteFault, NoMemory, TooLong}

abbrev pub number_of : Status → ℕ
number_of Done = 0
number_of Usage = 2
number_of Unreadable = 3
number_of Refused = 4
number_of ReadFault = 5
number_of WriteFault = 6
number_of NoMemory = 7
number_of TooLong = 8
