-- The kinds of error, as numbers of bits in a mask, and the number that stands for no claim of a task.
use Rattle.std.specs.Prelude.{ℕ}

-- nothing came from the sender in the slot
abbrev pub missing : ℕ
missing = 0

-- what came is no frame for the slot, or several frames came
abbrev pub malformed : ℕ
malformed = 1

-- the frame came outside the window
abbrev pub timing : ℕ
timing = 2

-- the sender has no agreed state
abbrev pub cold : ℕ
cold = 3

-- the sender's agreed state is another one
abbrev pub state : ℕ
state = 4

-- the sender claims a task that it doesn't run, or claims it too early
abbrev pub claim : ℕ
claim = 5

-- the sender runs a task longer than it may
abbrev pub overrun : ℕ
overrun = 6

-- a value of the sender is further from the vote than its channel allows
abbrev pub deviate : ℕ
deviate = 7

-- the sender told different things to different members; in version 2 alone
abbrev pub equivocate : ℕ
equivocate = 8

-- in place of a task, where none is claimed
abbrev pub no_claim : ℕ
no_claim = 255
