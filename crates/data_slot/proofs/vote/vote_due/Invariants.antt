use Rattle.std.proofs.Common.{◌≡◌, take}
use Rattle.data_slot.specs.Values.{by_channel}
use Rattle.data_slot.specs.Votes.{vote_due}
use Rattle.data_slot.proofs.vote.vote_due.Given as goal

abbrev pub invariant-loop-k : goal.invariant-loop-k
invariant-loop-k g l = l.votes ≡ by_channel (take l.k l.due) (vote_due l.config l.agreed l.claims l.told)
