use Rattle.std.proofs.Common.{◌≡◌, take, false}
use Rattle.data_slot.specs.Votes.{is_off}
use Rattle.data_slot.proofs.vote.is_off.Given as goal

abbrev pub invariant-loop-k : goal.invariant-loop-k
invariant-loop-k g l = is_off l.config (take l.k l.due) l.told l.votes l.node ≡ false
