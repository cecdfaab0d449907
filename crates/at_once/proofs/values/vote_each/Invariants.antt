use Rattle.told_values.specs.Slot.{slot_of}
use Rattle.at_once.proofs.Voting.{AreVotes, AreLeaders}
use Rattle.at_once.proofs.Voters.{AreVotersBelow}
use Rattle.at_once.proofs.values.vote_each.Given as goal

abbrev pub invariant-loop-i : goal.invariant-loop-i
invariant-loop-i g l = record {
  votes : AreVotes (slot_of g.D.Dues.dues l.slot) l.dues.0 l.states l.dues.1 l.i l.votes l.off;
  leaders : AreLeaders g.row.N l.dues.0 l.leaders;
  voters : AreVotersBelow g.row.N l.i l.votes l.voters;
}
