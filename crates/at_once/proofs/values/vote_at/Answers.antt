use Rattle.at_once.proofs.values.vote_at.Goals as goal

pub returns : goal.returns
returns g c = λ x hears. record {
  votes_are = λ j y h. c.vote-votes.ensures j y h.due (h.told c.told-told.result (c.told-told.ensures x hears));
  off_are = λ j y h q low other. c.off-off.ensures j y h.due (h.told c.told-told.result (c.told-told.ensures x hears)) q low other;
}
