use Rattle.judge.proofs.OneText as proof
use Rattle.judge.proofs.laws.one_text.Goals as goal

pub returns : goal.returns
returns c = proof.one_text
