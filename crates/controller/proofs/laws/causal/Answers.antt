use Rattle.controller.proofs.Causal as proof
use Rattle.controller.proofs.laws.causal.Goals as goal

pub returns : goal.returns
returns c = proof.causal
