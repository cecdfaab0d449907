use Rattle.scenario.specs.Scenario.{system_of}
use Rattle.top_call.proofs.laws.safe_runs.Goals as goal

pub returns : goal.returns
returns c N sc is = record {
  promised = λ p claim. c.promises.ensures N sc p is ((c.claims.ensures (system_of sc) sc.clock p).claim.1 claim);
  told = λ p. (c.claims.ensures (system_of sc) sc.clock p).claim;
}
