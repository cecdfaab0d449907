use Rattle.worked_runs.proofs.Ticking.{accepted, are_clocks, near}
use Rattle.worked_runs.proofs.clocks_beside_a_liar_stay_near.Goals as goal

pub returns-clause-accepted : goal.returns-clause-accepted
returns-clause-accepted c = accepted

pub returns-clause-clocks : goal.returns-clause-clocks
returns-clause-clocks c = are_clocks

pub returns-clause-near : goal.returns-clause-near
returns-clause-near c = near c.run_clocks.ensures
