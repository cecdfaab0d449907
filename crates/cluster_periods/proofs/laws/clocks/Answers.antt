use Rattle.std.proofs.Common.{refl}
use Rattle.scenario.specs.Scenario.{system_of}
use Rattle.cluster_periods.proofs.Claims.{claim_is}
use Rattle.cluster_periods.proofs.laws.clocks.Goals as goal

pub returns : goal.returns
returns c N sc p is claimed k has = c.run_clocks.ensures (system_of sc) is.system refl k (is.clock k has) p (claim_is (system_of sc) p claimed)
