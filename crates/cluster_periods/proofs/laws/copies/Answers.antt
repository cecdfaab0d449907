use Rattle.std.proofs.Common.{refl}
use Rattle.scenario.specs.Scenario.{system_of}
use Rattle.cluster_periods.proofs.Claims.{claim_is}
use Rattle.cluster_periods.proofs.laws.copies.Goals as goal

pub returns : goal.returns
returns c N sc p is claimed = c.run_copies.ensures (system_of sc) is.system refl p (claim_is (system_of sc) p claimed)
