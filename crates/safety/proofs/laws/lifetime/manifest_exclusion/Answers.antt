use Rattle.safety.proofs.Manifest.{manifest_exclusion_law}
use Rattle.safety.proofs.laws.lifetime.manifest_exclusion.Goals as goal

pub returns : goal.returns
returns c = manifest_exclusion_law c.manifest.ensures c.exclusion.ensures
