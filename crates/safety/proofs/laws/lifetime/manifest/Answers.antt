use Rattle.safety.proofs.Manifest.{manifest_law}
use Rattle.safety.proofs.laws.lifetime.manifest.Goals as goal

pub returns : goal.returns
returns c = manifest_law c.reception.ensures c.start.ensures c.step.ensures
