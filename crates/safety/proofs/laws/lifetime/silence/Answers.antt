use Rattle.safety.proofs.Manifest.{silence_law}
use Rattle.safety.proofs.laws.lifetime.silence.Goals as goal

pub returns : goal.returns
returns c = silence_law c.manifest_exclusion.ensures
