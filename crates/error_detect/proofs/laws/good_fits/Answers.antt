use Rattle.error_detect.specs.GoodLaws.{good_fits}
use Rattle.error_detect.proofs.laws.good_fits.Goals as goal

pub returns : goal.returns
returns c = good_fits
