use Rattle.std.proofs.Common.{refl}
use Rattle.cluster_periods.proofs.laws.order_is_free.Goals as goal

pub returns : goal.returns
returns c N sc order p = refl
