use Rattle.std.proofs.Common.{lit<}
use Rattle.agreed_state.proofs.agreed.Agreed.standing_fits.Goals as goal

pub is_empty-requires : goal.is_empty-requires
is_empty-requires g c = lit< tt
