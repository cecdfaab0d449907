use Rattle.std.proofs.Common.{lit<}
use Rattle.task_graph.proofs.range.fits.Goals as goal

pub ascends-requires : goal.ascends-requires
ascends-requires g c = tt

pub are_below-requires : goal.are_below-requires
are_below-requires g c = tt

pub is_empty-requires : goal.is_empty-requires
is_empty-requires g c = lit< tt

pub members_below-requires : goal.members_below-requires
members_below-requires g c = lit< tt

pub len-requires : goal.len-requires
len-requires g c = lit< tt
