use Rattle.std.proofs.Common.{lit<}
use Rattle.fault_classes.proofs.rules.is_line.Goals as goal

pub are_nodes-requires : goal.are_nodes-requires
are_nodes-requires g c = lit< tt

pub has-requires : goal.has-requires
has-requires g c = lit< tt

pub are_slots-requires : goal.are_slots-requires
are_slots-requires g c = tt

pub is_effect-requires : goal.is_effect-requires
is_effect-requires g c = tt
