use Rattle.capacities.proofs.Rooms.{more_room_law}
use Rattle.capacities.proofs.laws.more_room.Goals as goal

pub returns : goal.returns
returns c = more_room_law
