use Rattle.capacities.proofs.Rooms.{less_room_law}
use Rattle.capacities.proofs.laws.less_room.Goals as goal

pub returns : goal.returns
returns c = less_room_law
