use Rattle.top_call.proofs.Rooms.{each_form}
use Rattle.top_call.proofs.laws.one_text.Goals as goal

pub returns : goal.returns
returns c = record {
  more_room = λ d small h. let r = c.more_room.ensures d small h in (r.0, r.1, λ form. each_form form small r.0 r.2);
  less_room = λ d large h few. let r = c.less_room.ensures d large h few in (r.0, r.1, λ form. each_form form r.0 large r.2);
}
