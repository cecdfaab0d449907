use Rattle.std.proofs.Common.{inr}
use Rattle.odd_relays.proofs.item.Item.find_leader.Goals as goal

pub returns-in-Some-clause-alike : goal.returns-in-Some-clause-alike
returns-in-Some-clause-alike g c = inr c.in-Some.ensures.alike
