use Rattle.node_alone.proofs.Accepted.{record_is}
use Rattle.node_alone.proofs.laws.accepted_records.Goals as goal

pub returns : goal.returns
returns c = record_is c.accepted.ensures
