use Rattle.std.proofs.Common.{refl}
use Rattle.live_law.specs.Run.{system_given}
use Rattle.protocol.specs.Accepted.{IsAccepted}
use Rattle.live_law.proofs.laws.given.Goals as goal

pub returns : goal.returns
returns c N sc inputs cs p is given linked claimed =
    let accepted : IsAccepted (system_given sc inputs) = record {
      capacity = is.system.capacity;
      config = is.system.config;
      plan = is.system.plan;
      plan_nodes = is.system.plan_nodes;
      plan_rounds = is.system.plan_rounds;
      inputs = given.each;
      close = given.close;
    }
    in
    record {
      answers = λ i low some. c.cluster.ensures N sc inputs cs is linked i p low some;
      accepted = accepted;
      safe = c.runs.ensures (system_given sc inputs) accepted refl p ((c.claims.ensures (system_given sc inputs) sc.clock p).claim.0 claimed);
    }
