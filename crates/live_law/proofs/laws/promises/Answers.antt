use Rattle.scenario.specs.Scenario.{inputs_of}
use Rattle.live_law.proofs.laws.promises.Goals as goal

pub returns : goal.returns
returns c N sc cs p is linked claimed =
    record { answers = λ i low some. c.cluster.ensures N sc (inputs_of sc) cs is linked i p low some; promises = c.promises.ensures N sc p is claimed }
