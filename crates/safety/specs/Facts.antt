-- Facts that several crates cite.
use Rattle.protocol.specs.Accepted.{IsAccepted}
use Rattle.protocol.specs.Run.{System, classes, run}
use Rattle.safety.specs.Given.{IsGiven}
use Rattle.safety.specs.Runs.{ReceptionLaw}

pub given_of : ReceptionLaw → (sys : System) → IsAccepted sys → IsGiven (run sys) (classes sys)
given_of reception sys given = record {
  capacity = given.capacity;
  config = given.config;
  inputs = λ i p low. given.inputs i p low;
  close = given.close;
  classing = (reception sys given).0;
  reception = (reception sys given).1;
}
