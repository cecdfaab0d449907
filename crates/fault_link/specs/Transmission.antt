-- The transmission of one frame.
use Rattle.std.specs.Prelude.{◌≢◌, ◌<◌}
use Rattle.slot_plan.specs.Slots.{slot_count}
use Rattle.fault_classes.specs.Plan.{Plan}
use Rattle.fault_link.specs.declared.Transmission.{Transmission}

-- a transmission under a plan, from one node to another
pub record IsTransmission (plan : Plan) (w : Transmission) : Type 0 where
  pub period : w.period < plan.periods
  pub slot : w.slot < slot_count plan.rounds
  pub from : w.from < plan.nodes
  pub to : w.to < plan.nodes
  pub link : w.from ≢ w.to
