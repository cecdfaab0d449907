use Rattle.std.proofs.Common.{◌∙◌, ap}
use Rattle.node_grid.specs.Class.{is_sound}
use Rattle.fault_classes.specs.ClassLaws.{sound_is}
use Rattle.fault_classes.proofs.plan.FaultPlan.sound.Goals as goal

pub returns : goal.returns
returns g c = c.is_sound.ensures ∙ ap is_sound c.class.ensures ∙ sound_is c.args.self.now c.args.period c.args.node c.requires.node
