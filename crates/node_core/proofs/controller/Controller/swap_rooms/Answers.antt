use Rattle.std.proofs.Common.{sym, subst}
use Rattle.error_detect.specs.Watching.{Watch}
use Rattle.node_core.specs.Inside.{IsController}
use Rattle.node_core.proofs.controller.Controller.swap_rooms.Goals as goal

pub invariant_of-self : goal.invariant_of-self
invariant_of-self g c = subst (λ (w : Watch). IsController (record c.self.inside { watch = w })) (sym c.swap_rooms.ensures) c.self.invariant
