use Rattle.std.proofs.Common.{sym, ◌∙◌}
use Rattle.heard_states.proofs.Sendings.{told_sent}
use Rattle.heard_states.proofs.sending.Sending.told.Goals as goal

pub returns-in-None : goal.returns-in-None
returns-in-None g c = told_sent c.args.self.now c.requires.sending c.args.to c.args.from (sym c.in-None.ensures)
