use Rattle.std.proofs.Common.{◌≡◌, [], sym, ◌∙◌, rules}
use Rattle.list_scheduler.proofs.Picking.{starters_none, starters_told, starters_unready}
use Rattle.list_scheduler.proofs.copies.Copies.starters.Goals as goal

pub returns-then-is_empty : goal.returns-then-is_empty
returns-then-is_empty g c =
    let none : c.open_nodes-open.result ≡ [] = search rules in
    starters_none g.row.N c.args.t c.args.graph.now c.args.free.now c.open_nodes-open.result c.args.self.now c.open_nodes-open.ensures none

pub returns-then-is_ready : goal.returns-then-is_ready
returns-then-is_ready g c = c.open_nodes-open.ensures ∙ starters_told g.row.N c.args.t c.args.graph.now c.args.free.now c.args.self.now (sym c.is_ready.ensures ∙ c.if-is_ready.true)

pub returns-else-is_ready : goal.returns-else-is_ready
returns-else-is_ready g c = c.empty.ensures ∙ starters_unready g.row.N c.args.t c.args.graph.now c.args.free.now c.args.self.now (sym c.is_ready.ensures ∙ c.if-is_ready.false)
