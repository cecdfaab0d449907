use Rattle.std.proofs.Common.{subst, sym, ◌∙◌, arith, rules}
use Rattle.list_scheduler.specs.Copies.{IsTable}
use Rattle.list_scheduler.proofs.Completing.{completed_by_none, completed_by_some, works_listed, works_few}
use Rattle.list_scheduler.proofs.copies.Copies.complete_one.Goals as goal

pub returns-in_default-clause-copies : goal.returns-in_default-clause-copies
returns-in_default-clause-copies g c =
    completed_by_none g.row.N c.args.graph.now c.args.node c.args.self.now c.args.claim (subst (IsTable g.row.N) c.self.view_is c.self.invariant) (sym c.works.ensures ∙ c.in_default.is)

pub next_state-requires : goal.next_state-requires
next_state-requires g c = (omega arith, works_listed c.args.graph.now c.args.self.now c.args.node c.in-Some.t c.in-Some.periods c.requires.copies (sym c.works.ensures ∙ c.in-Some.is))

pub set-requires : goal.set-requires
set-requires g c = (search rules, (works_few c.args.self.now c.args.node c.in-Some.t c.in-Some.periods (sym c.works.ensures ∙ c.in-Some.is), c.requires.node))

pub verdict_on-requires : goal.verdict_on-requires
verdict_on-requires g c = (omega arith, works_listed c.args.graph.now c.args.self.now c.args.node c.in-Some.t c.in-Some.periods c.requires.copies (sym c.works.ensures ∙ c.in-Some.is))

pub returns-clause-copies : goal.returns-clause-copies
returns-clause-copies g c =
    completed_by_some g.row.N c.args.graph.now c.args.node c.in-Some.t c.in-Some.periods c.args.self.now c.set.new.self c.args.claim c.next_state.result (subst (IsTable g.row.N) c.self.view_is c.self.invariant)
    (sym c.works.ensures ∙ c.in-Some.is) c.next_state.ensures c.set.ensures
