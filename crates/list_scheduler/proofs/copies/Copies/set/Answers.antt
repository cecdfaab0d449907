use Rattle.std.proofs.Common.{sym, ap, ◌∙◌, subst}
use Rattle.list_scheduler.specs.Copies.{CopyTable, table, IsTable, with_copy}
use Rattle.list_scheduler.specs.CopyLaws.{set_copy, IsTable-table}
use Rattle.list_scheduler.proofs.copies.Copies.set.Goals as goal

pub invariant_of-self : goal.invariant_of-self
invariant_of-self g c =
    subst (IsTable g.row.N) (sym (set_copy g.row.N c.self.inside.rows c.args.t c.args.node c.args.state c.self.invariant c.requires.task c.requires.node))
    (IsTable-table g.row.N (with_copy c.self.inside.rows c.args.t c.args.node c.args.state))

pub returns : goal.returns
returns g c =
    set_copy g.row.N c.self.inside.rows c.args.t c.args.node c.args.state c.self.invariant c.requires.task c.requires.node
    ∙ ap (λ (x : CopyTable). table g.row.N (with_copy x c.args.t c.args.node c.args.state)) c.self.view_is
