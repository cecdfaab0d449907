use Rattle.std.proofs.Common.{◌≡◌, true, sym, ◌∙◌, arith}
use Rattle.node_grid.specs.NodeSet.{has_id}
use Rattle.node_grid.specs.TruthFacts.{and_no_left, and_no_right}
use Rattle.error_reports.specs.Charge.{is_sender}
use Rattle.error_reports.proofs.Voters.{voters_with, voters_without, is_row_found}
use Rattle.error_reports.proofs.charge_all.voters.Goals as goal
use Rattle.error_reports.proofs.charge_all.voters.Goals.{else-has-via-then-has+else-is_some, else-has-via-else-has}

pub overflow_sub-result : goal.overflow_sub-result
overflow_sub-result g c =
    let sends : is_sender c.args.rows.now c.args.node ≡ true = is_row_found c.get.result _ c.get.ensures.row ∙ sym c.is_some.ensures ∙ c.if-is_some.true in
    let member : has_id c.args.members.now c.args.node ≡ true = sym c.has.ensures ∙ c.if-has.true in
    omega (arith, voters_with g.row.N c.args.rows.now c.args.members.now c.args.node c.args.senders c.requires.members c.requires.senders member sends)

pub returns-then-is_some : goal.returns-then-is_some
returns-then-is_some g c =
    let sends : is_sender c.args.rows.now c.args.node ≡ true = is_row_found c.get.result _ c.get.ensures.row ∙ sym c.is_some.ensures ∙ c.if-is_some.true in
    let member : has_id c.args.members.now c.args.node ≡ true = sym c.has.ensures ∙ c.if-has.true in
    omega (arith, voters_with g.row.N c.args.rows.now c.args.members.now c.args.node c.args.senders c.requires.members c.requires.senders member sends)

pub returns-else-has : goal.returns-else-has
returns-else-has g c =
    let rows = c.args.rows.now in
    let members = c.args.members.now in
    let j = c.args.node in
    voters_without g.row.N rows members j c.args.senders c.requires.members c.requires.senders
    (elim c.else-has.branch [
      | else-has-via-then-has+else-is_some w ↦
          and_no_right (has_id members j) (is_sender rows j) (is_row_found w.get.result _ w.get.ensures.row ∙ sym w.is_some.ensures ∙ w.if-is_some.false)
      | else-has-via-else-has w ↦ and_no_left (has_id members j) (is_sender rows j) (sym c.has.ensures ∙ w.if-has.false)
    ])
