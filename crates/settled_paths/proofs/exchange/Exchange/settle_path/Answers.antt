use Rattle.std.proofs.Common.{length, sym, ap, ◌∙◌, ◌*◌, arith}
use Rattle.node_grid.specs.SetFacts.{member-lt}
use Rattle.omh_paths.specs.Paths.{outside}
use Rattle.settled_paths.proofs.Folds.{own_place, own_laid, own_unlaid, path_done}
use Rattle.settled_paths.proofs.exchange.Exchange.settle_path.Goals as goal
use Rattle.settled_paths.proofs.exchange.Exchange.settle_path.Goals.{then-has, else-has}

pub place-requires : goal.place-requires
place-requires g c = (omega arith, member-lt g.row.N c.outside-others.result c.args.i c.len-width.ensures.ids (sym c.has.ensures ∙ c.if-has.true))

pub set_value-requires : goal.set_value-requires
set_value-requires g c =
    let others = outside c.args.self.now.members c.args.path.now in
    let at = own_place g.row.N c.args.i c.place.result others c.outside-others.result c.outside-others.ensures c.place.ensures.ids c.place.ensures.count (sym c.has.ensures ∙ c.if-has.true) in
    let wide = c.len-width.ensures.count ∙ ap length c.outside-others.ensures in
    omega (arith, at.1, c.requires.room, wide, ap (λ n. c.args.k * n) wide)

pub returns : goal.returns
returns g c =
    let others = outside c.args.self.now.members c.args.path.now in
    let wide = c.len-width.ensures.count ∙ ap length c.outside-others.ensures in
    path_done g.V.PartialEq.eq others c.args.i c.args.k c.len-width.result c.args.own c.settled_from_terms-settled.result c.args.work.now c.if-has.work c.set_value-2.new.values wide
    (elim c.if-has.branch [
      | then-has w ↦ own_laid g.row.N c.args.i (c.args.k * c.len-width.result) w.place.result others c.outside-others.result c.args.own c.args.work.now c.if-has.work c.outside-others.ensures c.len-width.ensures.ids w.place.ensures.count
          (sym c.has.ensures ∙ w.if-has.true) (w.work-is ∙ w.set_value.ensures)
      | else-has w ↦ own_unlaid c.args.i (c.args.k * c.len-width.result) others c.outside-others.result c.args.own c.args.work.now c.if-has.work c.outside-others.ensures (sym c.has.ensures ∙ w.if-has.false) w.work-is
    ])
    c.set_value-2.ensures c.settled_from_terms-settled.ensures
