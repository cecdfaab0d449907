use Rattle.std.proofs.Common.{ℕ, ◌+◌, get_or, sym, ap, ◌∙◌, arith}
use Rattle.node_grid.specs.SetFacts.{member-lt}
use Rattle.omh_paths.specs.declared.wrapped.Wrapped.TheVariants.{Fault}
use Rattle.omh_paths.specs.Paths.{outside}
use Rattle.settled_paths.proofs.Folds.{own_place}
use Rattle.settled_paths.proofs.exchange.Exchange.own_term.Goals as goal

pub place-requires : goal.place-requires
place-requires g c = (omega arith, member-lt g.row.N c.outside-others.result c.args.i c.len.ensures.ids (sym c.has.ensures ∙ c.if-has.true))

pub value_at-requires : goal.value_at-requires
value_at-requires g c =
    let at = own_place g.row.N c.args.i c.place.result (outside c.args.self.now.members c.args.path.now) c.outside-others.result c.outside-others.ensures c.place.ensures.ids c.place.ensures.count (sym c.has.ensures ∙ c.if-has.true) in
    omega (arith, at.1, c.requires.room)

pub returns-then-has : goal.returns-then-has
returns-then-has g c = λ on.
    let at = own_place g.row.N c.args.i c.place.result (outside c.args.self.now.members c.args.path.now) c.outside-others.result c.outside-others.ensures c.place.ensures.ids c.place.ensures.count (sym c.has.ensures ∙ c.if-has.true) in
    c.value_at.ensures ∙ ap (λ (k : ℕ). get_or c.args.laid.now (c.args.from + k) (Fault 0)) at.0
