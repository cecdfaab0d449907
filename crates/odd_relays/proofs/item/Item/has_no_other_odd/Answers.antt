use Rattle.std.proofs.Common.{sym, ◌∙◌, arith}
use Rattle.node_grid.specs.SetFacts.{member-lt}
use Rattle.odd_relays.proofs.Laying.{only_one}
use Rattle.odd_relays.proofs.item.Item.has_no_other_odd.Goals as goal

pub without-requires : goal.without-requires
without-requires g c = (omega arith, member-lt g.row.N c.args.self.now.phase.members c.args.self.now.commander c.len.ensures.ids c.args.self.now.member)

pub returns : goal.returns
returns g c = λ alone. only_one c.args.self.now.odd c.args.self.now.commander (sym c.without.ensures ∙ c.is_empty.ensures.0 alone)
