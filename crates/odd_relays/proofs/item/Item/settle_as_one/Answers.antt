use Rattle.std.proofs.Common.{sym, ◌∙◌, arith}
use Rattle.node_grid.specs.SetFacts.{off_apart}
use Rattle.omh_paths.specs.MemberLaws.{Distinct-ids}
use Rattle.odd_relays.specs.Telling.{telling}
use Rattle.odd_relays.proofs.Laying.{first_on}
use Rattle.odd_relays.proofs.Direct.{direct_alike, direct_common}
use Rattle.odd_relays.proofs.item.Item.settle_as_one.Goals as goal

pub are_alike-requires : goal.are_alike-requires
are_alike-requires g c =
    (omega arith, (c.args.self.now.by_node, c.in-Some.ensures.within))

pub value_at-requires : goal.value_at-requires
value_at-requires g c = let l = c.in-Some.ensures.within in omega (arith, l, c.args.self.now.by_node)

pub settle-requires : goal.settle-requires
settle-requires g c =
    let l = c.in-Some.ensures.within in
    let ne = off_apart c.args.nodes.now c.args.self.now.commander c.in-Some.first c.requires.others (first_on c.args.nodes.now c.in-Some.first (sym c.in-Some.ensures.first)) in
    (omega arith, (c.requires.few, (l, (ne, c.requires.room))))

pub returns-then-are_alike-clause-settled : goal.returns-then-are_alike-clause-settled
returns-then-are_alike-clause-settled g c =
    let t = telling g.S.Relays.says c.args.self.now in
    direct_alike t g.V.PartialEq.eq g.met.V.Exact.exact (Distinct-ids g.row.N t.members c.len.ensures.ids) c.requires.few c.args.self.now.member c.args.nodes.now c.value_at.result c.requires.others
    c.requires.full (λ k on. c.are_alike.ensures c.if-are_alike.true k on ∙ sym c.value_at.ensures)

pub returns-then-has_no_other_odd-clause-settled : goal.returns-then-has_no_other_odd-clause-settled
returns-then-has_no_other_odd-clause-settled g c =
    let t = telling g.S.Relays.says c.args.self.now in
    λ i on. c.settle.ensures.settled
    ∙ direct_common t g.V.PartialEq.eq g.met.V.Exact.exact (Distinct-ids g.row.N t.members c.len.ensures.ids) c.requires.few c.args.self.now.member c.if-self-gt0.true (c.has_no_other_odd.ensures c.if-has_no_other_odd.true) i c.in-Some.first
    (off_apart c.args.nodes.now t.commander i c.requires.others on) (off_apart c.args.nodes.now t.commander c.in-Some.first c.requires.others (first_on c.args.nodes.now c.in-Some.first (sym c.in-Some.ensures.first)))
