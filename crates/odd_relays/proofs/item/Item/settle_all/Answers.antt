use Rattle.std.proofs.Common.{ℕ, ◌≡◌, ◌≢◌, true, List, ap, ◌∙◌, arith}
use Rattle.std.proofs.lemmas.Bool.{both_ways}
use Rattle.node_grid.specs.NodeSet.{has_id}
use Rattle.node_grid.specs.SetFacts.{off_rest, on_rest, member-lt}
use Rattle.odd_relays.proofs.item.Item.settle_all.Goals as goal

pub without-nodes-requires : goal.without-nodes-requires
without-nodes-requires g c = (omega arith, member-lt g.row.N c.args.self.now.phase.members c.args.self.now.commander c.len.ensures.ids c.args.self.now.member)

pub returns-then-is_empty-clause-settled : goal.returns-then-is_empty-clause-settled
returns-then-is_empty-clause-settled g c = λ i on ne.
    absurd (both_ways _ (ap (λ (s : List ℕ). has_id s i) (c.is_empty.ensures.0 c.if-is_empty.true)) (on_rest c.args.awake.now c.without-nodes.result c.args.self.now.commander i c.without-nodes.ensures on ne))

pub settle_as_one-requires : goal.settle_as_one-requires
settle_as_one-requires g c =
    let off = off_rest c.args.awake.now c.without-nodes.result c.args.self.now.commander c.without-nodes.ensures in
    let fulls : (q : ℕ) → has_id c.args.self.now.phase.members q ≡ true → has_id c.args.self.now.phase.full q ≡ true → c.args.self.now.commander ≢ q → has_id c.without-nodes.result q ≡ true =
    λ q on f ne. on_rest c.args.awake.now c.without-nodes.result c.args.self.now.commander q c.without-nodes.ensures (c.requires.full q on f) ne in (
      omega arith,
      (omega arith, (c.requires.few, (off, (fulls, c.requires.room)))),
    )

pub settle_each-requires : goal.settle_each-requires
settle_each-requires g c =
    let off = off_rest c.args.awake.now c.without-nodes.result c.args.self.now.commander c.without-nodes.ensures in
    (omega arith, (omega arith, (c.requires.few, (off, (c.in-None.ensures.room, c.requires.places)))))

pub returns-in-Some-clause-settled : goal.returns-in-Some-clause-settled
returns-in-Some-clause-settled g c = λ i on ne.
    let here = on_rest c.args.awake.now c.without-nodes.result c.args.self.now.commander i c.without-nodes.ensures on ne in
    c.fill.ensures.laid i here ∙ c.in-Some.ensures.settled i here

pub returns-in-None-clause-settled : goal.returns-in-None-clause-settled
returns-in-None-clause-settled g c = λ i on ne. c.settle_each.ensures.settled i (on_rest c.args.awake.now c.without-nodes.result c.args.self.now.commander i c.without-nodes.ensures on ne)
