use Rattle.std.proofs.Common.{ℕ, List, sym, ap, ◌∙◌, arith}
use Rattle.node_grid.specs.NodeSet.{has_id}
use Rattle.heard_links.proofs.Saying.{says_none, are_passed_on}
use Rattle.heard_links.proofs.Sets.{few_m}
use Rattle.item_phase.proofs.Marking.{in_minus}
use Rattle.item_phase.proofs.Sharing.{are_plain}
use Rattle.item_phase.proofs.item_phase.ItemPhase.plain_members.Goals as goal

pub has_few_odd-requires : goal.has_few_odd-requires
has_few_odd-requires g c = (omega arith, (omega arith, few_m c.args.phase.now c.requires.heard.set))

pub returns-then-has_few_odd : goal.returns-then-has_few_odd
returns-then-has_few_odd g c = λ i k on ne at.
    let x = c.args.phase.now in
    let links = c.args.self.now.links in
    let h = c.requires.heard in
    let parts = in_minus c.args.members.now c.touched.result k (ap (λ (s : List ℕ). has_id s k) (sym c.minus.ensures) ∙ at) in
    are_plain g.V.PartialEq.eq g.V.Item.form x links c.args.members.now c.requires.all g.met.V.Exact.exact
    (are_passed_on g.V.Item.form g.V.Item.first_slot g.V.Item.tells g.V.Item.entry_form g.V.Item.in_range g.met.V.Item.made_of g.met.V.Item.fits x links h)
    (says_none g.V.Item.form g.V.Item.first_slot g.V.Item.tells g.V.Item.entry_form g.V.Item.in_range g.met.V.Item.made_of g.met.V.Item.fits x links h)
    c.args.odd.now c.touched.result c.requires.odd (c.has_few_odd.ensures.0 c.if-has_few_odd.true) c.touched.ensures i k on ne parts.0 parts.1
