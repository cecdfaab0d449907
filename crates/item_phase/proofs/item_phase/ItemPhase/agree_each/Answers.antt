use Rattle.std.proofs.Common.{rules, ℕ, false, ◌+◌, sym, ap, subst, ◌∙◌, inl, inr, arith, lit<}
use Rattle.std.proofs.lemmas.Bool.{cases_eq}
use Rattle.node_grid.specs.NodeSet.{has_id}
use Rattle.heard_links.specs.Talks.{members_at}
use Rattle.heard_links.proofs.Sets.{node_low}
use Rattle.item_phase.specs.Settled.{IsLaid}
use Rattle.item_phase.proofs.Agreed.{still_heard, settled_each}
use Rattle.item_phase.proofs.item_phase.ItemPhase.agree_each.Goals as goal

pub listen_for-requires : goal.listen_for-requires
listen_for-requires g c = (
  search rules,
  (
    elim c.requires.heard.set.capacity [ inl e ↦ rw e (lit< tt) | inr e ↦ rw e (lit< tt) ],
    (still_heard g.V.Item.form g.V.Item.first_slot g.V.Item.tells c.args.phase.now (c.args.phase.now.config.now.m + 1) c.loop-commander.self.links c.args.self.now.links c.loop-commander.invariant.links c.requires.heard, c.loop-commander-test.true),
  ),
)

pub loop-commander-preserved : goal.loop-commander-preserved
loop-commander-preserved g c =
    let inv = c.loop-commander.invariant in
    let x = c.args.phase.now in
    let set = c.requires.heard.set in
    let e = c.listen_for.ensures in
    record {
      links = e.links ∙ inv.links;
      seen = e.seen ∙ inv.seen;
      room = e.room ∙ inv.room;
      laid = λ i k low on member ne. elim (cases_eq k c.loop-commander.commander) [
        | inl here ↦
            subst (λ (q : ℕ). IsLaid g.V.PartialEq.eq g.V.Item.form x c.listen_for.new.self.links c.listen_for.new.self.each.items c.listen_for.new.self.convicting i q) (sym here)
            (e.here i on (ap (has_id (members_at x i)) (sym here) ∙ member) (λ q. ne (here ∙ q)))
        | inr other ↦ e.others i k (node_low x set i (set.awake i on)) other (inv.laid i k (omega arith) on member ne)
      ];
    }

pub returns-clause-settled : goal.returns-clause-settled
returns-clause-settled g c =
    let inv = c.loop-commander.invariant in
    let end = c.loop-commander-test.false in
    settled_each g.V.PartialEq.eq g.V.Item.form g.V.Item.first_slot g.V.Item.tells c.args.phase.now c.args.self.now.links c.requires.heard c.loop-commander.self inv.links
    (record { plain = c.empty-plain.result; is_all = false; ill = c.ill-ill.result }) inv.seen (record { same = λ all. cc; plain = λ all. cc; used = c.ill-ill.ensures.used; well = c.ill-ill.ensures.well }) c.empty-plain.ensures
    (λ i k low on member ne. inv.laid i k (omega arith) on member ne)
