use Rattle.std.proofs.Common.{ℕ, ◌≡◌, ◌≢◌, true, false, sym, ap, subst, ◌∙◌, inl, inr, arith}
use Rattle.std.proofs.lemmas.Bool.{cases_eq, both_ways}
use Rattle.node_grid.specs.NodeSet.{has_id}
use Rattle.heard_links.proofs.Sets.{node_low}
use Rattle.item_phase.specs.declared.item_phase.ItemPhase.{ItemPhase}
use Rattle.item_phase.specs.Settled.{IsLaid}
use Rattle.item_phase.proofs.Agreed.{seen_of_all, settled_as_one}
use Rattle.item_phase.proofs.item_phase.ItemPhase.agree_among.Goals as goal
use Rattle.item_phase.proofs.item_phase.ItemPhase.agree_among.Goals.{then-has+then-not-has, else-has, else-has-via-then-has+else-not-has, else-has-via-else-has}

pub returns-clause-settled : goal.returns-clause-settled
returns-clause-settled g c =
    let inv = c.loop-commander.invariant in
    let end = c.loop-commander-test.false in
    settled_as_one g.V.PartialEq.eq g.V.Item.form g.V.Item.first_slot g.V.Item.tells c.args.phase.now c.args.self.now.links c.requires.heard c.loop-commander.self inv.links
    c.args.members.now (record { plain = c.plain_members-plain.result; is_all = c.is_empty-is_all.result; ill = c.ill-ill.result }) c.requires.all inv.seen
    (seen_of_all g.V.Item.form c.args.phase.now c.args.self.now.links c.args.members.now c.requires.all (record { plain = c.plain_members-plain.result; is_all = c.is_empty-is_all.result; ill = c.ill-ill.result })
    (λ all. sym c.minus.ensures ∙ c.is_empty-is_all.ensures.0 all) c.ill-ill.ensures.used c.ill-ill.ensures.well)
    c.plain_members-plain.ensures
    (λ i k low on member off ne. inv.laid i k (omega arith) on member off ne)

pub loop-commander-preserved : goal.loop-commander-preserved
loop-commander-preserved g c =
    let x = c.args.phase.now in
    let set = c.requires.heard.set in
    let q = c.loop-commander.commander in
    let inv = c.loop-commander.invariant in
    let test = c.loop-commander-test.true in
    elim c.if-has.branch [
      | then-has+then-not-has w ↦
          let e = w.agree_on.ensures in
          let n = w.agree_on.new.self in
          record {
            links = ap (λ (s : ItemPhase g.row.V.Denot g.row.N). s.links) w.self-is ∙ e.links ∙ inv.links;
            seen = ap (λ (s : ItemPhase g.row.V.Denot g.row.N). s.seen) w.self-is ∙ e.seen ∙ inv.seen;
            room = ap (λ (s : ItemPhase g.row.V.Denot g.row.N). s.settling) w.self-is ∙ e.room ∙ inv.room;
            laid = λ i k low on member off ne.
                subst (λ (s : ItemPhase g.row.V.Denot g.row.N). IsLaid g.V.PartialEq.eq g.V.Item.form x s.links s.each.items s.convicting i k) (sym w.self-is)
                (elim (cases_eq k q) [
                  | inl here ↦ subst (λ (p : ℕ). IsLaid g.V.PartialEq.eq g.V.Item.form x n.links n.each.items n.convicting i p) (sym here) (e.here i on (λ h. ne (here ∙ h)))
                  | inr other ↦ e.others i k (node_low x set i (set.awake i on)) other (inv.laid i k (omega arith) on member off ne)
                ]);
          }
      | else-has w ↦
          let passed : (k : ℕ) → has_id c.args.members.now k ≡ true → has_id c.plain_members-plain.result k ≡ false → k ≢ q = λ k member off e. elim w.else-has.branch [
            | else-has-via-then-has+else-not-has v ↦ both_ways _ off (ap (has_id c.plain_members-plain.result) e ∙ sym v.has-then-has.ensures ∙ v.if-not-has.false)
            | else-has-via-else-has v ↦ both_ways _ (sym c.has.ensures ∙ v.if-has.false) (ap (has_id c.args.members.now) (sym e) ∙ member)
          ] in
          record {
            links = ap (λ (s : ItemPhase g.row.V.Denot g.row.N). s.links) w.self-is ∙ inv.links;
            seen = ap (λ (s : ItemPhase g.row.V.Denot g.row.N). s.seen) w.self-is ∙ inv.seen;
            room = ap (λ (s : ItemPhase g.row.V.Denot g.row.N). s.settling) w.self-is ∙ inv.room;
            laid = λ i k low on member off ne.
                let other = passed k member off in
                subst (λ (s : ItemPhase g.row.V.Denot g.row.N). IsLaid g.V.PartialEq.eq g.V.Item.form x s.links s.each.items s.convicting i k) (sym w.self-is)
                (inv.laid i k (omega (arith, low, other)) on member off ne);
          }
    ]
