use Rattle.std.proofs.Common.{ℕ, ◌≡◌, ◌≢◌, true, List, refl, sym, ap, subst, ◌∙◌, inl, inr, arith}
use Rattle.std.proofs.lemmas.Bool.{cases_eq, both_ways}
use Rattle.node_grid.specs.NodeSet.{has_id}
use Rattle.heard_links.specs.Talks.{members_at}
use Rattle.heard_links.proofs.Sets.{node_low}
use Rattle.item_phase.specs.declared.item_phase.ItemPhase.{ItemPhase}
use Rattle.item_phase.specs.Settled.{IsLaid}
use Rattle.item_phase.proofs.item_phase.ItemPhase.listen_for.Goals.{then-has+then-me-commander+then-has-2, else-has, else-has-via-then-has+then-me-commander+else-has-2, else-has-via-then-has+else-me-commander, else-has-via-else-has}
use Rattle.item_phase.proofs.item_phase.ItemPhase.listen_for.Goals as goal

pub loop-me-init : goal.loop-me-init
loop-me-init g c = record {
  links = refl;
  seen = refl;
  room = refl;
  here = λ i low on member ne. absurd (omega arith);
  others = λ i k low ne is. is;
}

pub loop-me-preserved : goal.loop-me-preserved
loop-me-preserved g c =
    let x = c.args.phase.now in
    let set = c.requires.heard.set in
    let q : ℕ = c.args.commander in
    let me : ℕ = c.loop-me.me in
    let inv = c.loop-me.invariant in
    elim c.if-has.branch [
      | then-has+then-me-commander+then-has-2 w ↦
          let e = w.listen_to.ensures in
          let n = w.listen_to.new.self in
          record {
            links = ap (λ (s : ItemPhase g.row.V.Denot g.row.N). s.links) w.self-is ∙ e.links ∙ inv.links;
            seen = ap (λ (s : ItemPhase g.row.V.Denot g.row.N). s.seen) w.self-is ∙ e.seen ∙ inv.seen;
            room = ap (λ (s : ItemPhase g.row.V.Denot g.row.N). s.settling) w.self-is ∙ e.room ∙ inv.room;
            here = λ i low on member ne.
                subst (λ (s : ItemPhase g.row.V.Denot g.row.N). IsLaid g.V.PartialEq.eq g.V.Item.form x s.links s.each.items s.convicting i q) (sym w.self-is)
                (elim (cases_eq i me) [
                  | inl it ↦ subst (λ (k : ℕ). IsLaid g.V.PartialEq.eq g.V.Item.form x n.links n.each.items n.convicting k q) (sym it) e.here
                  | inr other ↦ e.others i q (node_low x set i (set.awake i on)) (inr other) (inv.here i (omega arith) on member ne)
                ]);
            others = λ i k low ne is.
                subst (λ (s : ItemPhase g.row.V.Denot g.row.N). IsLaid g.V.PartialEq.eq g.V.Item.form x s.links s.each.items s.convicting i k) (sym w.self-is)
                (e.others i k low (inl ne) (inv.others i k low ne is));
          }
      | else-has w ↦
          let passed : (i : ℕ) → has_id x.awake i ≡ true → has_id (members_at x i) q ≡ true → q ≢ i → i ≢ me = λ i on member ne it. elim w.else-has.branch [
            | else-has-via-then-has+then-me-commander+else-has-2 v ↦
                both_ways _ (sym (ap (λ (ms : List ℕ). has_id ms q) v.members_of.ensures) ∙ sym v.has-then-me-commander.ensures ∙ v.if-has-2.false) (ap (λ (k : ℕ). has_id (members_at x k) q) (sym it) ∙ member)
            | else-has-via-then-has+else-me-commander v ↦ ne (sym (it ∙ v.if-me-commander.false))
            | else-has-via-else-has v ↦ both_ways _ (sym c.has.ensures ∙ v.if-has.false) (ap (has_id x.awake) (sym it) ∙ on)
          ] in
          record {
            links = ap (λ (s : ItemPhase g.row.V.Denot g.row.N). s.links) w.self-is ∙ inv.links;
            seen = ap (λ (s : ItemPhase g.row.V.Denot g.row.N). s.seen) w.self-is ∙ inv.seen;
            room = ap (λ (s : ItemPhase g.row.V.Denot g.row.N). s.settling) w.self-is ∙ inv.room;
            here = λ i low on member ne.
                let other = passed i on member ne in
                subst (λ (s : ItemPhase g.row.V.Denot g.row.N). IsLaid g.V.PartialEq.eq g.V.Item.form x s.links s.each.items s.convicting i q) (sym w.self-is)
                (inv.here i (omega (arith, low, other)) on member ne);
            others = λ i k low ne is.
                subst (λ (s : ItemPhase g.row.V.Denot g.row.N). IsLaid g.V.PartialEq.eq g.V.Item.form x s.links s.each.items s.convicting i k) (sym w.self-is) (inv.others i k low ne is);
          }
    ]

pub returns-clause-here : goal.returns-clause-here
returns-clause-here g c = λ i on member ne.
    let low = c.requires.heard.set.awake i on in
    let end = c.loop-me-test.false in
    c.loop-me.invariant.here i (omega arith) on member ne
