use Rattle.std.proofs.Common.{rules, ◌≡◌, ◌<◌, List, ℕ, [], true, false, not, length, inl, inr, arith, sym, ap, ◌∙◌}
use Rattle.std.proofs.lemmas.Bool.{cases_Bool}
use Rattle.std.proofs.lemmas.List.{get_or_default}
use Rattle.node_grid.specs.NodeSet.{has_id}
use Rattle.heard_links.specs.Talks.{members_at}
use Rattle.heard_links.proofs.Sets.{node_low}
use Rattle.item_phase.proofs.Standing.{against_stranger, against_plain, against_laid}
use Rattle.item_phase.proofs.item_phase.ItemPhase.is_against.Goals.{then-has, else-has}
use Rattle.item_phase.proofs.item_phase.ItemPhase.is_against.Goals as goal

pub returns-then-not-has : goal.returns-then-not-has
returns-then-not-has g c =
    let a = c.args in
    let low : a.c < g.row.N = node_low a.phase.now c.requires.settled.heard.set a.c c.requires.within in
    let room : a.c < length a.self.now.convicting = first_of (omega arith, search rules) in
    elim c.if-has.branch [
      | then-has w ↦
          let member : has_id (members_at a.phase.now a.i) a.c ≡ true = ap (λ (ms : List ℕ). has_id ms a.c) (sym c.members_of.ensures) ∙ sym c.has.ensures ∙ w.if-has.true in
          let off : w.has-then-has.result ≡ false = elim (cases_Bool w.has-then-has.result) [
            | inl on ↦ let e : not w.has-then-has.result ≡ false = ap not on in let v = w.value-is in let h = c.if-not-has.true in absurd (cc)
            | inr off ↦ off
          ] in
          c.has-then-not-has.ensures
          ∙ ap (λ (s : List ℕ). has_id s a.i) (get_or_default a.self.now.convicting a.c c.index-self-c.result [] room)
          ∙ against_laid g.V.PartialEq.eq g.V.Item.form g.V.Item.first_slot g.V.Item.tells a.phase.now a.self.now c.requires.settled a.i c.requires.node a.c c.requires.version member c.requires.other
          (sym w.has-then-has.ensures ∙ off)
      | else-has w ↦ let v = w.value-is in let h = c.if-not-has.true in absurd (cc)
    ]

pub returns-else-not-has : goal.returns-else-not-has
returns-else-not-has g c =
    let a = c.args in
    c.if-not-has.false
    ∙ elim c.if-has.branch [
      | then-has w ↦
          let member : has_id (members_at a.phase.now a.i) a.c ≡ true = ap (λ (ms : List ℕ). has_id ms a.c) (sym c.members_of.ensures) ∙ sym c.has.ensures ∙ w.if-has.true in
          let on : w.has-then-has.result ≡ true = elim (cases_Bool w.has-then-has.result) [
            | inl on ↦ on
            | inr off ↦ let e : not w.has-then-has.result ≡ true = ap not off in let v = w.value-is in let h = c.if-not-has.false in absurd (cc)
          ] in
          against_plain g.V.PartialEq.eq g.V.Item.form g.V.Item.first_slot g.V.Item.tells a.phase.now a.self.now c.requires.settled a.i c.requires.node a.c member c.requires.other
          (sym w.has-then-has.ensures ∙ on)
      | else-has w ↦
          against_stranger g.V.PartialEq.eq g.V.Item.form g.V.Item.first_slot g.V.Item.tells a.phase.now a.self.now c.requires.settled a.i c.requires.node a.c
          (ap (λ (ms : List ℕ). has_id ms a.c) (sym c.members_of.ensures) ∙ sym c.has.ensures ∙ w.if-has.false)
    ]
